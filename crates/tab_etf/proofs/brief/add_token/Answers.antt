use Rattle.std.proofs.Common.{ap, sym, ◌∙◌, ◌∷◌, ◌++◌, [], List, ℕ, pos, length, arith}
use Rattle.tab_etf.proofs.Lengths.{int_length}
use Rattle.tab_etf.proofs.BriefsLemmas.{adds_as, adds_then, number_canon, word_canon, word_length}
use Rattle.tab_etf.proofs.brief.add_token.Goals as goal

pub add_two-requires : goal.add_two-requires
add_two-requires c =
    let short = rw c.in-Word.is at c.requires.short in
    let room = rw c.in-Word.is at c.requires.room in
    omega (arith, word_length c.in-Word.text.now short, room)

pub add_all-requires : goal.add_all-requires
add_all-requires c =
    let short = rw c.in-Word.is at c.requires.short in
    let room = rw c.in-Word.is at c.requires.room in
    omega (arith, word_length c.in-Word.text.now short, room, ap length c.as_bytes.ensures.value, c.add_two.ensures.len, c.add_two.ensures.capacity)

pub add_number-requires : goal.add_number-requires
add_number-requires c =
    let room = rw c.in-Number.is at c.requires.room in
    omega (arith, int_length (pos c.in-Number.number), room)

pub returns-in-Word : goal.returns-in-Word
returns-in-Word c =
    let short = rw c.in-Word.is at c.requires.short in
    let text = c.in-Word.text.now in
    rw c.in-Word.is (adds_as (adds_then c.add_two.ensures c.add_all.ensures)
    (ap (λ (s : List ℕ). (119 ∷ length text ∷ []) ++ s) c.as_bytes.ensures.value ∙ sym (word_canon text short)))

pub returns-in-Number : goal.returns-in-Number
returns-in-Number c = rw c.in-Number.is (adds_as c.add_number.ensures (sym (number_canon c.in-Number.number)))
