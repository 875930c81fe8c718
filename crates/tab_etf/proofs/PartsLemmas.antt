-- Parts of a term at the front of some bytes.
use native.Mathlib.Omega.{arith}
use Rattle.std.proofs.Common.{◌≡◌, ℕ, zero, suc, ◌+◌, ◌-◌, ◌<◌, ◌≤◌, List, [], ◌∷◌, length, take, drop, Ok, refl, sym, ap, ap₂, subst, ◌∙◌, ltb, false, length-take, take_all, slice_index_or}
use Rattle.std.specs.Str.{IsUtf8, chars}
use Rattle.std.proofs.lemmas.Bool.{le-ltb}
use Rattle.tab_term.specs.Data.{PlainTerms, atom, tuple}
use Rattle.tab_term.proofs.Lists.{chars_of_bytes}
use Rattle.tab_etf.specs.Reading.{term_at, behind, small_tuple, small_utf8_atom, short_text_at, leaf, times, utf8_is}
use Rattle.tab_etf.proofs.LeafLemmas.{utf8_again}

-- a tuple is its elements, one after another
tuple_here : (count : ℕ) (bytes : List ℕ) (levels : ℕ) (ts : PlainTerms) (rest : List ℕ) → times (term_at levels) count bytes ≡ Ok (ts, rest)
    → term_at (levels + 1) (104 ∷ count ∷ bytes) ≡ Ok (tuple ts, rest)
unfolding term_at behind small_tuple
tuple_here count bytes levels ts rest h = let e : levels + 1 ≡ suc levels = omega arith in rw (e, h) refl

pub tuple_at : (bytes : List ℕ) (levels : ℕ) (ts : PlainTerms) (rest : List ℕ) → 2 ≤ length bytes → slice_index_or bytes 0 0 ≡ 104
    → times (term_at levels) (slice_index_or bytes 1 0) (take (length bytes - 2) (drop 2 bytes)) ≡ Ok (ts, rest) → term_at (levels + 1) bytes ≡ Ok (tuple ts, rest)
tuple_at [] levels ts rest le tag h = absurd (omega (arith, le))
tuple_at (t ∷ []) levels ts rest le tag h = absurd (omega (arith, le))
tuple_at (t ∷ n ∷ bytes) levels ts rest le tag h =
    ap (λ k. term_at (levels + 1) (k ∷ n ∷ bytes)) tag ∙ tuple_here n bytes levels ts rest (ap (times (term_at levels) n) (sym (take_all (length (t ∷ n ∷ bytes) - 2) bytes (omega arith))) ∙ h)

-- a word of so many bytes
word_here : (count : ℕ) (rest : List ℕ) (levels : ℕ) → count < 256 → count ≤ length rest → IsUtf8 (take count rest) → 0 < levels
    → term_at levels (119 ∷ count ∷ rest) ≡ Ok (atom (take count rest), drop count rest)
unfolding term_at behind leaf small_utf8_atom short_text_at
word_here count rest zero small le h lt = absurd (omega (arith, lt))
word_here count rest (suc levels) small le h lt =
    let enough : ltb (length rest) count ≡ false = le-ltb _ _ le in
    let short : length (chars (take count rest)) ≤ 255 = omega (arith, chars_of_bytes (take count rest) h, length-take count rest, small) in
    rw (enough, utf8_again (take count rest) (suc (length rest) + 1) (h, short)) refl

pub word_at : (bytes word left : List ℕ) (levels : ℕ) → 2 ≤ length bytes → slice_index_or bytes 0 0 ≡ 119 → slice_index_or bytes 1 0 < 256
    → slice_index_or bytes 1 0 ≤ length (take (length bytes - 2) (drop 2 bytes))
    → word ≡ take (slice_index_or bytes 1 0) (take (length bytes - 2) (drop 2 bytes)) → IsUtf8 word
    → left ≡ drop (slice_index_or bytes 1 0) (take (length bytes - 2) (drop 2 bytes)) → 0 < levels → term_at levels bytes ≡ Ok (atom word, left)
word_at [] word left levels le tag small most e h f lt = absurd (omega (arith, le))
word_at (t ∷ []) word left levels le tag small most e h f lt = absurd (omega (arith, le))
word_at (t ∷ n ∷ bytes) word left levels le tag small most e h f lt =
    let all : take (length (t ∷ n ∷ bytes) - 2) bytes ≡ bytes = take_all (length (t ∷ n ∷ bytes) - 2) bytes (omega arith) in
    let w : word ≡ take n bytes = e ∙ ap (take n) all in
    let l : left ≡ drop n bytes = f ∙ ap (drop n) all in
    ap (λ k. term_at levels (k ∷ n ∷ bytes)) tag
    ∙ word_here n bytes levels small (subst (λ (b : List ℕ). n ≤ length b) all most) (subst IsUtf8 w h) lt
    ∙ sym (ap₂ (λ (x y : List ℕ). Ok (atom x, y)) w l)
