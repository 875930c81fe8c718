use Rattle.std.proofs.Common.{arith, ap, length}
use Rattle.tab_term.specs.Canon.{canon}
use Rattle.tab_term.specs.Data.{atom, list}
use Rattle.tab_term.specs.View.{term}
use Rattle.tab_lists.specs.EventTerms.{tag_word, told}
use Rattle.tab_term.specs.Tuples.{tid}
use Rattle.tab_etf.proofs.OutlinesLemmas.{five_length, triple_length}
use Rattle.tab_etf.proofs.events.body_len.Goals as goal

pub returns-in-Some : goal.returns-in-Some
returns-in-Some c =
    let e = c.args.event.now in
    let d = c.in-Some.detail in
    omega (
      arith,
      five_length (atom (tag_word e.tag)) (atom d.table) (term e.what) (list d.old) (tid e.age),
      ap (λ o. length (canon (told o (tag_word e.tag) (term e.what) e.age))) c.in-Some.is,
      ap (λ s. length (canon (atom s))) c.word.ensures.word,
      c.spelled_len.ensures,
      c.word_len.ensures.value,
      c.tid_len.ensures,
      c.detail_len.ensures,
      c.saturating_add.ensures,
      c.saturating_add-len.ensures,
      c.saturating_add-in-Some.ensures,
    )

pub returns-in-None : goal.returns-in-None
returns-in-None c =
    let e = c.args.event.now in
    omega (
      arith,
      triple_length (atom (tag_word e.tag)) (term e.what) (tid e.age),
      ap (λ o. length (canon (told o (tag_word e.tag) (term e.what) e.age))) c.in-None.is,
      ap (λ s. length (canon (atom s))) c.word.ensures.word,
      c.spelled_len.ensures,
      c.word_len.ensures.value,
      c.tid_len.ensures,
      c.saturating_add.ensures,
      c.saturating_add-len.ensures,
    )
