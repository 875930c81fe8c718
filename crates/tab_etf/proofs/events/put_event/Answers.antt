use Rattle.std.proofs.Common.{arith, ap, codes, length, sym}
use Rattle.tab_term.specs.Canon.{canon}
use Rattle.tab_term.specs.Data.{atom, list}
use Rattle.tab_term.specs.View.{term}
use Rattle.tab_lists.specs.EventTerms.{event_body, tag_word, told}
use Rattle.tab_term.specs.Tuples.{tid}
use Rattle.tab_etf.proofs.OutlinesLemmas.{five_length, pair_canon, pair_length}
use Rattle.tab_etf.proofs.WritingLemmas.{writes_as, writes_then}
use Rattle.tab_etf.proofs.events.put_event.Goals as goal

pub put_detailed-requires : goal.put_detailed-requires
put_detailed-requires g c =
    let e = c.args.event.now in
    let d = c.in-Some.detail in
    omega (
      arith,
      c.requires,
      pair_length (atom (codes "mnesia_table_event")) (event_body e),
      ap (λ o. length (canon (told o (tag_word e.tag) (term e.what) e.age))) c.in-Some.is,
      five_length (atom (tag_word e.tag)) (atom d.table) (term e.what) (list d.old) (tid e.age),
    )

pub returns-in-Some : goal.returns-in-Some
returns-in-Some g c =
    let e = c.args.event.now in
    let body = ap (λ o. canon (told o (tag_word e.tag) (term e.what) e.age)) c.in-Some.is in
    writes_as (writes_then c.put_word.ensures (writes_as c.put_detailed.ensures (sym body)))
    (sym (pair_canon (atom (codes "mnesia_table_event")) (event_body e)))

pub returns-in-None : goal.returns-in-None
returns-in-None g c =
    let e = c.args.event.now in
    let body = ap (λ o. canon (told o (tag_word e.tag) (term e.what) e.age)) c.in-None.is in
    writes_as (writes_then c.put_word.ensures (writes_as c.put_simple.ensures (sym body)))
    (sym (pair_canon (atom (codes "mnesia_table_event")) (event_body e)))
