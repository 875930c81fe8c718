use Rattle.std.proofs.Common.{arith, ap, sym, length, ◌∙◌, ◌∷◌, ◌++◌, []}
use Rattle.tab_term.specs.Canon.{canon, canons, length_field}
use Rattle.tab_term.specs.Data.{list}
use Rattle.tab_lists.specs.EventTerms.{event_terms}
use Rattle.tab_lists.proofs.EventsLemmas.{count_events}
use Rattle.tab_etf.proofs.AnswersSpelled.{none_spelled}
use Rattle.tab_etf.proofs.EventsSpelled.{none_in, some_in, some_length, some_spelled}
use Rattle.tab_etf.proofs.WritingLemmas.{writes_as, writes_then}
use Rattle.tab_etf.proofs.events.put_events.Goals as goal

pub returns-then-is_empty : goal.returns-then-is_empty
returns-then-is_empty g c = writes_as c.put.ensures (sym none_spelled ∙ ap (λ ts. canon (list ts)) (none_in c.as_slice-items.result.now c.is_empty.ensures c.if-is_empty.true ∙ c.as_slice-items.ensures.items))

pub put_all-requires : goal.put_all-requires
put_all-requires g c =
    let items = c.as_slice-items.result.now in
    omega (arith, c.requires, some_length items (some_in items c.is_empty.ensures c.if-is_empty.false), ap (λ ts. length (canon (list ts))) c.as_slice-items.ensures.items)

pub returns : goal.returns
returns g c =
    let items = c.as_slice-items.result.now in
    writes_as (writes_then (writes_then c.put_tagged.ensures c.put_all.ensures) c.put-2.ensures)
    (ap (λ n. (108 ∷ length_field n) ++ canons (event_terms items) ++ 106 ∷ []) (sym (count_events items))
    ∙ sym (some_spelled items (some_in items c.is_empty.ensures c.if-is_empty.false))
    ∙ ap (λ ts. canon (list ts)) c.as_slice-items.ensures.items)
