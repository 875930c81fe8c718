use Rattle.std.proofs.Common.{arith, ap, sym, length, ◌∙◌}
use Rattle.tab_term.specs.Canon.{canon, length_field}
use Rattle.tab_term.specs.Data.{list}
use Rattle.tab_lists.proofs.EventsLemmas.{count_events}
use Rattle.tab_etf.proofs.AnswersSpelled.{none_spelled}
use Rattle.tab_etf.proofs.EventsSpelled.{none_in, some_in, some_length}
use Rattle.tab_etf.proofs.events.events_len.Goals as goal

pub returns-then-is_empty : goal.returns-then-is_empty
returns-then-is_empty c =
    let none_is = none_in c.as_slice-items.result.now c.is_empty.ensures c.if-is_empty.true ∙ c.as_slice-items.ensures.items in
    omega (arith, ap length (sym (ap (λ ts. canon (list ts)) none_is) ∙ none_spelled))

pub returns : goal.returns
returns c =
    let items = c.as_slice-items.result.now in
    let spelled = some_length items (some_in items c.is_empty.ensures c.if-is_empty.false) in
    omega (
      arith,
      spelled,
      ap (λ ts. length (canon (list ts))) c.as_slice-items.ensures.items,
      ap (λ n. length (length_field n)) (count_events items),
      c.all_len.ensures,
      c.field_len.ensures.value,
      c.saturating_add.ensures,
    )
