use Rattle.std.proofs.Common.{arith, ap, length}
use Rattle.tab_term.specs.Canon.{canon}
use Rattle.tab_lists.specs.EventTerms.{event_term}
use Rattle.tab_etf.proofs.Lengths.{none_length}
use Rattle.tab_etf.proofs.EventsSpelled.{events_more}
use Rattle.tab_etf.proofs.events.all_len.Goals as goal

pub loop-event-init : goal.loop-event-init
loop-event-init c = none_length

pub loop-event-preserved : goal.loop-event-preserved
loop-event-preserved c =
    omega (
      arith,
      c.loop-event.invariant,
      c.event_len.ensures,
      ap (λ e. length (canon (event_term e))) c.event.ensures,
      c.saturating_add-sum.ensures,
      events_more c.args.items.now c.loop-event.event-index c.event-item.result c.loop-event-test.true c.event-item.is,
    )
