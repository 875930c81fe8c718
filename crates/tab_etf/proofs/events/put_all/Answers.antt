use Rattle.std.proofs.Common.{arith, ap, length, sym}
use Rattle.tab_term.specs.Canon.{canon}
use Rattle.tab_lists.specs.EventTerms.{event_term}
use Rattle.tab_etf.proofs.Elements.{no_canons}
use Rattle.tab_etf.proofs.EventsSpelled.{event_within, events_next}
use Rattle.tab_etf.proofs.WritingLemmas.{writes_as, writes_then, writes_none}
use Rattle.tab_etf.proofs.events.put_all.Goals as goal

pub loop-event-init : goal.loop-event-init
loop-event-init g c = writes_as (writes_none _) no_canons

pub put_event-requires : goal.put_event-requires
put_event-requires g c =
    omega (
      arith,
      c.requires,
      ap (λ e. length (canon (event_term e))) c.event.ensures,
      event_within c.args.items.now c.loop-event.event-index c.event-item.result c.loop-event-test.true c.event-item.is,
    )

pub loop-event-preserved : goal.loop-event-preserved
loop-event-preserved g c =
    writes_as (writes_then c.loop-event.invariant (writes_as c.put_event.ensures (ap (λ e. canon (event_term e)) c.event.ensures)))
    (sym (events_next c.args.items.now c.loop-event.event-index c.event-item.result c.loop-event-test.true c.event-item.is))
