use Rattle.std.proofs.Common.{drop}
use Rattle.tab_lists.specs.EventTerms.{event_terms}
use Rattle.tab_proto.specs.Events.{event_frames}
use Rattle.tab_proto.proofs.EventsLemmas.{Sending}
use Rattle.tab_proto.proofs.events.write_events.Given as goal

abbrev pub invariant-loop-event : goal.invariant-loop-event
invariant-loop-event g l =
    Sending (event_frames l.fn.events) (event_frames (event_terms (drop l.event-index l.event-items))) (g.W.Target.contents l.initial.device) (g.W.Target.contents l.device) (g.W.Target.faults l.initial.device) (g.W.Target.faults l.device)
