use Rattle.std.proofs.Common.{drop, Some}
use Rattle.tab_lists.specs.EventTerms.{event_terms}
use Rattle.tab_proto.specs.Events.{event_frames}
use Rattle.tab_proto.proofs.EventsLemmas.{Sending}
use Rattle.tab_proto.proofs.events.append_events.Given as goal

abbrev pub invariant-loop-event : goal.invariant-loop-event
invariant-loop-event l =
    Sending (event_frames l.fn.events) (event_frames (event_terms (drop l.event-index l.event-items))) (Some l.initial.out.items) (Some l.out.items) 0 0
