use Rattle.std.proofs.Common.{◌≡◌, ◌+◌, ◌<◌, min, ◌^◌, ◌-◌, drop}
use Rattle.tab_lists.specs.EventTerms.{event_terms}
use Rattle.tab_term.specs.Memory.{event_memories}
use Rattle.tab_lists.proofs.events.EventTerms.memory.Given as goal

-- the events that are left add the rest
abbrev pub invariant-loop-event : goal.invariant-loop-event
invariant-loop-event l = (l.sum < 2 ^ 64) × (min (l.sum + event_memories (event_terms (drop l.event-index l.event-items))) (2 ^ 64 - 1) ≡ min (event_memories l.self) (2 ^ 64 - 1))
