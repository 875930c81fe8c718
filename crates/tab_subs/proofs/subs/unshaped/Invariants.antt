use Rattle.std.proofs.Common.{◌≡◌, take}
use Rattle.tab_subs.proofs.subs.unshaped.Given as goal

abbrev pub invariant-loop-event : goal.invariant-loop-event
invariant-loop-event l = l.shaped.items ≡ take l.event-index l.events
