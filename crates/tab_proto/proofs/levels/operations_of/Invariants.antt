use Rattle.std.proofs.Common.{◌≡◌, ◌≤◌, length, drop}
use Rattle.tab_proto.specs.Commands.{levels}
use Rattle.tab_proto.proofs.levels.operations_of.Given as goal

abbrev pub invariant-loop-left : goal.invariant-loop-left
invariant-loop-left l = (l.left ≤ length l.parts) × (l.lists ≡ levels (drop l.left l.parts))

abbrev pub decreases-loop-left : goal.decreases-loop-left
decreases-loop-left l = l.left
