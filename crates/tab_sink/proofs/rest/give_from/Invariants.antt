use Rattle.std.proofs.Common.{◌≡◌, ◌≤◌, ◌-◌, length, drop}
use Rattle.tab_sink.specs.Sends.{Sends}
use Rattle.tab_sink.proofs.rest.give_from.Given as goal

abbrev pub invariant-loop-from : goal.invariant-loop-from
invariant-loop-from g l = (l.from ≤ length l.bytes) × (g.T.Target.faults l.target ≡ g.T.Target.faults l.initial.target) × Sends (g.T.Target.contents l.initial.target) (drop l.initial.from l.bytes) (g.T.Target.contents l.target) (drop l.from l.bytes)

abbrev pub decreases-loop-from : goal.decreases-loop-from
decreases-loop-from g l = length l.bytes - l.from
