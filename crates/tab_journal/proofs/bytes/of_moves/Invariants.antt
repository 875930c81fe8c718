use Rattle.std.proofs.Common.{◌≡◌, ◌+◌, ◌<◌, min, ◌^◌, ◌-◌, drop}
use Rattle.tab_journal.specs.Bytes.{moves_memory}
use Rattle.tab_journal.proofs.bytes.of_moves.Given as goal

-- the members that are left add the rest
abbrev pub invariant-loop-step : goal.invariant-loop-step
invariant-loop-step l = (l.sum < 2 ^ 64) × (min (l.sum + moves_memory (drop l.step-index l.moves)) (2 ^ 64 - 1) ≡ min (moves_memory l.moves) (2 ^ 64 - 1))
