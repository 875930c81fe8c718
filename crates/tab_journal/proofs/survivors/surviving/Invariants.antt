use Rattle.std.proofs.Common.{◌≡◌, drop}
use Rattle.tab_model.specs.Events.{surviving_changes}
use Rattle.tab_journal.specs.Survivors.{survivors_of}
use Rattle.tab_journal.proofs.survivors.surviving.Given as goal

-- what is left of the moves leads to the same updates
abbrev pub invariant-loop-place : goal.invariant-loop-place
invariant-loop-place l = survivors_of l.survivors (drop l.place l.moves) (drop l.place l.told) ≡ surviving_changes l.moves l.told
