use Rattle.std.proofs.Common.{◌≡◌, drop}
use Rattle.tab_core.specs.Owing.{are_watched}
use Rattle.tab_core.proofs.committing.are_watched.Given as goal

-- whether one that is left is watched tells it of all
abbrev pub invariant-loop-update : goal.invariant-loop-update
invariant-loop-update g l = are_watched l.subs (drop l.update-index l.updates) ≡ are_watched l.subs l.updates
