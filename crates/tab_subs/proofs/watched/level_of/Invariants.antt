use Rattle.std.proofs.Common.{◌≡◌, drop}
use Rattle.tab_model.specs.State.{level_in}
use Rattle.tab_subs.proofs.watched.level_of.Given as goal

abbrev pub invariant-loop-watched : goal.invariant-loop-watched
invariant-loop-watched l = level_in (drop l.watched-index l.watching) l.table ≡ level_in l.watching l.table
