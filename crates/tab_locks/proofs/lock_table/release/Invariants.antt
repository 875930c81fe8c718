use Rattle.tab_locks.specs.Members.{Drops}
use Rattle.tab_locks.specs.Placed.{is_of}
use Rattle.tab_locks.proofs.lock_table.release.Given as goal

abbrev pub invariant-loop-lock : goal.invariant-loop-lock
invariant-loop-lock l = Drops (is_of l.age l.yielded) l.initial.index l.index
