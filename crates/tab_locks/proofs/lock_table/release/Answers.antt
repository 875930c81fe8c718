use Rattle.tab_locks.proofs.HoldAndRelease.{one_more_gone}
use Rattle.tab_locks.proofs.lock_table.release.Goals as goal

pub loop-lock-preserved : goal.loop-lock-preserved
loop-lock-preserved c = one_more_gone c.args.age c.in-Some.lock c.loop-lock.yielded c.args.index.now c.loop-lock.index c.remove.new.self c.loop-lock.invariant c.remove.ensures
