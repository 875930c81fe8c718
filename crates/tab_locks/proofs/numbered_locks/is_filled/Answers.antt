use Rattle.tab_locks.proofs.NumberedLocks.{some_other}
use Rattle.tab_locks.proofs.numbered_locks.is_filled.Goals as goal

pub returns : goal.returns
returns c = some_other c.is_empty.result c.args.locks.now.entries c.is_empty.ensures
