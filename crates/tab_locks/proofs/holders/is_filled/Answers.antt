use Rattle.tab_locks.proofs.Holdings.{someone}
use Rattle.tab_locks.proofs.holders.is_filled.Goals as goal

pub returns : goal.returns
returns c = someone c.args.held.now c.is_empty.result c.is_empty.ensures
