use Rattle.tab_lists.proofs.MergedLemmas.{ascends_keys}
use Rattle.tab_lists.proofs.merged.Merged.over_keys.Goals as goal

pub over-requires-clause-committed : goal.over-requires-clause-committed
over-requires-clause-committed c = ascends_keys c.args.keys c.args.committed.now c.requires.keys
