use Rattle.std.proofs.Common.{drop}
use Rattle.tab_core.proofs.Batches.{Passes}
use Rattle.tab_core.proofs.committing.changed_tables.Given as goal

abbrev pub invariant-loop-update : goal.invariant-loop-update
invariant-loop-update g l = Passes l.fn.tables l.fn.subs l.fn.ending.age l.fn.ending.updates.now l.changing l.events.items (drop l.update-index l.fn.ending.updates.now)
