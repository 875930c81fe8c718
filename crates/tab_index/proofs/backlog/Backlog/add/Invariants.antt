use Rattle.std.proofs.Common.{◌≡◌, ◌++◌, drop}
use Rattle.tab_index.proofs.backlog.Backlog.add.Given as goal

abbrev pub invariant-loop-update : goal.invariant-loop-update
invariant-loop-update l = record {
  rows_are : l.self-inside.rows ≡ l.initial.self-inside.rows;
  updates_are : l.self-inside.updates.items ++ drop l.update-index l.updates ≡ l.initial.self-inside.updates.items ++ l.updates;
}
