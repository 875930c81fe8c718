use Rattle.std.proofs.Common.{◌≡◌, drop}
use Rattle.tab_model.specs.Tables.{rows_after}
use Rattle.tab_index.proofs.table.change_rows.Given as goal

-- the changes that are left lead to the same records
abbrev pub invariant-loop-update : goal.invariant-loop-update
invariant-loop-update l = record {
  kind : l.rows.0 ≡ l.initial.rows.0;
  rows_are : rows_after l.initial.rows.0 l.rows.1 (drop l.update-index l.updates) ≡ rows_after l.initial.rows.0 l.initial.rows.1 l.updates;
}
