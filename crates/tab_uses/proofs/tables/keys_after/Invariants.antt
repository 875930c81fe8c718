use Rattle.std.proofs.Common.{◌≡◌, [], drop}
use Rattle.tab_model.specs.Tables.{rows_after}
use Rattle.tab_uses.proofs.tables.keys_after.Given as goal

-- the rows so far, and what the changes that are left make of them
abbrev pub invariant-loop-change : goal.invariant-loop-change
invariant-loop-change l = record {
  kind : l.rows.0 ≡ l.fn.kind;
  left : rows_after l.fn.kind l.rows.1 (drop l.change-index l.changes) ≡ rows_after l.fn.kind [] l.changes;
}
