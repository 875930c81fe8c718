use Rattle.std.proofs.Common.{◌≡◌, drop, true}
use Rattle.tab_model.specs.Tables.{rows_after, is_ordered}
use Rattle.tab_index.specs.FurtherOf.{AreApart}
use Rattle.tab_index.specs.Indexed.{positions, AreIndexesOf}
use Rattle.tab_index.proofs.table.change_both.Given as goal

-- the changes that are left lead to the same records
abbrev pub invariant-loop-update : goal.invariant-loop-update
invariant-loop-update l = record {
  kind : l.rows.0 ≡ l.fn.rows.0;
  ordered : is_ordered l.rows.1 ≡ true;
  apart : AreApart l.rows.1;
  positions_are : positions l.indexes.items ≡ positions l.fn.indexes.items;
  indexes_are : AreIndexesOf l.rows.1 l.indexes.items;
  rows_are : rows_after l.fn.rows.0 l.rows.1 (drop l.update-index l.updates) ≡ rows_after l.fn.rows.0 l.fn.rows.1 l.updates;
}
