use Rattle.std.proofs.Common.{◌≡◌}
use Rattle.tab_model.specs.Tables.{apply}
use Rattle.tab_index.specs.Indexed.{positions}
use Rattle.tab_index.proofs.IndexedLemmas.{FirstAreOf, OthersAreOf}
use Rattle.tab_index.proofs.table.change_indexes.Given as goal

-- those before are of the records after the change, the others still of those before it
abbrev pub invariant-loop-index : goal.invariant-loop-index
invariant-loop-index l = record {
  positions_are : positions l.index-items ≡ positions l.fn.indexes.items;
  done : FirstAreOf (apply l.rows.0 l.rows.1 l.update) l.index-items l.index-index;
  left : OthersAreOf l.rows.1 l.index-items l.index-index;
}
