use Rattle.std.proofs.Common.{◌≡◌, ◌++◌, drop}
use Rattle.tab_model.specs.Definitions.{less_number}
use Rattle.tab_model.specs.Tables.{Rows}
use Rattle.tab_index.specs.Indexed.{positions, AreIndexesOf}
use Rattle.tab_index.proofs.indexes.other_indexes.Given as goal

abbrev pub invariant-loop-index : goal.invariant-loop-index
invariant-loop-index l = record {
  positions_are : positions l.others.items ++ less_number l.position (positions (drop l.index-index l.indexes)) ≡ less_number l.position (positions l.indexes);
  indexes_are : (rows : Rows) → AreIndexesOf rows l.indexes → AreIndexesOf rows l.others.items;
}
