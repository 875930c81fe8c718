use Rattle.std.proofs.Common.{◌≡◌, ◌++◌, drop}
use Rattle.tab_index.specs.Indexed.{positions, AreIndexesOf}
use Rattle.tab_index.proofs.indexes.indexes_of.Given as goal

abbrev pub invariant-loop-position : goal.invariant-loop-position
invariant-loop-position l = record {
  positions_are : positions l.indexes.items ++ drop l.position-index l.position-items ≡ l.numbers;
  indexes_are : AreIndexesOf l.rows.1 l.indexes.items;
}
