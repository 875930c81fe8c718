use Rattle.std.proofs.Common.{◌≡◌, ◌++◌, drop}
use Rattle.tab_index.specs.Indexed.{positions}
use Rattle.tab_index.proofs.indexes.positions_of.Given as goal

abbrev pub invariant-loop-index : goal.invariant-loop-index
invariant-loop-index l = l.numbers.items ++ positions (drop l.index-index l.indexes) ≡ positions l.indexes
