use Rattle.std.proofs.Common.{◌≡◌, ◌++◌, drop}
use Rattle.tab_index.proofs.indexes.shared_indexes.Given as goal

abbrev pub invariant-loop-index : goal.invariant-loop-index
invariant-loop-index l = l.same.items ++ drop l.index-index l.indexes ≡ l.indexes
