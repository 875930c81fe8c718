use Rattle.std.proofs.Common.{◌≡◌, ◌++◌, map}
use Rattle.tab_model.specs.Tables.{Rows}
use Rattle.tab_index.specs.Pairs.{pair_of}
use Rattle.tab_index.proofs.building.add_pairs.Given as goal

-- the pairs of the records before those that are left are added
abbrev pub invariant-loop-row : goal.invariant-loop-row
invariant-loop-row l = record {
  before : Rows;
  all : before ++ l.row-iterator ≡ l.fn.records;
  done : l.pairs.items ≡ l.fn.pairs.items ++ map (pair_of l.position) before;
}
