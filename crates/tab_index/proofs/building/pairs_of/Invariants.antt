use Rattle.std.proofs.Common.{◌≡◌, ◌++◌, map}
use Rattle.tab_model.specs.Tables.{Rows}
use Rattle.tab_rows.specs.Joined.{joined}
use Rattle.tab_index.specs.Pairs.{pair_of}
use Rattle.tab_index.proofs.building.pairs_of.Given as goal

-- they are the pairs of the records before those that are left
abbrev pub invariant-loop-entry : goal.invariant-loop-entry
invariant-loop-entry l = record {
  before : Rows;
  all : before ++ joined l.entry-iterator ≡ l.rows.1;
  done : l.pairs.items ≡ map (pair_of l.position) before;
}
