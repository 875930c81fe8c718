use Rattle.std.proofs.Common.{◌≡◌}
use Rattle.tab_term.specs.declared.term.Term.{Term}
use Rattle.tab_index.specs.IndexOf.{has_pair, IsFilled}
use Rattle.tab_index.proofs.RowsLemmas.{unless}
use Rattle.tab_index.proofs.index.Index.forget.Given as goal

-- once the other records are done, the pairs are those that are left when all are
abbrev pub invariant-loop-row : goal.invariant-loop-row
invariant-loop-row l = record {
  position : l.self.position ≡ l.fn.self.position;
  pairs : (v j : Term) → unless l.fn.self.position l.row-iterator l.key v j (has_pair l.self.keys v j) ≡ unless l.fn.self.position l.initial.row-iterator l.key v j (has_pair l.fn.self.keys v j);
  filled : IsFilled l.self.keys;
  further : l.self.further ≡ l.fn.self.further;
}
