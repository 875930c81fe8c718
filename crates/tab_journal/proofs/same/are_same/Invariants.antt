use Rattle.std.proofs.Common.{◌≡◌}
use Rattle.tab_term.specs.Data.{plain_terms}
use Rattle.tab_term.specs.Same.{all_same}
use Rattle.tab_journal.proofs.same.are_same.Given as goal

abbrev pub invariant-loop-one : goal.invariant-loop-one
invariant-loop-one l = all_same (plain_terms l.one-iterator) (plain_terms l.left) ≡ all_same l.ones l.others
