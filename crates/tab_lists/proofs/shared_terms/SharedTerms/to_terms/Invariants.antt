use Rattle.std.proofs.Common.{◌≡◌, ◌++◌}
use Rattle.tab_term.specs.Data.{terms_list}
use Rattle.tab_term.specs.View.{terms}
use Rattle.tab_lists.proofs.shared_terms.SharedTerms.to_terms.Given as goal

-- the copies so far, and what is left of the walk, are the list
abbrev pub invariant-loop-term : goal.invariant-loop-term
invariant-loop-term l = terms_list (terms l.copies.items) ++ l.term-iterator ≡ terms_list l.self
