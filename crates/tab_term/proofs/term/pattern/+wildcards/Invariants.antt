use Rattle.std.proofs.Common.{◌≡◌, drop}
use Rattle.tab_term.specs.Pattern.{any_wildcard}
use Rattle.tab_term.specs.View.{terms}
use Rattle.tab_term.proofs.term.pattern.+wildcards.Given as goal

abbrev pub invariant-any_wildcard-loop-element : goal.invariant-any_wildcard-loop-element
invariant-any_wildcard-loop-element l = any_wildcard (terms (drop l.element-index l.element-items)) ≡ any_wildcard l.elements
