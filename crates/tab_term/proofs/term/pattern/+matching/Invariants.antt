use Rattle.std.proofs.Common.{◌≡◌, take}
use Rattle.tab_term.specs.Pattern.{all_match}
use Rattle.tab_term.specs.View.{terms}
use Rattle.tab_term.proofs.term.pattern.+matching.Given as goal

abbrev pub invariant-all_match-loop-i : goal.invariant-all_match-loop-i
invariant-all_match-loop-i l = all_match (terms (take l.i l.patterns)) (terms (take l.i l.subjects)) ≡ all_match (terms l.patterns) (terms l.subjects)
