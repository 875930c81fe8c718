use Rattle.std.proofs.Common.{◌≡◌, [], take}
use Rattle.std.specs.List.{filter}
use Rattle.tab_term.specs.Pattern.{matches}
use Rattle.tab_lists.specs.ByKey.{joined}
use Rattle.tab_lists.proofs.passed.passed_over.Given as goal

-- none of those before is found
abbrev pub invariant-loop-n : goal.invariant-loop-n
invariant-loop-n l = filter (matches l.last) (joined (take l.n l.row)) ≡ []
