use Rattle.std.proofs.Common.{◌≡◌, drop}
use Rattle.tab_term.specs.Canon.{all_bytes}
use Rattle.tab_term.specs.View.{terms}
use Rattle.tab_term.proofs.spelling.are_bytes.Given as goal

abbrev pub invariant-loop-t : goal.invariant-loop-t
invariant-loop-t l = all_bytes (terms (drop l.t-index l.ts)) ≡ all_bytes (terms l.ts)
