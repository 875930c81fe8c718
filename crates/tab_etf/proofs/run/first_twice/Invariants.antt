use Rattle.std.proofs.Common.{◌≤◌, ◌+◌, length}
use Rattle.tab_etf.specs.Keyed.{IsFirstTwice}
use Rattle.tab_etf.proofs.run.first_twice.Given as goal

abbrev pub invariant-loop-i : goal.invariant-loop-i
invariant-loop-i l = (l.i ≤ 1 + length l.keys) × IsFirstTwice l.spelled l.keys l.i l.found
