use Rattle.std.proofs.Common.{◌≡◌, ◌≤◌, length, drop}
use Rattle.tab_term.specs.Numbers.{low_value}
use Rattle.tab_etf.proofs.leaf.magnitude_of.Given as goal

abbrev pub invariant-loop-i : goal.invariant-loop-i
invariant-loop-i l = (l.i ≤ length l.bytes) × (l.m ≡ low_value (drop l.i l.bytes))

abbrev pub decreases-loop-i : goal.decreases-loop-i
decreases-loop-i l = l.i
