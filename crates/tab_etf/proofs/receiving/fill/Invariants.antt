use Rattle.std.proofs.Common.{◌≡◌, ◌≤◌, ◌-◌, length, take}
use Rattle.std.specs.Io.KnownBytes.{Consumes}
use Rattle.tab_etf.proofs.receiving.fill.Given as goal

abbrev pub invariant-loop-at : goal.invariant-loop-at
invariant-loop-at g l = (l.at ≤ length l.buf) × (g.R.Source.faults l.reader ≡ g.R.Source.faults l.initial.reader) × Consumes (g.R.Source.remaining l.initial.reader) (g.R.Source.remaining l.reader) (take l.at l.buf)

abbrev pub decreases-loop-at : goal.decreases-loop-at
decreases-loop-at g l = length l.buf - l.at
