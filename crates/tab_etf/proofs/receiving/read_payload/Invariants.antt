use Rattle.std.proofs.Common.{◌≡◌, ◌≤◌, ◌-◌, length}
use Rattle.tab_etf.specs.Arrivals.{HasCome}
use Rattle.tab_etf.proofs.receiving.read_payload.Given as goal

abbrev pub invariant-loop-left : goal.invariant-loop-left
invariant-loop-left g l = (l.left ≤ l.count) × (g.R.Source.faults l.reader ≡ g.R.Source.faults l.initial.reader) × HasCome (g.R.Source.remaining l.initial.reader) (g.R.Source.remaining l.reader) (l.count - l.left) l.lost l.payload.items × (length l.chunk ≡ 4096)

abbrev pub decreases-loop-left : goal.decreases-loop-left
decreases-loop-left g l = l.left
