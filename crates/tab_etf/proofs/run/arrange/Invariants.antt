use Rattle.std.proofs.Common.{◌≡◌, ℕ, ◌+◌, ◌-◌, ◌<◌, List, length, get_or}
use Rattle.tab_etf.specs.Keyed.{AreRanked}
use Rattle.tab_etf.proofs.Exchanges.{IsRankedBy, misplaced}
use Rattle.tab_etf.proofs.run.arrange.Given as goal

abbrev pub invariant-loop-i : goal.invariant-loop-i
invariant-loop-i l = AreRanked l.ranks × (length l.ranks ≡ length l.pairs) × (length l.pairs ≡ length l.fn.pairs) × ((k : ℕ) → k < l.i → get_or l.ranks k 0 ≡ k)
    × ((sorted : List _) → IsRankedBy sorted l.fn.ranks l.fn.pairs → IsRankedBy sorted l.ranks l.pairs)

abbrev pub decreases-loop-i : goal.decreases-loop-i
decreases-loop-i l = misplaced 0 l.ranks + (length l.ranks - l.i)
