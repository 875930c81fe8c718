use Rattle.std.proofs.Common.{◌≡◌, ℕ, ◌<◌, length, get_or}
use Rattle.tab_etf.specs.declared.run.Key.{Key}
use Rattle.tab_etf.proofs.run.ranks_of.Given as goal

abbrev pub invariant-loop-rank : goal.invariant-loop-rank
invariant-loop-rank l = (length l.ranks.items ≡ length l.keys) × ((p : ℕ) (d : Key) → p < l.rank → get_or l.ranks.items (get_or l.keys p d).pair 0 ≡ p)
