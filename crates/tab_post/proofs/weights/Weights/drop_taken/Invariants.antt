use Rattle.std.proofs.Common.{◌≡◌, ℕ, drop}
use Rattle.tab_post.proofs.weights.Weights.drop_taken.Given as goal

-- some oldest weights are dropped
abbrev pub invariant-loop : goal.invariant-loop
invariant-loop l = (n : ℕ) × (l.self ≡ record l.initial.self { weights = drop n l.initial.self.weights })
