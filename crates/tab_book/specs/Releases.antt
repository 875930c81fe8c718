-- What a step lets go of: a session that waits for a lock or a queued request may go on only if it is gone (this project's own).
use Rattle.std.specs.Prelude.{◌≡◌, ◌⊎◌, ℕ, List, [], ◌∷◌, ◌++◌, Bool, true, false, Some}
use Rattle.tab_model.specs.Ages.{Owned}
use Rattle.tab_model.specs.Locks.{needs}
use Rattle.tab_model.specs.declared.ask.Ask.TheVariants.{Join, Leave, Retry, Take, Do as DoCommand}
use Rattle.tab_model.specs.Outcome.{Ask}
use Rattle.tab_model.specs.State.{Queued, State, age_at, locks_held_by, request_in, transaction_at}

-- whether a session asks again for the lock that it waits for
abbrev pub is_retry : Ask → Bool
is_retry (Join b) = false
is_retry Leave = false
is_retry Retry = true
is_retry Take = false
is_retry (DoCommand c) = false

-- a session's locks, each with the age of its transaction
abbrev pub held_at : State → ℕ → List Owned
held_at σ n = locks_held_by (transaction_at σ n)

-- nothing is let go of: each session holds what it held, and its request is queued still, or its lock is held
pub record LetsGoOfNothing (σ τ : State) : Type 0 where
  pub held : (n : ℕ) → (more : List Owned) × (held_at τ n ≡ held_at σ n ++ more)
  pub queued : (n : ℕ) (q : Queued) → request_in σ.queue n ≡ Some q → (request_in τ.queue n ≡ Some q) ⊎ (held_at τ n ≡ held_at σ n ++ (age_at σ n, needs q.operation) ∷ [])

-- a step that is told to release nothing: no one waited, or nothing was let go of
abbrev pub SaysReleases : Bool → State → State → Type 0
SaysReleases releases σ τ = releases ≡ false → (σ.queue ≡ []) ⊎ LetsGoOfNothing σ τ
