-- Which sessions can go on, and where the waits of a session lead (this project's own).
use Rattle.std.specs.Prelude.{◌≡◌, ◌≢◌, ℕ, List, ◌⊎◌, IsTrue, IsFalse, Some, None, is_some}
use Rattle.std.specs.List.{list_any}
use Rattle.tab_model.specs.Locks.{needs}
use Rattle.tab_model.specs.Ages.{opposes, can_retry, Chain, last_of}
use Rattle.tab_model.specs.State.{Queued, State, request_in, is_waiting, transaction_at, age_at, locks_held_by, ages_of}

-- session n waits, and its next retry is granted: no lock of another that is granted or was queued before conflicts
pub record RetryIsGranted (σ : State) (n : ℕ) : Type 0 where
  pub request : Queued
  pub is : request_in σ.queue n ≡ Some request
  pub granted : IsTrue (can_retry (ages_of σ) (request.age, needs request.operation))

-- session n has an open transaction and does not wait
pub record IsActive (σ : State) (n : ℕ) : Type 0 where
  pub is_open : IsTrue (is_some (transaction_at σ n))
  pub is_free : IsFalse (is_waiting σ n)

-- session n waits, and its request conflicts with a lock that the transaction of session m was granted
pub record IsBlockedBy (σ : State) (n m : ℕ) : Type 0 where
  pub request : Queued
  pub is : request_in σ.queue n ≡ Some request
  pub conflicts : IsTrue (list_any (opposes (request.age, needs request.operation)) (locks_held_by (transaction_at σ m)))

-- session m can go on: its next retry is granted, or it is active and a session that waits is blocked by it
abbrev pub CanGoOn : State → ℕ → Type 0
CanGoOn σ m = RetryIsGranted σ m ⊎ (IsActive σ m × ((n : ℕ) × IsBlockedBy σ n m))

-- a chain of waits, which may be empty, leads from session n to a session that can go on
pub record LeadsOn (σ : State) (n : ℕ) : Type 0 where
  pub session : ℕ
  pub path : List ℕ
  pub waits : Chain (ages_of σ) (age_at σ n) path
  pub last : last_of (age_at σ n) path ≡ age_at σ session
  pub goes_on : CanGoOn σ session

-- no session but n has an open transaction
abbrev pub HasOnlyTransaction : ℕ → State → Type 0
HasOnlyTransaction n σ = (m : ℕ) → m ≢ n → transaction_at σ m ≡ None
