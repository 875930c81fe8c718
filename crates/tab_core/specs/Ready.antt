-- Who may go on: a session whose queued request would be granted now (this project's own; the rule of a retry is that of tab_model).
use Rattle.std.specs.Prelude.{◌≡◌, ℕ, Bool, List, true, Some, IfSome, slice_index_or}
use Rattle.tab_model.specs.Ages.{can_retry, request_of}
use Rattle.tab_model.specs.Locks.{needs}
use Rattle.tab_model.specs.Log.{has_session}
use Rattle.tab_model.specs.State.{State, Queued, ages_of, request_in}
use Rattle.tab_subs.specs.Subscribers.{nobody}
use Rattle.tab_core.specs.Parts.{Parts}

-- each session whose request would be granted is among these
abbrev pub AreReady : State → List ℕ → Type 0
AreReady σ ns = (n : ℕ) (q : Queued) → request_in σ.queue n ≡ Some q → can_retry (ages_of σ) (q.age, needs q.operation) ≡ true → has_session ns n ≡ true

-- whether the request of the session at a place, if it has one, would be granted
abbrev pub IsReadyAt : Parts → ℕ → Bool → Type 0
IsReadyAt m i b = IfSome (slice_index_or m.sessions i nobody).transaction (λ t. IfSome (request_of t.age m.ages.queue) (λ r. b ≡ can_retry m.ages r))
