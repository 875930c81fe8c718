-- A granted retry ends the wait; and the laws of every reached state.
use Rattle.std.proofs.Common.{◌≡◌, ℕ, List, [], ◌∷◌, Bool, true, false, not, refl, sym, ap, ◌∙◌, subst, Option, Some, None, is_some, ◌==◌, if◌then◌else◌}
use Rattle.std.proofs.lemmas.Bool.{false≢true}
use Rattle.tab_model.specs.declared.ask.Ask.TheVariants.{Retry}
use Rattle.tab_model.specs.declared.data.Limits.{Limits}
use Rattle.tab_model.specs.declared.data.Operation.{Operation}
use Rattle.tab_model.specs.Locks.{needs}
use Rattle.tab_model.specs.Ages.{can_retry}
use Rattle.tab_model.specs.State.{Transaction, Session, Queued, State, new, session_at, transaction_in, transaction_at, request_in, without_request, is_waiting, ages_of, HasAge, IsSound}
use Rattle.tab_model.specs.Reached.{IsRising}
use Rattle.tab_model.specs.Outcome.{outcome, retry, retry_in, step_of}
use Rattle.tab_model.specs.Run.{Call, outcome_of, after_all}
use Rattle.tab_model.proofs.StepCases.{try_again}
use Rattle.tab_model.proofs.SessionLists.{found}
use Rattle.tab_model.proofs.SoundSteps.{step_sound}
use Rattle.tab_model.proofs.Schedules.{new_sound, run_sound}
use Rattle.tab_model.proofs.ReachedWaits.{step_rising, new_rising, request_age}
use Rattle.tab_laws.specs.Progress.{RetryIsGranted, CanGoOn, LeadsOn, HasOnlyTransaction}
use Rattle.tab_laws.proofs.Following.{leads_on, only_granted}

gone : (qs : List Queued) (n : ℕ) → is_some (request_in (without_request qs n) n) ≡ false
gone [] n = refl
gone (q ∷ qs) n = cases (q.session == n) refl (gone qs n)
  where
    cases : (b : Bool) → (q.session == n) ≡ b → is_some (request_in (without_request qs n) n) ≡ false → is_some (request_in (if not b then q ∷ without_request qs n else without_request qs n) n) ≡ false
    cases true e ih = ih
    cases false e ih = ap (λ (b : Bool). is_some (if b then Some q else request_in (without_request qs n) n)) e ∙ ih

module _ (σ : State) (over : List ℕ) (n : ℕ) (rise : IsRising σ) (g : RetryIsGranted σ n) where
  aged : HasAge (transaction_at σ n) g.request.age
  aged = request_age (transaction_at σ) n σ.queue g.request rise.owners g.is

  module _ (s : Session) (here : session_at σ.sessions n ≡ Some s) where
    mine : (x : Option Transaction) → s.transaction ≡ x → HasAge x g.request.age
    mine x e = subst (λ (y : Option Transaction). HasAge y g.request.age) (ap transaction_in here ∙ e) aged

    by_test : (t : Transaction) (o : Operation) (b : Bool) → b ≡ true → is_some (request_in (try_again σ s t o b).state.queue n) ≡ false
    by_test t o true e = subst (λ (m : ℕ). is_some (request_in (without_request σ.queue m) n) ≡ false) (sym (found σ.sessions s n here)) (gone σ.queue n)
    by_test t o false e = absurd (false≢true e)

    by_transaction : (x : Option Transaction) → s.transaction ≡ x → is_some (request_in (retry_in σ s g.request.operation x).state.queue n) ≡ false
    by_transaction None e = absurd (mine None e)
    by_transaction (Some t) e = by_test t g.request.operation _ (ap (λ (a : ℕ). can_retry (ages_of σ) (a, needs g.request.operation)) (mine (Some t) e) ∙ g.granted)

    by_request : is_some (request_in (retry σ s (request_in σ.queue s.number)).state.queue n) ≡ false
    by_request = subst (λ (x : Option Queued). is_some (request_in (retry σ s x).state.queue n) ≡ false)
        (sym (ap (request_in σ.queue) (found σ.sessions s n here) ∙ g.is)) (by_transaction s.transaction refl)

  by_session : (o : Option Session) → session_at σ.sessions n ≡ o → is_some (request_in (step_of σ over n Retry o).state.queue n) ≡ false
  by_session None e = absurd (subst (λ (y : Option Transaction). HasAge y g.request.age) (ap transaction_in e) aged)
  by_session (Some s) e = by_request s e

-- a granted retry ends the wait
pub granted_ends : (σ : State) (over : List ℕ) (n : ℕ) → IsRising σ → RetryIsGranted σ n → is_waiting (outcome σ over n Retry).state n ≡ false
unfolding outcome
granted_ends σ over n rise g = by_session σ over n rise g (session_at σ.sessions n) refl

run_rising : (σ : State) (calls : List Call) → IsSound σ → IsRising σ → IsRising (after_all σ calls)
run_rising σ [] sound rise = rise
run_rising σ (c ∷ calls) sound rise = run_rising (outcome_of σ c).state calls (step_sound σ c.over c.session c.ask sound) (step_rising σ c.over c.session c.ask sound rise)

pub reached_sound : (limits : Limits) (calls : List Call) → IsSound (after_all (new limits) calls)
reached_sound limits calls = run_sound (new limits) calls (new_sound limits)

pub reached_rising : (limits : Limits) (calls : List Call) → IsRising (after_all (new limits) calls)
reached_rising limits calls = run_rising (new limits) calls (new_sound limits) (new_rising limits)

-- the same of every reached state
pub reached_leads_on : (limits : Limits) (calls : List Call) (n : ℕ) → is_waiting (after_all (new limits) calls) n ≡ true → LeadsOn (after_all (new limits) calls) n
reached_leads_on limits calls n = leads_on (after_all (new limits) calls) n (reached_sound limits calls) (reached_rising limits calls)

pub reached_goes_on : (limits : Limits) (calls : List Call) (n : ℕ) → is_waiting (after_all (new limits) calls) n ≡ true → (m : ℕ) × CanGoOn (after_all (new limits) calls) m
reached_goes_on limits calls n waiting = let l = reached_leads_on limits calls n waiting in (l.session, l.goes_on)

pub reached_granted_ends : (limits : Limits) (calls : List Call) (over : List ℕ) (n : ℕ) → RetryIsGranted (after_all (new limits) calls) n → is_waiting (outcome (after_all (new limits) calls) over n Retry).state n ≡ false
reached_granted_ends limits calls over n = granted_ends (after_all (new limits) calls) over n (reached_rising limits calls)

pub reached_only_granted : (limits : Limits) (calls : List Call) (n : ℕ) → is_waiting (after_all (new limits) calls) n ≡ true → HasOnlyTransaction n (after_all (new limits) calls) → RetryIsGranted (after_all (new limits) calls) n
reached_only_granted limits calls n = only_granted (after_all (new limits) calls) n (reached_sound limits calls) (reached_rising limits calls)
