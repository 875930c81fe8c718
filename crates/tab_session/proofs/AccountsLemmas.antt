-- A run leads from its first state to its last: whatever held of the first goes on, with the run's log, with the items that it was
-- told, and with what its callers know.
use Rattle.std.proofs.Common.{◌≡◌, ℕ, List, [], ◌∷◌, ◌++◌, refl, sym, ap, subst, ◌∙◌, append_assoc, append-nil}
use Rattle.tab_model.specs.declared.data.Entry.{Entry}
use Rattle.tab_model.specs.declared.data.Item.{Item}
use Rattle.tab_model.specs.declared.data.Reply.{Reply}
use Rattle.tab_model.specs.State.{State, IsSound}
use Rattle.tab_model.specs.Reached.{IsRising}
use Rattle.tab_model.specs.Outcome.{Ask, Outcome}
use Rattle.tab_model.specs.Run as model
use Rattle.tab_model.specs.Run.{entries, delivered_by, JoinsEmpty, IsTied}
use Rattle.tab_model.specs.Callers.{Observation, entry_of_call, observe, observe_all, AreObserved}
use Rattle.tab_model.proofs.CallersLemmas.{step_observed}
use Rattle.tab_model.proofs.ReachedWaits.{step_rising}
use Rattle.tab_model.proofs.SoundSteps.{step_sound}
use Rattle.tab_model.proofs.TiedSteps.{step_tied}
use Rattle.tab_session.specs.StepsMade.{IsStepMade}
use Rattle.tab_session.specs.Accounts.{Exchange, Account, nothing_done, joined, calls_in, replies_in, of_made}

-- what callers can tell after exchanges
abbrev pub observes_all : Observation → List Exchange → Observation
observes_all h xs = observe_all h (calls_in xs) (replies_in xs)

observes_both : (h : Observation) (xs ys : List Exchange) → observes_all h (xs ++ ys) ≡ observes_all (observes_all h xs) ys
observes_both h [] ys = refl
observes_both h (x ∷ xs) ys = observes_both (observe h x.call x.reply) xs ys

pub record Leads (σ μ : State) (a : Account) (taken : ℕ → List Item) : Type 0 where
  pub sound : IsSound σ → IsSound μ
  pub rising : IsSound σ → IsRising σ → IsRising μ
  pub tied : (log : List Entry) (before : ℕ → List Item) → IsSound σ → IsTied σ log before → IsTied μ (log ++ a.log) (λ m. before m ++ taken m)
  pub observed : (h : Observation) → AreObserved σ h.callers → AreObserved μ (observes_all h a.exchanges).callers
  pub told : (h : Observation) → AreObserved σ h.callers → (observes_all h a.exchanges).log ≡ h.log ++ a.log

-- nothing is done
pub stays : (σ μ : State) → μ ≡ σ → Leads σ μ nothing_done (λ m. [])
stays σ μ same = record {
  sound = λ k. subst IsSound (sym same) k;
  rising = λ k r. subst IsRising (sym same) r;
  tied = λ log before k t. subst (λ (x : State). IsTied x (log ++ []) (λ m. before m ++ [])) (sym same)
      (subst (λ (l : List Entry). IsTied σ l (λ m. before m ++ [])) (sym (append-nil log)) (subst (λ (f : ℕ → List Item). IsTied σ log f) (λ i m. sym (append-nil (before m)) i) t));
  observed = λ h k. subst (λ (x : State). AreObserved x h.callers) (sym same) k;
  told = λ h k. sym (append-nil h.log);
}

-- one step
pub steps : (σ μ : State) (n : ℕ) (a : Ask) (r : Reply) (made : IsStepMade σ n a r μ) → JoinsEmpty a → Leads σ μ (of_made σ n a r μ made) (λ m. delivered_by m n r)
steps σ μ n a r made empty =
    let o = made.made in
    let c : model.Call = record { session = n; ask = a; over = made.over } in
    record {
      sound = λ k. subst IsSound (ap (λ (x : Outcome). x.state) o) (step_sound σ made.over n a k);
      rising = λ k h. subst IsRising (ap (λ (x : Outcome). x.state) o) (step_rising σ made.over n a k h);
      tied = λ log before k t. subst (λ (x : Outcome). IsTied x.state (log ++ entries x.entry) (λ m. before m ++ delivered_by m n x.reply)) o (step_tied σ log before made.over n a k empty t);
      observed = λ h k. subst (λ (x : Outcome). AreObserved x.state (observe h c x.reply).callers) o (step_observed σ h c k).0;
      told = λ h k. ap (λ e. h.log ++ entries e) (ap (λ (x : Outcome). entry_of_call h c x.reply) (sym o) ∙ (step_observed σ h c k).1 ∙ ap (λ (x : Outcome). x.entry) o);
    }

-- the one and then the other
pub then_leads : (σ ρ μ : State) (a b : Account) (t u : ℕ → List Item) → Leads σ ρ a t → Leads ρ μ b u → Leads σ μ (joined a b) (λ m. t m ++ u m)
then_leads σ ρ μ a b t u f g = record {
  sound = λ k. g.sound (f.sound k);
  rising = λ k h. g.rising (f.sound k) (f.rising k h);
  tied = λ log before k h.
      subst (λ (l : List Entry). IsTied μ l (λ m. before m ++ (t m ++ u m))) (append_assoc log a.log b.log)
      (subst (λ (v : ℕ → List Item). IsTied μ ((log ++ a.log) ++ b.log) v) (λ i m. append_assoc (before m) (t m) (u m) i) (g.tied (log ++ a.log) (λ m. before m ++ t m) (f.sound k) (f.tied log before k h)));
  observed = λ h k. subst (λ (x : Observation). AreObserved μ x.callers) (sym (observes_both h a.exchanges b.exchanges)) (g.observed (observes_all h a.exchanges) (f.observed h k));
  told = λ h k.
      ap (λ (x : Observation). x.log) (observes_both h a.exchanges b.exchanges)
      ∙ g.told (observes_all h a.exchanges) (f.observed h k)
      ∙ ap (λ es. es ++ b.log) (f.told h k)
      ∙ append_assoc h.log a.log b.log;
}

-- with the same items
pub leads_as : (σ μ : State) (a : Account) (t u : ℕ → List Item) → ((m : ℕ) → t m ≡ u m) → Leads σ μ a t → Leads σ μ a u
leads_as σ μ a t u same h = subst (λ (v : ℕ → List Item). Leads σ μ a v) (λ i m. same m i) h
