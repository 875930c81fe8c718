-- What the steps of one session show.
use Rattle.std.specs.Prelude.{◌≡◌, ℕ, List, [], ◌∷◌, ◌++◌, refl}
use Rattle.std.proofs.Common.{subst, ◌∙◌}
use Rattle.tab_model.specs.State.{State}
use Rattle.tab_oneshot.specs.Calls.{Call, Asked, Waited, Again}
use Rattle.tab_session.specs.declared.one_session.OneSession.{OneSession}
use Rattle.tab_session.specs.OneSessions.{Ran}

-- the second is the same session of the same core, after these calls
abbrev pub HasRun : {R : Type 0} → OneSession R → List Call → OneSession R → Type 0
HasRun x calls y = (y.session ≡ x.session) × (y.core.ghost_name ≡ x.core.ghost_name) × Ran x.session x.core.now calls y.core.now

-- without calls a session is as it was
pub has_run_none : {R : Type 0} → (x : OneSession R) → HasRun x [] x
has_run_none x = (refl, refl, refl)

ran_on : (n : ℕ) (σ μ τ : State) (first more : List Call) → Ran n σ first μ → Ran n μ more τ → Ran n σ (first ++ more) τ
ran_on n σ μ τ [] more h k = subst (λ ρ. Ran n ρ more τ) h k
ran_on n σ μ τ (Asked c r ∷ first) more (ρ, one, h) k = (ρ, one, ran_on n ρ μ τ first more h k)
ran_on n σ μ τ (Waited w ∷ first) more (e, h) k = (e, ran_on n σ μ τ first more h k)
ran_on n σ μ τ (Again ∷ first) more h k = ran_on n σ μ τ first more h k

-- what the first calls do, and then the others, is what all of them do
pub has_run_on : {R : Type 0} → (x y z : OneSession R) (first more : List Call) → HasRun x first y → HasRun y more z → HasRun x (first ++ more) z
has_run_on x y z first more (e, f, h) (i, j, k) = (i ∙ e, j ∙ f, ran_on x.session x.core.now y.core.now z.core.now first more h (subst (λ n. Ran n y.core.now more z.core.now) e k))
