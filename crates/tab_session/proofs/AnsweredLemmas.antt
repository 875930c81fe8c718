-- The step of the model that a call of the core makes.
use Rattle.std.proofs.Common.{◌≡◌, ℕ, refl, sym, ap, ◌∙◌, Bool, true, false, Option, ◌⊎◌, inl, inr}
use Rattle.std.specs.Prelude.{Result, Ok, Err, IfOk, IsOk, OnErr, MatchResult}
use Rattle.tab_term.specs.Data.{PlainTerm}
use Rattle.tab_proto.specs.Requests.{Request, request_term, number_in, IsSession, IsRequest, IsNumbered, AsksOneShot}
use Rattle.tab_session.specs.StepsMade.{IsStepMade, StepMadeOrRefused}
use Rattle.tab_session.specs.AnsweredPayloads.{ask_for, is_step, IsNumberOf, RepliesTo, AnsweredTerm, RefusedTerm}
use Rattle.tab_model.specs.State.{State}
use Rattle.tab_model.specs.Outcome.{Ask, Outcome}
use Rattle.tab_model.specs.declared.data.Entry.{Entry}
use Rattle.tab_model.specs.declared.data.Reply.{Reply}
use Rattle.tab_model.specs.declared.data.Reply.TheVariants.{NoMemory}
use Rattle.tab_core.specs.Runs.{StepsTo}
use Rattle.tab_core.specs.Steps.{takes_no_memory}
use Rattle.tab_core.specs.declared.step.Stepped.{Stepped}

abbrev made_of : State → Reply → Option Entry → Outcome
made_of μ r e = record { state = μ; reply = r; entry = e }

pub makes : (σ μ : State) (n : ℕ) (a : Ask) (r : Reply) (s : Stepped) → r ≡ s.reply → StepsTo σ n a s μ → IsStepMade σ n a r μ
makes σ μ n a r s f (over, allowed, h) = record { over = over; allowed = allowed; entry = s.entry; made = h ∙ ap (λ (x : Reply). made_of μ x s.entry) (sym f) }

-- a step that was made, or refused for memory, by its reply
pub replied : {E : Type 0} (x : Result Stepped E) (σ μ : State) (n : ℕ) (a : Ask) (r : Reply) → MatchResult x (λ s. r ≡ s.reply) (λ e. r ≡ NoMemory)
    → IfOk x (λ s. StepsTo σ n a s μ) → (takes_no_memory σ n a ≡ true → IsOk x) → OnErr x (μ ≡ σ) → StepMadeOrRefused σ n a r μ
replied (Ok s) σ μ n a r told done free same = inl (makes σ μ n a r s told done)
replied (Err e) σ μ n a r told done free same = inr (by (takes_no_memory σ n a) refl, told, same)
  where
    by : (b : Bool) → takes_no_memory σ n a ≡ b → takes_no_memory σ n a ≡ false
    by true t = let no : false ≡ true = free t in cc
    by false t = t

-- a one-shot stands under its session's number
pub one_shot_numbered : (t : PlainTerm) (n : ℕ) → IsNumberOf t n → AsksOneShot t → IsNumbered t n
one_shot_numbered t n (inl h) a = absurd (h.1 a.session a.numbered (ap number_in a.is))
one_shot_numbered t n (inr h) a = h

module _ (capacity : ℕ) where
  -- a request that is one step is answered by it
  pub answered_by : (σ μ : State) (n : ℕ) (a : Request) (r : Reply) → is_step a ≡ true → StepMadeOrRefused σ n (ask_for capacity a) r μ → RepliesTo capacity σ n a r μ
  answered_by σ μ n a r one (inl made) = inl (inl (one, made))
  answered_by σ μ n a r one (inr (takes, none, same)) = inr ((one, takes), none, same)

  -- a request that was read is answered by what it asks for
  pub answered : (σ μ : State) (t : PlainTerm) (n : ℕ) (a : Request) (r : Reply) → request_term n a ≡ t → IsSession n → IsRequest a → RepliesTo capacity σ n a r μ
      → AnsweredTerm capacity σ t (record { session = n; reply = r }) μ ⊎ RefusedTerm capacity σ t (record { session = n; reply = r }) μ
  answered σ μ t n a r spelled number formed (inl made) =
      inl (inr (record { asked = a; spelled = spelled; session = number; formed = formed; made = made }))
  answered σ μ t n a r spelled number formed (inr refused) =
      inr (record {
        reply = refused.1;
        same = refused.2;
        under = ((number, ap number_in (sym spelled)), inr (record { session = n; asked = a; spelled = spelled; formed = formed; takes = refused.0 }));
      })
