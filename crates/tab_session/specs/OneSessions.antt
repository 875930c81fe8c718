-- What the calls of a one-shot's driver do on one session of a core, one after another.
use Rattle.std.specs.Prelude.{◌≡◌, ℕ, List, [], ◌∷◌, None}
use Rattle.tab_model.specs.State.{State}
use Rattle.tab_model.specs.declared.ask.Ask.TheVariants.{Do as DoCommand}
use Rattle.tab_model.specs.declared.data.Command.{Command}
use Rattle.tab_model.specs.declared.data.Reply.{Reply}
use Rattle.tab_oneshot.specs.Calls.{Call, Asked, Waited, Again}
use Rattle.tab_oneshot.specs.OneShots.{IsOneShot}
use Rattle.tab_session.specs.StepsMade.{StepMadeOrRefused}

-- each command is a step of the session; here no one can wait
abbrev pub Ran : ℕ → State → List Call → State → Type 0
Ran n σ [] τ = τ ≡ σ
Ran n σ (Asked c r ∷ calls) τ = (μ : State) × StepMadeOrRefused σ n (DoCommand c) r μ × Ran n μ calls τ
Ran n σ (Waited w ∷ calls) τ = (w ≡ None) × Ran n σ calls τ
Ran n σ (Again ∷ calls) τ = Ran n σ calls τ

-- the command is a one-shot, run by its driver, which gave this reply
pub record IsDriven (σ : State) (n : ℕ) (c : Command) (r : Reply) (μ : State) : Type 0 where
  pub calls : List Call
  pub ran : Ran n σ calls μ
  pub one_shot : IsOneShot c calls r
