-- A step of a core that a request asks for, made or refused for memory (this project's own rules).
use Rattle.std.specs.Prelude.{◌≡◌, ℕ, List, [], false, Option, ◌⊎◌}
use Rattle.tab_model.specs.State.{Outbox, State}
use Rattle.tab_model.specs.declared.ask.Ask.TheVariants.{Join}
use Rattle.tab_model.specs.Outcome.{Ask, step_without_entry, outcome}
use Rattle.tab_model.specs.Run.{Allowed}
use Rattle.tab_model.specs.declared.data.Entry.{Entry}
use Rattle.tab_model.specs.declared.data.Reply.{Reply}
use Rattle.tab_model.specs.declared.data.Reply.TheVariants.{NoMemory}
use Rattle.tab_core.specs.Steps.{takes_no_memory}

-- the step was made, with those whose posts refused in it
pub record IsStepMade (σ : State) (session : ℕ) (a : Ask) (r : Reply) (μ : State) : Type 0 where
  pub over : List ℕ
  pub allowed : Allowed σ over session a
  pub entry : Option Entry
  pub made : outcome σ over session a ≡ record { state = μ; reply = r; entry = entry }

-- or it was refused for memory that it takes, with nothing changed
abbrev pub StepMadeOrRefused : State → ℕ → Ask → Reply → State → Type 0
StepMadeOrRefused σ session a r μ = IsStepMade σ session a r μ ⊎ (takes_no_memory σ session a ≡ false) × (r ≡ NoMemory) × (μ ≡ σ)

-- a join takes memory, whatever the post
abbrev pub JoinTakesMemory : State → ℕ → Type 0
JoinTakesMemory σ session = (b : Outbox) → takes_no_memory σ session (Join b) ≡ false

-- a join is told so, whatever the post, and changes nothing
abbrev pub IsJoinRefused : State → ℕ → Reply → Type 0
IsJoinRefused σ session r = (b : Outbox) → outcome σ [] session (Join b) ≡ step_without_entry σ r
