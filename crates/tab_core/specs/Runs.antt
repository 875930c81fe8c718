-- Steps of a core, lists of them, and what a run of them leaves.
use Rattle.std.specs.Prelude.{◌≡◌, ℕ, List, [], ◌∷◌, ◌++◌, false, map, ◌⊎◌}
use Rattle.tab_model.specs.declared.data.Entry.{Entry}
use Rattle.tab_model.specs.declared.data.Item.{Item}
use Rattle.tab_model.specs.declared.data.Reply.{Reply}
use Rattle.tab_model.specs.declared.data.Reply.TheVariants as reply
use Rattle.tab_model.specs.State.{Outbox, State}
use Rattle.tab_model.specs.declared.ask.Ask.{Ask as AskWith}
use Rattle.tab_model.specs.declared.ask.Ask.TheVariants.{Join, Leave, Retry, Take, Do as DoCommand}
use Rattle.tab_model.specs.Outcome.{Ask, outcome}
use Rattle.tab_model.specs.Run.{Allowed, JoinsEmpty, entries, delivered_by}
use Rattle.tab_core.specs.declared.step.Stepped.{Stepped}
use Rattle.tab_core.specs.Steps.{takes_no_memory}

-- what a step asks; f says what a post shows
abbrev pub ask_of : {P : Type 0} → (P → Outbox) → AskWith P → Ask
ask_of f (Join p) = Join (f p)
ask_of f Leave = Leave
ask_of f Retry = Retry
ask_of f Take = Take
ask_of f (DoCommand c) = DoCommand c

-- what steps ask, in their order, each with the number of its session
abbrev pub asks_of : {P : Type 0} → (P → Outbox) → List (ℕ × AskWith P) → List (ℕ × Ask)
asks_of f steps = map (λ s. (s.0, ask_of f s.1)) steps

-- the caller's condition on steps: a session joins with an empty post
abbrev pub AllJoinEmpty : List (ℕ × Ask) → Type 0
AllJoinEmpty [] = Unit {0}
AllJoinEmpty (a ∷ asks) = JoinsEmpty a.1 × AllJoinEmpty asks

-- a step that was made: who overflowed in it, which the posts' capacities decide where they have one
abbrev pub StepsTo : State → ℕ → Ask → Stepped → State → Type 0
StepsTo σ n a s τ = (over : List ℕ) × Allowed σ over n a × (outcome σ over n a ≡ record { state = τ; reply = s.reply; entry = s.entry })

-- the entry that a step adds to the log, or none of one refused for memory that it takes
abbrev pub StepsOrNoMemory : State → ℕ × Ask → Reply → List Entry → State → Type 0
StepsOrNoMemory σ a r es τ =
    ((over : List ℕ) × Allowed σ over a.0 a.1 × ((outcome σ over a.0 a.1).state ≡ τ) × ((outcome σ over a.0 a.1).reply ≡ r) × (entries (outcome σ over a.0 a.1).entry ≡ es))
    ⊎ (takes_no_memory σ a.0 a.1 ≡ false) × (r ≡ reply.NoMemory) × (es ≡ []) × (τ ≡ σ)

-- a run of steps, one after another, with its replies and its log
abbrev pub RunsTo : State → List (ℕ × Ask) → List Reply → List Entry → State → Type 0
RunsTo σ [] [] log τ = (log ≡ []) × (σ ≡ τ)
RunsTo σ (a ∷ asks) [] log τ = ⊥
RunsTo σ [] (r ∷ rs) log τ = ⊥
RunsTo σ (a ∷ asks) (r ∷ rs) log τ = (μ : State) × (es rest : List Entry) × StepsOrNoMemory σ a r es μ × RunsTo μ asks rs rest τ × (log ≡ es ++ rest)

-- the items that a session took in a run
abbrev pub taken_in : ℕ → List (ℕ × Ask) → List Reply → List Item
taken_in m (a ∷ asks) (r ∷ rs) = delivered_by m a.0 r ++ taken_in m asks rs
taken_in m asks rs = []
