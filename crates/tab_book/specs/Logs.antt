-- The log of a book (this project's own): each step that was made, with its reply, from the book's begin on.
use Rattle.std.specs.Prelude.{◌≡◌, ℕ, List, [], ◌∷◌, Option}
use Rattle.tab_model.specs.declared.data.Entry.{Entry}
use Rattle.tab_model.specs.declared.data.Limits.{Limits}
use Rattle.tab_model.specs.declared.data.Reply.{Reply}
use Rattle.tab_model.specs.declared.data.Reply.TheVariants as reply
use Rattle.tab_model.specs.declared.ask.Ask.TheVariants.{Join}
use Rattle.tab_model.specs.Outcome.{Ask, outcome}
use Rattle.tab_model.specs.Run.{Allowed}
use Rattle.tab_model.specs.State.{State, new}
use Rattle.tab_post.specs.Ends.{empty_outbox}

-- a step that was made: whose it is, what was asked, and the reply
pub record Made : Type 0 where
  pub session : ℕ
  pub ask : Ask
  pub reply : Reply

abbrev pub made : ℕ → Ask → Reply → Made
made n a r = record { session = n; ask = a; reply = r }

-- a session joined, with the mailbox at this place
abbrev pub joined : ℕ → ℕ → Made
joined n mailbox = made n (Join (empty_outbox mailbox)) reply.Done

-- the step leads from the one state to the other
pub record Makes (σ : State) (m : Made) (τ : State) : Type 0 where
  pub over : List ℕ
  pub entry : Option Entry
  pub allowed : Allowed σ over m.session m.ask
  pub core : outcome σ over m.session m.ask ≡ record { state = τ; reply = m.reply; entry = entry }

-- these steps, one after another, lead from the one state to the other
abbrev pub IsRunOf : State → List Made → State → Type 0
IsRunOf σ [] τ = τ ≡ σ
IsRunOf σ (m ∷ log) τ = (μ : State) × Makes σ m μ × IsRunOf μ log τ

-- they lead there from the begin, under some limits
pub record IsWholeRun (log : List Made) (τ : State) : Type 0 where
  pub limits : Limits
  pub run : IsRunOf (new limits) log τ
