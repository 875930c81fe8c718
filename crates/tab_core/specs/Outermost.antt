-- The transaction that a commit ends, what it changes, and its commit before anything is put (Mnesia User's Guide, "Nested Transactions": a child's commit
-- gives its updates to its parent).
use Rattle.std.specs.Prelude.{◌≡◌, ℕ, ◌+◌, List, [], if◌then◌else◌, Option, Some, None, IfSome}
use Rattle.tab_model.specs.declared.ask.Ask.TheVariants.{Do as DoCommand}
use Rattle.tab_model.specs.declared.data.Command.TheVariants as command
use Rattle.tab_model.specs.declared.data.Entry.TheVariants.{Committed}
use Rattle.tab_model.specs.declared.data.Reply.TheVariants as reply
use Rattle.tab_model.specs.declared.data.Change.{Change}
use Rattle.tab_model.specs.Catalogs.{Catalog}
use Rattle.tab_model.specs.Events.{change_all, surviving_changes}
use Rattle.tab_model.specs.Outcome.{is_empty, with_changed, with_transaction}
use Rattle.tab_model.specs.State.{State, Session, Transaction, is_waiting, mid_of, session_at, transaction_at}
use Rattle.tab_core.specs.declared.ending.Ending.{Ending}
use Rattle.tab_core.specs.declared.step.Stepped.{Stepped}
use Rattle.tab_core.specs.Steps.{StepsTo}

-- a child's commit ends none
abbrev pub outermost_of : State → Option Transaction → Option Transaction
outermost_of σ None = None
outermost_of σ (Some t) = if is_empty (mid_of σ t).saved then Some t else None

-- nor does one of a session that waits
abbrev pub outermost : State → ℕ → Option Transaction
outermost σ n = if is_waiting σ n then None else outermost_of σ (transaction_at σ n)

-- its age, and its updates in order
abbrev pub ending_of : Transaction → ℕ × List Change
ending_of t = (t.age, surviving_changes t.moves t.told)

-- the age of a transaction that its commit ends, and its updates in order
abbrev pub age_and_updates : Ending → ℕ × List Change
age_and_updates e = (e.age, e.updates.now)

-- the state after a session's outermost commit, before its events are put
abbrev pub after_commit : State → Session → Transaction → State
after_commit σ s t = record σ { tables = (mid_of σ t).now; sessions = with_changed σ.sessions (with_transaction s None); commits = σ.commits + 1 }

-- an outermost commit, before its events are put
abbrev pub Commits : State → ℕ → Transaction → Stepped → State → Type 0
Commits σ n t x τ = (s : Session) → session_at σ.sessions n ≡ Some s
    → (τ ≡ after_commit σ s t) × (x ≡ record { reply = reply.Atomic (σ.commits + 1); entry = Some (Committed (σ.commits + 1) s.number t.age t.moves t.told []) })

-- a commit, by the transaction that it ends: the outermost, before its events are put; or a child's, or one that is refused
abbrev pub CommitsBy : State → ℕ → Stepped → State → Option Transaction → Type 0
CommitsBy σ n x τ None = StepsTo σ n (DoCommand command.Commit) x τ
CommitsBy σ n x τ (Some t) = Commits σ n t x τ

-- a transaction that the session's commit ends, with the tables after it, if they are there
pub record Ends (σ : State) (n : ℕ) (t : Transaction) (after : Option Catalog) : Type 0 where
  pub ends : outermost σ n ≡ Some t
  pub tables : IfSome after (λ w. w ≡ change_all σ.tables (surviving_changes t.moves t.told))
