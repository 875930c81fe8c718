-- How a running book stands: its core, its journal and the base that the journal starts from (this project's own).
use Rattle.std.specs.Prelude.{◌≡◌, ◌<◌, ◌⊎◌, ℕ, suc, List, [], ◌++◌, Bool, true, false, ◌==◌, Option, Some, None, is_some, length}
use Rattle.std.specs.List.{AllByRecursion}
use Rattle.tab_model.specs.declared.data.Command.{Command}
use Rattle.tab_model.specs.declared.data.Command.TheVariants as command
use Rattle.tab_model.specs.declared.data.Entry.{Entry}
use Rattle.tab_model.specs.declared.data.Entry.TheVariants.{Committed, Changed, Subscribed, Unsubscribed}
use Rattle.tab_model.specs.Log.{serial, in_force, commits_from}
use Rattle.tab_model.specs.History.{Base, level_at}
use Rattle.tab_model.specs.State.{Transaction, State, session_at, transaction_at, mid_of}
use Rattle.tab_model.specs.declared.ask.Ask.TheVariants.{Join, Leave, Retry, Take, Do as DoCommand}
use Rattle.tab_model.specs.Outcome.{Ask}
use Rattle.tab_model.specs.Run.{IsTied}

-- all posts are channels', which take nothing back
abbrev pub AreChannels : State → Type 0
AreChannels σ = AllByRecursion (λ s. s.outbox.capacity ≡ None) σ.sessions

-- a Join hands in an empty outbox of a channel; of all else nothing is required
abbrev pub JoinsChannel : Ask → Type 0
JoinsChannel (Join b) = (b.capacity ≡ None) × (b.items ≡ [])
JoinsChannel Leave = Unit {0}
JoinsChannel Retry = Unit {0}
JoinsChannel Take = Unit {0}
JoinsChannel (DoCommand c) = Unit {0}

-- the session is joined
abbrev pub is_joined : State → ℕ → Bool
is_joined σ n = is_some (session_at σ.sessions n)

-- a session that is joined, or may join
abbrev pub MayFollow : State → ℕ → Type 0
MayFollow σ n = (is_joined σ n ≡ true) ⊎ σ.greatest < n

-- the base is what the entries that were folded into it leave: of who has left it may keep nothing
pub record IsFolded (past : List Entry) (b : Base) (σ : State) : Type 0 where
  pub tables : b.tables ≡ serial past
  pub commits : b.commits ≡ commits_from 0 past
  pub levels : (n : ℕ) (t : List ℕ) → MayFollow σ n → level_at b.subscriptions n t ≡ in_force n past t

-- past and log together are all that happened
pub record FollowsLog (past : List Entry) (b : Base) (log : List Entry) (σ : State) : Type 0 where
  pub tied : IsTied σ (past ++ log) (λ m. [])
  pub folded : IsFolded past b σ
  pub channels : AreChannels σ

-- whether an entry's session, where it subscribes, is still joined
abbrev pub still_joined : State → Entry → Bool
still_joined σ (Subscribed s t l dump) = is_joined σ s
still_joined σ (Committed n s age xs rs over) = false
still_joined σ (Changed c over) = false
still_joined σ (Unsubscribed s t) = false

-- how many levels a session has open
abbrev pub levels_in : State → Option Transaction → ℕ
levels_in σ None = 0
levels_in σ (Some t) = suc (length (mid_of σ t).saved)

-- how many levels the session of a number has open; 0 where it is not joined or has no transaction
abbrev pub levels_of : State → ℕ → ℕ
levels_of σ n = levels_in σ (transaction_at σ n)

-- whether a command may give an entry: a commit that would be the outermost, a schema command, a subscription's begin or end
abbrev pub may_enter_command : State → ℕ → Command → Bool
may_enter_command σ n (command.Schema c) = true
may_enter_command σ n command.Commit = levels_of σ n == 1
may_enter_command σ n (command.Subscribe t l dump) = true
may_enter_command σ n (command.Unsubscribe t l) = true
may_enter_command σ n (command.TableInfo t i) = false
may_enter_command σ n command.Begin = false
may_enter_command σ n (command.Abort r) = false
may_enter_command σ n (command.Do o) = false
may_enter_command σ n (command.OneShot parts retries) = false

-- the step may give an entry: it is a command that may, and true says that its session is joined
abbrev pub may_enter_session : State → ℕ → Ask → Bool → Bool
may_enter_session σ n (DoCommand c) true = may_enter_command σ n c
may_enter_session σ n (DoCommand c) false = false
may_enter_session σ n (Join b) joined = false
may_enter_session σ n Leave joined = false
may_enter_session σ n Retry joined = false
may_enter_session σ n Take joined = false

-- a commit of the session would end its transaction
pub record EndsTransaction (σ : State) (n : ℕ) : Type 0 where
  pub transaction : Transaction
  pub opened : transaction_at σ n ≡ Some transaction
  pub outermost : (mid_of σ transaction).saved ≡ []

-- the step may give an entry: it is a command that may, of a joined session
abbrev pub may_enter : State → ℕ → Ask → Bool
may_enter σ n a = may_enter_session σ n a (is_joined σ n)
