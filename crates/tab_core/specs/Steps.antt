-- Steps, and what they take.
use Rattle.std.specs.Prelude.{◌≡◌, ◌||◌, ℕ, [], Bool, true, false, not, is_some}
use Rattle.tab_model.specs.declared.data.Command.TheVariants as command
use Rattle.tab_model.specs.declared.data.Limit.{Limit}
use Rattle.tab_model.specs.declared.data.Limit.TheVariants as limit
use Rattle.tab_model.specs.declared.data.Reply.{Reply}
use Rattle.tab_model.specs.declared.data.Reply.TheVariants as reply
use Rattle.tab_model.specs.State.{State, is_waiting, moves_at, transaction_at}
use Rattle.tab_model.specs.declared.ask.Ask.TheVariants.{Join, Leave, Retry, Take, Do as DoCommand}
use Rattle.tab_model.specs.Outcome.{Ask, is_empty, outcome}
use Rattle.tab_core.specs.declared.step.Stepped.{Stepped}

-- what is done without memory: to leave, to take, to abort; to retry where nothing is queued; and to commit a transaction that
-- did nothing
abbrev pub asks_for_none : State → ℕ → Ask → Bool
asks_for_none σ n (Join b) = false
asks_for_none σ n Leave = true
asks_for_none σ n Retry = not (is_waiting σ n)
asks_for_none σ n Take = true
asks_for_none σ n (DoCommand (command.Abort r)) = true
asks_for_none σ n (DoCommand command.Commit) = is_empty (moves_at σ n)
asks_for_none σ n (DoCommand c) = false

-- the tables are made before their number is looked at, and so with memory
abbrev pub is_free_limit : Limit → Bool
is_free_limit limit.Tables = false
is_free_limit l = true

-- a session asks again for the lock that it waits for
abbrev pub is_retry : Ask → Bool
is_retry Retry = true
is_retry a = false

-- a session asks for a commit, of a child or of the whole
abbrev pub is_commit : Ask → Bool
is_commit (DoCommand command.Commit) = true
is_commit a = false

-- what is answered without memory, inside a transaction or outside: refusals that name no table, the begin of level 1, the
-- commit of a child, and that a request still waits
abbrev pub tells_for_none : Bool → Ask → Reply → Bool
tells_for_none inside a reply.BadSession = true
tells_for_none inside a reply.NoTransaction = true
tells_for_none inside a reply.WaitingNow = true
tells_for_none inside a reply.InTransaction = true
tells_for_none inside a reply.NotWaiting = true
tells_for_none inside a reply.OverflowUntold = true
tells_for_none inside a (reply.SystemLimit l) = is_free_limit l
tells_for_none inside a (reply.Tid age) = not inside
tells_for_none inside a reply.AtomicOk = is_commit a
tells_for_none inside a reply.Waiting = is_retry a
tells_for_none inside a r = false

-- the step, where no post refuses, is answered by a reply that takes no memory
abbrev pub is_told_for_none : State → ℕ → Ask → Bool
is_told_for_none σ n a = tells_for_none (is_some (transaction_at σ n)) a (outcome σ [] n a).reply

-- by what is asked, or by what it is answered
abbrev pub takes_no_memory : State → ℕ → Ask → Bool
takes_no_memory σ n a = asks_for_none σ n a || is_told_for_none σ n a

-- a step that was made, and put nothing into posts
abbrev pub StepsTo : State → ℕ → Ask → Stepped → State → Type 0
StepsTo σ n a s τ = outcome σ [] n a ≡ record { state = τ; reply = s.reply; entry = s.entry }
