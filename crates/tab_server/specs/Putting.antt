-- Which steps of a session may put items into mailboxes (this project's own rules).
use Rattle.std.specs.Prelude.{◌≡◌, ℕ, List, Bool, true, false, ◌&&◌, ◌||◌, nat_lt, Option, None, Some, is_some}
use Rattle.tab_model.specs.declared.data.Command.{Command}
use Rattle.tab_model.specs.declared.data.Command.TheVariants as command
use Rattle.tab_model.specs.declared.ask.Ask.TheVariants.{Do as DoCommand}
use Rattle.tab_model.specs.State.{State}
use Rattle.tab_model.specs.Outcome.{outcome}
use Rattle.tab_model.specs.Operations.{change_of_op}
use Rattle.tab_book.specs.declared.step.TransactionEnd.{TransactionEnd}
use Rattle.tab_book.specs.declared.step.TransactionEnd.TheVariants as ended
use Rattle.tab_book.specs.declared.step.Transition.{Transition}
use Rattle.tab_server.specs.declared.puts.Puts.{Puts}

-- the command is an operation that changes its table: only such a one gives a commit events
abbrev pub asks_write : Command → Bool
asks_write (command.Do o) = is_some (change_of_op o)
asks_write c = false

-- the command may put items without a transaction: it is a schema command, or begins or ends a subscription
abbrev pub may_put : Command → Bool
may_put (command.Schema s) = true
may_put (command.Subscribe t l dump) = true
may_put (command.Unsubscribe t l) = true
may_put c = false

-- no step by this command adds an entry to the log, so none owes an item to a session
abbrev pub IsSilent : Command → Type 0
IsSilent c = (σ : State) (over : List ℕ) (n : ℕ) → (outcome σ over n (DoCommand c)).entry ≡ None

-- the transaction ended by a commit
abbrev pub is_commit : Option TransactionEnd → Bool
is_commit (Some ended.Commit) = true
is_commit e = false

-- the transaction is open after the step
abbrev pub is_open_after : Transition → Bool
is_open_after t = nat_lt 0 t.after

-- the record with a command that is asked next
abbrev pub with_command : Puts → Command → Puts
with_command p c = record { writes = p.writes || asks_write c; may_have = p.may_have || may_put c }

-- the record with what a step did to the transaction: a commit may put items if a write was asked for, and the writes of a
-- transaction that is over are forgotten
abbrev pub with_step : Puts → Transition → Puts
with_step p t = record { writes = p.writes && is_open_after t; may_have = p.may_have || (is_commit t.ended && p.writes) }
