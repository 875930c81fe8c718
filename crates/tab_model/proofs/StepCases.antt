-- The steps by what decides them: each is its command's definition where the values of the conditions stand for them.
use Rattle.std.specs.Prelude.{ℕ, List, [], ◌∷◌, Bool, not, if◌then◌else◌, Option, Some, None}
use Rattle.tab_model.specs.declared.data.Operation.{Operation}
use Rattle.tab_model.specs.declared.data.Move.{Move}
use Rattle.tab_model.specs.declared.data.Move.TheVariants.{Do, Open, Close}
use Rattle.tab_model.specs.declared.data.Reply.{Reply}
use Rattle.tab_model.specs.declared.data.Reply.TheVariants as reply
use Rattle.tab_model.specs.declared.data.Limit.TheVariants as limit
use Rattle.tab_model.specs.declared.data.Item.TheVariants.{Began, Ended}
use Rattle.tab_model.specs.declared.data.Ending.TheVariants as ending
use Rattle.tab_model.specs.declared.data.Level.{Level}
use Rattle.tab_model.specs.declared.data.Schema.{Schema}
use Rattle.tab_model.specs.declared.data.Command.{Command}
use Rattle.tab_model.specs.declared.data.Entry.TheVariants.{Subscribed, Unsubscribed}
use Rattle.tab_model.specs.Locks.{needs}
use Rattle.tab_model.specs.Ages.{decide}
use Rattle.tab_model.specs.Schemas.{table_of_schema}
use Rattle.tab_model.specs.Log.{has_session}
use Rattle.tab_model.specs.Slices.{dump_of}
use Rattle.tab_model.specs.State.{Transaction, Outbox, Session, State, without_request, ages_of, without_watch}
use Rattle.tab_model.specs.Outcome.{Outcome, step_without_entry, refusal_if, first_of, unless_refused, with_queue, with_move, make, by_lock_answer, begin_now, commit_now, events_now, schema_now, put_marker, do_command, join_now}

-- a move ends level 1, and with it the transaction
abbrev pub after_move : Transaction → Move → Option Reply → Bool → Option Transaction
after_move transaction x r ends = if ends then None else Some (with_move transaction x r)

-- an operation: the transaction may have one more
abbrev pub within_limit : State → Session → Transaction → Operation → Bool → Outcome
within_limit σ s transaction o room =
    unless_refused σ (refusal_if (not room) (reply.SystemLimit limit.Operations)) (by_lock_answer σ s transaction o (decide (ages_of σ) (transaction.age, needs o)))

-- a Retry: nothing is in the way of the queued operation
abbrev pub try_again : State → Session → Transaction → Operation → Bool → Outcome
try_again σ s transaction o free =
    if free then make (with_queue σ (without_request σ.queue s.number)) s transaction (Do o) reply.Done else step_without_entry σ reply.Waiting

-- level 1 begins: there is an age
abbrev pub open_level_1 : State → Session → Bool → Outcome
open_level_1 σ s room = unless_refused σ (first_of (refusal_if (not room) (reply.SystemLimit limit.Ages) ∷ [])) (begin_now σ s)

-- a child begins: there is a level, and the transaction may have one more
abbrev pub open_child : State → Session → Transaction → Bool → Bool → Outcome
open_child σ s transaction level room =
    unless_refused σ (first_of (refusal_if (not level) (reply.SystemLimit limit.Nesting) ∷ refusal_if (not room) (reply.SystemLimit limit.Operations) ∷ []))
    (make σ s transaction Open reply.Done)

-- a commit: of level 1
abbrev pub commit_at : State → List ℕ → Session → Transaction → Bool → Outcome
commit_at σ over s transaction outermost =
    if outermost then commit_now σ over s transaction (events_now σ transaction) else make σ s transaction Close reply.Done

-- a schema command outside a transaction: what the tables refuse, a lock in its table, there may be one table more
abbrev pub schema_if : State → List ℕ → Schema → Option Reply → Bool → Bool → Outcome
schema_if σ over c r busy room =
    unless_refused σ (first_of (r ∷ refusal_if busy (reply.Locked (table_of_schema c)) ∷ refusal_if (not room) (reply.SystemLimit limit.Tables) ∷ [])) (schema_now σ over c)

-- what refuses a subscription but its post: an untold overflow, no such table, a subscription that there is
abbrev pub subscribe_refusal_if : List ℕ → Bool → Bool → Bool → Option Reply
subscribe_refusal_if t untold missing watched =
    first_of (refusal_if untold reply.OverflowUntold ∷ refusal_if missing (reply.UnknownTable t) ∷ refusal_if watched (reply.AlreadySubscribed t) ∷ [])

-- a subscription: what refuses it but its post
abbrev pub subscribe_if : State → List ℕ → Session → List ℕ → Level → Bool → Option Reply → Outcome
subscribe_if σ over s t l dump r =
    unless_refused σ r
    (put_marker σ (has_session over s.number) s (record { table = t; level = l } ∷ s.watching) (Began t l (dump_of σ.tables t dump)) (Subscribed s.number t l dump))

-- a subscription's end: there is one at the level
abbrev pub unsubscribe_if : State → List ℕ → Session → List ℕ → Bool → Outcome
unsubscribe_if σ over s t there =
    unless_refused σ (refusal_if (not there) (reply.NotSubscribed t))
    (put_marker σ (has_session over s.number) s (without_watch s.watching t) (Ended t ending.Unsubscribed) (Unsubscribed s.number t))

-- a command of a joined session: one that waits, and no abort
abbrev pub command_if : State → List ℕ → Session → Command → Bool → Outcome
command_if σ over s c waits = unless_refused σ (refusal_if waits reply.WaitingNow) (do_command σ over s c)

-- a Join: a number above all before, and there may be one session more
abbrev pub join_if : State → ℕ → Outbox → Bool → Bool → Outcome
join_if σ n b above room =
    unless_refused σ (first_of (refusal_if (not above) reply.BadSession ∷ refusal_if (not room) (reply.SystemLimit limit.Sessions) ∷ [])) (join_now σ n b)
