-- What a step does: the next state, the reply, and the entry that it adds to the log, if it adds one. What is no term, no
-- request or refused for memory is no step. The order of the checks, the refusals, the numbers of commits, the outboxes and
-- their overflow are this project's own rules; transactions, locks and subscriptions follow the Mnesia User's Guide,
-- "Transactions and Other Access Contexts" and "Mnesia Event Handling".
use Rattle.std.specs.Prelude.{ℕ, suc, ◌+◌, ◌-◌, ◌^◌, min, List, [], ◌∷◌, ◌++◌, Bool, true, false, not, ◌&&◌, ◌==◌, nat_lt, nat_le, if◌then◌else◌, Option, Some, None, is_some, map, length, filter}
use Rattle.tab_term.specs.declared.term.Term.{Term}
use Rattle.tab_model.specs.declared.ask.Ask.{Ask as AskWith}
use Rattle.tab_model.specs.declared.ask.Ask.TheVariants.{Join, Leave, Retry, Take, Do as DoCommand}
use Rattle.tab_model.specs.declared.data.Operation.{Operation}
use Rattle.tab_model.specs.declared.data.Move.{Move}
use Rattle.tab_model.specs.declared.data.Move.TheVariants.{Do, Open, Close, Undo}
use Rattle.tab_model.specs.declared.data.Reply.{Reply}
use Rattle.tab_model.specs.declared.data.Reply.TheVariants as reply
use Rattle.tab_model.specs.declared.data.Limit.TheVariants as limit
use Rattle.tab_model.specs.declared.data.Item.{Item}
use Rattle.tab_model.specs.declared.data.Item.TheVariants.{Began, Ended}
use Rattle.tab_model.specs.declared.data.Ending.TheVariants as ending
use Rattle.tab_model.specs.declared.data.Level.{Level}
use Rattle.tab_model.specs.declared.data.Level.TheVariants.{Simple, Detailed}
use Rattle.tab_model.specs.declared.data.Schema.{Schema}
use Rattle.tab_model.specs.declared.data.Schema.TheVariants.{Create, Remove, AddIndex, DelIndex}
use Rattle.tab_model.specs.declared.data.InfoItem.{InfoItem}
use Rattle.tab_model.specs.declared.data.InfoItem.TheVariants as item
use Rattle.tab_model.specs.declared.data.TableInfo.TheVariants as info
use Rattle.tab_model.specs.declared.data.Command.{Command}
use Rattle.tab_model.specs.declared.data.Command.TheVariants as command
use Rattle.tab_model.specs.declared.data.Entry.{Entry}
use Rattle.tab_model.specs.declared.data.Entry.TheVariants.{Committed, Changed, Subscribed, Unsubscribed}
use Rattle.tab_model.specs.declared.data.Event.{Event}
use Rattle.tab_model.specs.Names.{names, numbers}
use Rattle.tab_model.specs.Catalogs.{Table, find}
use Rattle.tab_model.specs.Alone.{Mid, reply_to}
use Rattle.tab_model.specs.Operations.{failure}
use Rattle.tab_model.specs.Events.{events, surviving_changes}
use Rattle.tab_model.specs.Locks.{needs}
use Rattle.tab_model.specs.Ages.{Answer, Granted, Wait, Die, decide, can_retry}
use Rattle.tab_model.specs.Schemas.{table_of_schema, schema_refusal, schema_effect, removed_table}
use Rattle.tab_model.specs.Log.{has_session}
use Rattle.tab_model.specs.Slices.{batch_for, end_for, dump_of}
use Rattle.tab_model.specs.State.{Transaction, Outbox, Watch, Session, Queued, State, session_at, request_in, without_request, is_waiting, ages_of, is_busy, level_in, without_watch, count_moves, mid_of}

-- what a session asks, who joins with an outbox
abbrev pub Ask : Type 0
Ask = AskWith Outbox

-- what a step comes to: the state after it, its reply, and the entry that it adds to the log, if it adds one
pub record Outcome : Type 0 where
  pub state : State
  pub reply : Reply
  pub entry : Option Entry

-- a step that adds no entry: the state after it, which may have changed, and its reply
abbrev pub step_without_entry : State → Reply → Outcome
step_without_entry σ r = record { state = σ; reply = r; entry = None }

-- ---- refusals

-- the reply that refuses, where it is true that something does
abbrev pub refusal_if : Bool → Reply → Option Reply
refusal_if refuses r = if refuses then Some r else None

-- the first refusal that there is, of those that a command may meet, in order
abbrev pub first_of : List (Option Reply) → Option Reply
first_of [] = None
first_of (None ∷ refusals) = first_of refusals
first_of (Some r ∷ refusals) = Some r

-- the step, or the reply that refuses it, which changes nothing
abbrev pub unless_refused : State → Option Reply → Outcome → Outcome
unless_refused σ None step = step
unless_refused σ (Some r) step = step_without_entry σ r

-- the list is empty
abbrev pub is_empty : {A : Type 0} → List A → Bool
is_empty [] = true
is_empty (x ∷ xs) = false

-- the sessions with the new state of one in the place of its old one; as they were where it is not among them
abbrev pub with_changed : List Session → Session → List Session
with_changed [] s = []
with_changed (x ∷ xs) s = if x.number == s.number then s ∷ xs else x ∷ with_changed xs s

-- the sessions without that of a number, the others in their order
abbrev pub without_session : List Session → ℕ → List Session
without_session xs n = filter (λ x. not (x.number == n)) xs

-- the session with this transaction open, or with none, and all else as it was
abbrev pub with_transaction : Session → Option Transaction → Session
with_transaction s transaction = record s { transaction = transaction }

-- the state with the new state of one joined session, and all else as it was
abbrev pub with_session : State → Session → State
with_session σ s = record σ { sessions = with_changed σ.sessions s }

-- the state with this queue, and all else as it was
abbrev pub with_queue : State → List Queued → State
with_queue σ q = record σ { queue = q }

-- ---- outboxes

-- the outbox with these items behind its own
abbrev pub with_items : Outbox → List Item → Outbox
with_items b items = record b { items = b.items ++ items }

-- a post refuses: its count rises, up to the greatest 64 bit number
abbrev pub with_refusal : Outbox → Outbox
with_refusal b = record b { refusals = min (b.refusals + 1) (2 ^ 64 - 1) }

-- ---- moves

-- the transaction with one more move, and the reply to it
abbrev pub with_move : Transaction → Move → Option Reply → Transaction
with_move transaction x r = record { age = transaction.age; moves = transaction.moves ++ x ∷ []; told = transaction.told ++ r ∷ [] }

-- the move ends level 1, and so the transaction: an operation that fails there, or an abort there. A commit there is no move
-- (commit_now); Close is a child's
abbrev pub ends_transaction : Mid → Move → Bool
ends_transaction m (Do o) = is_some (failure m.now o) && is_empty m.saved
ends_transaction m Open = false
ends_transaction m Close = false
ends_transaction m Undo = is_empty m.saved

-- the transaction after a move, with the reply that the move has where its transaction runs alone; none where it ended level 1
abbrev pub transaction_after : State → Transaction → Move → Option Transaction
transaction_after σ transaction x =
    if ends_transaction (mid_of σ transaction) x then None
    else Some (with_move transaction x (reply_to (mid_of σ transaction) x))

-- the reply of a move that is told one
abbrev pub reply_or : Option Reply → Reply → Reply
reply_or None r = r
reply_or (Some x) r = x

-- a move is made: its reply is the one that it has where its transaction runs alone, and r where that is none, as for an abort
abbrev pub make : State → Session → Transaction → Move → Reply → Outcome
make σ s transaction x r =
    step_without_entry (with_session σ (with_transaction s (transaction_after σ transaction x)))
    (reply_or (reply_to (mid_of σ transaction) x) r)

-- a restart: the transaction's operations are gone, its age stays
abbrev pub begun_anew : Transaction → Transaction
begun_anew transaction = record { age = transaction.age; moves = []; told = [] }

-- an operation after its lock is decided
abbrev pub by_lock_answer : State → Session → Transaction → Operation → Answer → Outcome
by_lock_answer σ s transaction o Granted = make σ s transaction (Do o) reply.Done
by_lock_answer σ s transaction o Wait = step_without_entry (with_queue σ (σ.queue ++ record { session = s.number; age = transaction.age; operation = o } ∷ [])) reply.Waiting
by_lock_answer σ s transaction o Die = step_without_entry (with_session σ (with_transaction s (Some (begun_anew transaction)))) reply.Restart

-- what refuses an operation and a child's begin: the transaction has as many of both as it may
abbrev pub operations_refusal : State → Transaction → Option Reply
operations_refusal σ transaction =
    refusal_if (not (nat_lt (count_moves transaction.moves) σ.limits.operations))
    (reply.SystemLimit limit.Operations)

-- an operation: its lock is decided
abbrev pub operate : State → Session → Operation → Option Transaction → Outcome
operate σ s o None = step_without_entry σ reply.NoTransaction
operate σ s o (Some transaction) =
    unless_refused σ (operations_refusal σ transaction)
    (by_lock_answer σ s transaction o (decide (ages_of σ) (transaction.age, needs o)))

-- a Retry of a queued operation: it leaves the queue and is made, where no other's lock that is
-- held, or queued before it, conflicts; else it waits on
abbrev pub retry_in : State → Session → Operation → Option Transaction → Outcome
retry_in σ s o None = step_without_entry σ reply.NotWaiting
retry_in σ s o (Some transaction) =
    if can_retry (ages_of σ) (transaction.age, needs o)
    then make (with_queue σ (without_request σ.queue s.number)) s transaction (Do o) reply.Done
    else step_without_entry σ reply.Waiting

-- a Retry answers the queued operation
abbrev pub retry : State → Session → Option Queued → Outcome
retry σ s None = step_without_entry σ reply.NotWaiting
retry σ s (Some q) = retry_in σ s q.operation s.transaction

-- ---- transactions

-- the next age is above the limit of ages
abbrev pub ages_refusal : State → Option Reply
ages_refusal σ = refusal_if (not (nat_le σ.next_age σ.limits.ages)) (reply.SystemLimit limit.Ages)

-- level 1 begins, with the next age and no move
abbrev pub begin_now : State → Session → Outcome
begin_now σ s =
    let begun : Transaction = record { age = σ.next_age; moves = []; told = [] } in
    step_without_entry
    (record (with_session σ (with_transaction s (Some begun))) { next_age = σ.next_age + 1 })
    (reply.Tid σ.next_age)

-- what refuses a begin: of level 1 the limit of ages, of a child those of nesting and operations
abbrev pub begin_refusals : State → Option Transaction → List (Option Reply)
begin_refusals σ None = ages_refusal σ ∷ []
begin_refusals σ (Some transaction) =
    refusal_if (not (nat_lt (suc (length (mid_of σ transaction).saved)) σ.limits.nesting))
    (reply.SystemLimit limit.Nesting)
    ∷ operations_refusal σ transaction ∷ []

-- level 1, or a child level, which is a move of the transaction
abbrev pub begin : State → Session → Option Transaction → Outcome
begin σ s None = unless_refused σ (first_of (begin_refusals σ None)) (begin_now σ s)
begin σ s (Some transaction) =
    unless_refused σ (first_of (begin_refusals σ (Some transaction)))
    (make σ s transaction Open reply.Done)

-- what refuses a one-shot
abbrev pub one_shot_refusals : State → Option Transaction → List (Option Reply)
one_shot_refusals σ transaction =
    refusal_if (is_some transaction) reply.InTransaction ∷ ages_refusal σ ∷ []

-- the first step of a one-shot: level 1 begins. Its members are steps of their own, which its driver makes
-- (tab_oneshot/specs/OneShots)
abbrev pub one_shot : State → Session → Option Transaction → Outcome
one_shot σ s transaction =
    unless_refused σ (first_of (one_shot_refusals σ transaction)) (begin_now σ s)

-- an abort: the only command that is served while an operation of the session waits; it takes that out of the queue
abbrev pub abort : State → Session → Term → Option Transaction → Outcome
abort σ s r None = step_without_entry σ reply.NoTransaction
abort σ s r (Some transaction) = make (with_queue σ (without_request σ.queue s.number)) s transaction Undo (reply.UserAbort r)

-- ---- what a step puts into one session's outbox

-- a session that overflows at commit n: it watches nothing any more, and its outbox counts a refusal
abbrev pub after_overflow : ℕ → Session → Session
after_overflow n s = record s { watching = []; outbox = with_refusal s.outbox; overflow = Some n }

-- the items of a commit or a deletion are put: a session whose outbox refuses overflows in place of it, and watches nothing more
abbrev pub after_put : ℕ → List ℕ → List Item → Session → Session
after_put n over items s =
    if has_session over s.number then after_overflow n s
    else record s { outbox = with_items s.outbox items }

-- what a commit with this number and these events owes to a session, by what it watches: one item, or none
abbrev pub batch_to : ℕ → List Event → Session → List Item
batch_to n es s = batch_for (level_in s.watching) n es

-- an outermost commit: the number, the tables, the batches, and the locks gone
abbrev pub commit_now : State → List ℕ → Session → Transaction → List Event → Outcome
commit_now σ over s transaction es =
    record {
      state = record σ {
        tables = (mid_of σ transaction).now;
        sessions = map (λ x. after_put (σ.commits + 1) over (batch_to (σ.commits + 1) es x) x) (with_changed σ.sessions (with_transaction s None));
        commits = σ.commits + 1;
      };
      reply = reply.Atomic (σ.commits + 1);
      entry = Some (Committed (σ.commits + 1) s.number transaction.age transaction.moves transaction.told over);
    }

-- the events that a commit would give
abbrev pub events_now : State → Transaction → List Event
events_now σ transaction = events σ.tables transaction.age (surviving_changes transaction.moves transaction.told)

-- a commit of the innermost level: the outermost, or a child's, which is a move of the transaction
abbrev pub commit : State → List ℕ → Session → Option Transaction → Outcome
commit σ over s None = step_without_entry σ reply.NoTransaction
commit σ over s (Some transaction) =
    if is_empty (mid_of σ transaction).saved
    then commit_now σ over s transaction (events_now σ transaction)
    else make σ s transaction Close reply.Done

-- ---- schema commands

-- the session without its subscription to a deleted table, where a table is deleted
abbrev pub without_deleted : Option (List ℕ) → Session → Session
without_deleted None s = s
without_deleted (Some t) s = record s { watching = without_watch s.watching t }

-- the end marker that is due to a session for a deleted table, where it watches that table
abbrev pub end_to : Option (List ℕ) → Session → List Item
end_to t s = end_for (level_in s.watching) t

-- a schema command that is done
abbrev pub schema_now : State → List ℕ → Schema → Outcome
schema_now σ over c =
    record {
      state = record σ {
        tables = schema_effect σ.tables c;
        sessions = map (λ x. after_put (σ.commits + 1) over (end_to (removed_table c) x) (without_deleted (removed_table c) x)) σ.sessions;
      };
      reply = reply.AtomicOk;
      entry = Some (Changed c over);
    }

-- the command makes no table, or there are fewer than the limit
abbrev pub has_room : State → Schema → Bool
has_room σ (Create t os) = nat_lt (length σ.tables) σ.limits.tables
has_room σ (Remove t) = true
has_room σ (AddIndex t a) = true
has_room σ (DelIndex t a) = true

-- what refuses a schema command
abbrev pub schema_refusals : State → Schema → Option Transaction → List (Option Reply)
schema_refusals σ c transaction =
    refusal_if (is_some transaction) reply.InTransaction
    ∷ schema_refusal σ.tables c
    ∷ refusal_if (is_busy σ (table_of_schema c)) (reply.Locked (table_of_schema c))
    ∷ refusal_if (not (has_room σ c)) (reply.SystemLimit limit.Tables)
    ∷ []

-- a schema command
abbrev pub schema : State → List ℕ → Schema → Option Transaction → Outcome
schema σ over c transaction =
    unless_refused σ (first_of (schema_refusals σ c transaction)) (schema_now σ over c)

-- what table_info answers of a table: its type, its attributes, the positions that have an index, how many records
abbrev pub info_at : Table → InfoItem → Reply
info_at t item.Kind = reply.TableInfo (info.Kind t.def.kind)
info_at t item.Attributes = reply.TableInfo (info.Attributes (names t.def.attributes))
info_at t item.Index = reply.TableInfo (info.Index (numbers t.def.indexes))
info_at t item.Size = reply.TableInfo (info.Size (length t.rows))

-- the reply to table_info; a refusal where there is no table
abbrev pub table_info : List ℕ → InfoItem → Option Table → Reply
table_info n i None = reply.UnknownTable n
table_info n i (Some t) = info_at t i

-- ---- subscriptions

-- two levels are the same
abbrev pub same_level : Level → Level → Bool
same_level Simple Simple = true
same_level Detailed Detailed = true
same_level Simple Detailed = false
same_level Detailed Simple = false

-- the table is watched, and at this level
abbrev pub is_at : Option Level → Level → Bool
is_at None l = false
is_at (Some x) l = same_level x l

-- a marker is put into the outbox of a session, which then watches ws; where true says that the outbox refuses, it counts that
abbrev pub put_marker : State → Bool → Session → List Watch → Item → Entry → Outcome
put_marker σ true s ws x e = step_without_entry (with_session σ (record s { outbox = with_refusal s.outbox })) reply.OutboxFull
put_marker σ false s ws x e =
    record {
      state = with_session σ (record s { watching = ws; outbox = with_items s.outbox (x ∷ []) });
      reply = reply.SubscribedHere;
      entry = Some e;
    }

-- what refuses a subscription, apart from a full outbox: an untold overflow, no such table, subscribed already
abbrev pub subscribe_refusals : State → Session → List ℕ → List (Option Reply)
subscribe_refusals σ s t =
    refusal_if (is_some s.overflow) reply.OverflowUntold
    ∷ refusal_if (not (is_some (find σ.tables t))) (reply.UnknownTable t)
    ∷ refusal_if (is_some (level_in s.watching t)) (reply.AlreadySubscribed t)
    ∷ []

-- the first of them that applies
abbrev pub subscribe_refusal : State → Session → List ℕ → Option Reply
subscribe_refusal σ s t = first_of (subscribe_refusals σ s t)

-- a subscription: its begin marker goes to the outbox, which may refuse it
abbrev pub subscribe : State → List ℕ → Session → List ℕ → Level → Bool → Outcome
subscribe σ over s t l dump =
    unless_refused σ (subscribe_refusal σ s t)
    (put_marker σ (has_session over s.number) s (record { table = t; level = l } ∷ s.watching)
    (Began t l (dump_of σ.tables t dump)) (Subscribed s.number t l dump))

-- what refuses a subscription's end, apart from a full outbox: there is none at the level
abbrev pub unsubscribe_refusal : List ℕ → Level → Session → Option Reply
unsubscribe_refusal t l s =
    refusal_if (not (is_at (level_in s.watching t) l)) (reply.NotSubscribed t)

-- a subscription's end: its end marker goes to the outbox, which may refuse it
abbrev pub unsubscribe : State → List ℕ → Session → List ℕ → Level → Outcome
unsubscribe σ over s t l =
    unless_refused σ (unsubscribe_refusal t l s)
    (put_marker σ (has_session over s.number) s (without_watch s.watching t)
    (Ended t ending.Unsubscribed) (Unsubscribed s.number t))

-- a joined session's command that isn't refused WaitingNow
abbrev pub do_command : State → List ℕ → Session → Command → Outcome
do_command σ over s (command.Schema c) = schema σ over c s.transaction
do_command σ over s (command.TableInfo t i) = step_without_entry σ (table_info t i (find σ.tables t))
do_command σ over s command.Begin = begin σ s s.transaction
do_command σ over s command.Commit = commit σ over s s.transaction
do_command σ over s (command.Abort r) = abort σ s r s.transaction
do_command σ over s (command.Do o) = operate σ s o s.transaction
do_command σ over s (command.Subscribe t l dump) = subscribe σ over s t l dump
do_command σ over s (command.Unsubscribe t l) = unsubscribe σ over s t l
do_command σ over s (command.OneShot parts retries) = one_shot σ s s.transaction

-- the command is an abort
abbrev pub is_abort : Command → Bool
is_abort (command.Abort r) = true
is_abort c = false

-- what refuses each command but an abort: an operation of the session waits
abbrev pub waiting_refusal : State → Session → Command → Option Reply
waiting_refusal σ s c = refusal_if (is_waiting σ s.number && not (is_abort c)) reply.WaitingNow

-- a Take: the next item, else an overflow, which is told once, else empty
abbrev pub give : State → Session → List Item → Option ℕ → Outcome
give σ s (x ∷ xs) overflow =
    step_without_entry (with_session σ (record s { outbox = record s.outbox { items = xs } })) (reply.Taken x)
give σ s [] (Some n) = step_without_entry (with_session σ (record s { overflow = None })) (reply.Overflow n)
give σ s [] None = step_without_entry σ reply.Empty

-- the items that a Take may give: of an outbox with no capacity none, since its items are received at the channel's other end
abbrev pub items_to_take : Outbox → Option ℕ → List Item
items_to_take b None = []
items_to_take b (Some c) = b.items

-- a session leaves: its transaction, locks, request, subscriptions and items are gone
abbrev pub leave : State → Session → Outcome
leave σ s = step_without_entry (record σ { sessions = without_session σ.sessions s.number; queue = without_request σ.queue s.number }) reply.Done

-- a step of a joined session; to join again is refused
abbrev pub step_of_joined : State → List ℕ → Session → Ask → Outcome
step_of_joined σ over s (Join b) = step_without_entry σ reply.BadSession
step_of_joined σ over s Leave = leave σ s
step_of_joined σ over s Retry = retry σ s (request_in σ.queue s.number)
step_of_joined σ over s Take = give σ s (items_to_take s.outbox s.outbox.capacity) s.overflow
step_of_joined σ over s (DoCommand c) =
    unless_refused σ (waiting_refusal σ s c) (do_command σ over s c)

-- a session that has just joined, with the outbox that it came with
abbrev pub fresh : ℕ → Outbox → Session
fresh n b = record { number = n; transaction = None; watching = []; outbox = b; overflow = None }

-- what refuses a Join: a number that isn't above all before, then the limit of sessions
abbrev pub join_refusals : State → ℕ → List (Option Reply)
join_refusals σ n =
    refusal_if (not (nat_lt σ.greatest n)) reply.BadSession
    ∷ refusal_if (not (nat_lt (length σ.sessions) σ.limits.sessions))
    (reply.SystemLimit limit.Sessions)
    ∷ []

-- a session joins, with its number and its outbox
abbrev pub join_now : State → ℕ → Outbox → Outcome
join_now σ n b =
    step_without_entry (record σ { sessions = σ.sessions ++ fresh n b ∷ []; greatest = n }) reply.Done

-- a step of a session that is not joined: all but a Join is refused
abbrev pub step_of_stranger : State → ℕ → Ask → Outcome
step_of_stranger σ n (Join b) =
    unless_refused σ (first_of (join_refusals σ n)) (join_now σ n b)
step_of_stranger σ n Leave = step_without_entry σ reply.BadSession
step_of_stranger σ n Retry = step_without_entry σ reply.BadSession
step_of_stranger σ n Take = step_without_entry σ reply.BadSession
step_of_stranger σ n (DoCommand c) = step_without_entry σ reply.BadSession

-- a step, with its session's state where that is joined
abbrev pub step_of : State → List ℕ → ℕ → Ask → Option Session → Outcome
step_of σ over n a None = step_of_stranger σ n a
step_of σ over n a (Some s) = step_of_joined σ over s a

-- one step. over: the sessions whose outboxes refuse an item in it; Run.Allowed says which lists are possible
unfoldable pub outcome : State → List ℕ → ℕ → Ask → Outcome
outcome σ over n a = step_of σ over n a (session_at σ.sessions n)
