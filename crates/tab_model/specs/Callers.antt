-- The log as the callers can tell it: read off the calls (who asked what, and whose outboxes refused) and their replies, and
-- never off the state (this project's own: the history that a run shows from outside).
use Rattle.std.specs.Prelude.{◌≡◌, ℕ, ◌<◌, ◌+◌, ◌-◌, ◌^◌, min, not, List, [], ◌∷◌, ◌++◌, ◌==◌, if◌then◌else◌, Option, Some, None}
use Rattle.std.specs.List.{filter}
use Rattle.tab_model.specs.declared.data.Operation.{Operation}
use Rattle.tab_model.specs.declared.data.Move.{Move}
use Rattle.tab_model.specs.declared.data.Move.TheVariants.{Do, Open, Close, Undo}
use Rattle.tab_model.specs.declared.data.Limits.{Limits}
use Rattle.tab_model.specs.declared.data.Reply.{Reply}
use Rattle.tab_model.specs.declared.data.Reply.TheVariants as reply
use Rattle.tab_model.specs.declared.data.Schema.{Schema}
use Rattle.tab_model.specs.declared.data.Command.{Command}
use Rattle.tab_model.specs.declared.data.Command.TheVariants as command
use Rattle.tab_model.specs.declared.data.Entry.{Entry}
use Rattle.tab_model.specs.declared.data.Entry.TheVariants.{Committed, Changed, Subscribed, Unsubscribed}
use Rattle.tab_model.specs.Log.{has_session, commits_from}
use Rattle.tab_model.specs.State.{Transaction, Outbox, Queued, Session, State, new, session_at, transaction_at, request_in}
use Rattle.tab_model.specs.declared.ask.Ask.TheVariants.{Join, Leave, Retry, Take, Do as DoCommand}
use Rattle.tab_model.specs.Outcome.{Ask}
use Rattle.tab_model.specs.Run.{Call, entries, replies_of}

-- what a session's caller knows: the moves of its last transaction since its begin or its last restart, with their replies, and
-- the operation that was last answered waiting
pub record Caller : Type 0 where
  pub transaction : Transaction
  pub queued : Option Operation

-- before its first transaction; ages are from 1 on
abbrev pub newcomer : Caller
newcomer = record { transaction = record { age = 0; moves = []; told = [] }; queued = None }

-- a move more, with what it was told
abbrev pub caller_with_move : Caller → Move → Option Reply → Caller
caller_with_move k x r = record { transaction = record { age = k.transaction.age; moves = k.transaction.moves ++ x ∷ []; told = k.transaction.told ++ r ∷ [] }; queued = k.queued }

-- a transaction of this age with no moves yet
abbrev pub caller_anew : Caller → ℕ → Caller
caller_anew k age = record { transaction = record { age = age; moves = []; told = [] }; queued = k.queued }

-- what an answer says of the operation that was asked for: it was not made, it waits, its transaction restarts, it was made
pub data AnswerKind : Type 0 where
  NotMade Waits BeginsAnew Made : AnswerKind

-- the kind of a reply to an operation or a retry; every other reply, that of a failure too, says that it was made
abbrev pub kind_of : Reply → AnswerKind
kind_of reply.BadCommand = NotMade
kind_of reply.NoTransaction = NotMade
kind_of reply.WaitingNow = NotMade
kind_of reply.InTransaction = NotMade
kind_of reply.NotWaiting = NotMade
kind_of reply.NoMemory = NotMade
kind_of (reply.SystemLimit l) = NotMade
kind_of reply.BadSession = NotMade
kind_of reply.Waiting = Waits
kind_of reply.Restart = BeginsAnew
kind_of r = Made

-- what a caller knows after an operation: the same, that it waits, that its transaction is empty, or a move more
abbrev pub after_operation : Caller → Operation → Reply → AnswerKind → Caller
after_operation k o r NotMade = k
after_operation k o r Waits = record { transaction = k.transaction; queued = Some o }
after_operation k o r BeginsAnew = caller_anew k k.transaction.age
after_operation k o r Made = caller_with_move k (Do o) (Some r)

-- after a retry: a move more, of the queued operation, where it was made
abbrev pub after_answer : Caller → Reply → AnswerKind → Option Operation → Caller
after_answer k r Made (Some o) = caller_with_move k (Do o) (Some r)
after_answer k r x o = k

-- a child's begin is told its transaction's age, an outermost one a new age
abbrev pub after_begin : Caller → Reply → Caller
after_begin k (reply.Tid age) = if k.transaction.age == age then caller_with_move k Open (Some (reply.Tid age)) else caller_anew k age
after_begin k r = k

-- what a caller knows after a commit: a move more where a child's was done, else the same
abbrev pub after_close : Caller → Reply → Caller
after_close k reply.AtomicOk = caller_with_move k Close (Some reply.AtomicOk)
after_close k r = k

-- an abort is a move with no reply, and without its reason
abbrev pub after_undo : Caller → Reply → Caller
after_undo k (reply.UserAbort reason) = caller_with_move k Undo None
after_undo k r = k

-- what a caller knows after a command of its own; schema commands, table_info and subscriptions change nothing
abbrev pub caller_after_command : Caller → Command → Reply → Caller
caller_after_command k command.Begin r = after_begin k r
caller_after_command k command.Commit r = after_close k r
caller_after_command k (command.Abort reason) r = after_undo k r
caller_after_command k (command.Do o) r = after_operation k o r (kind_of r)
caller_after_command k (command.OneShot parts retries) r = after_begin k r
caller_after_command k c r = k

-- what a caller knows after one step of its own
abbrev pub caller_after_step : Caller → Ask → Reply → Caller
caller_after_step k Retry r = after_answer k r (kind_of r) k.queued
caller_after_step k (DoCommand c) r = caller_after_command k c r
caller_after_step k a r = k

-- the entry of an outermost commit, where its reply says that it is done
abbrev pub commit_entry : ℕ → List ℕ → Caller → Reply → Option Entry
commit_entry n over k (reply.Atomic i) = Some (Committed i n k.transaction.age k.transaction.moves k.transaction.told over)
commit_entry n over k r = None

-- the entry of a schema command, where its reply says that it is done
abbrev pub schema_entry : List ℕ → Schema → Reply → Option Entry
schema_entry over c reply.AtomicOk = Some (Changed c over)
schema_entry over c r = None

-- the entry of a subscription or of its end, where its reply says that it is done
abbrev pub subscription_entry : Entry → Reply → Option Entry
subscription_entry e reply.SubscribedHere = Some e
subscription_entry e r = None

-- the entry that a command of session n adds: only schema commands, commits, subscriptions and their ends add one
abbrev pub entry_of_command : ℕ → List ℕ → Caller → Command → Reply → Option Entry
entry_of_command n over k (command.Schema c) r = schema_entry over c r
entry_of_command n over k command.Commit r = commit_entry n over k r
entry_of_command n over k (command.Subscribe t l dump) r = subscription_entry (Subscribed n t l dump) r
entry_of_command n over k (command.Unsubscribe t l) r = subscription_entry (Unsubscribed n t) r
entry_of_command n over k c r = None

-- the entry that a step of a caller adds
abbrev pub entry_of_step : ℕ → List ℕ → Caller → Ask → Reply → Option Entry
entry_of_step n over k (DoCommand c) r = entry_of_command n over k c r
entry_of_step n over k a r = None

-- a session's requests go, the others' stay in their order
abbrev pub without_own : ℕ → List Queued → List Queued
without_own n qs = filter (λ q. not (q.session == n)) qs

-- an operation joins the queue where it is told to wait
abbrev pub queue_after_operation : ℕ → Caller → Operation → AnswerKind → List Queued → List Queued
queue_after_operation n k o Waits qs = qs ++ record { session = n; age = k.transaction.age; operation = o } ∷ []
queue_after_operation n k o x qs = qs

-- the queue after a retry: without its session's requests where its reply says that the operation was made
abbrev pub queue_after_answer : ℕ → AnswerKind → List Queued → List Queued
queue_after_answer n Made qs = without_own n qs
queue_after_answer n x qs = qs

-- the queue after an abort: without its session's requests where its reply says that it is done
abbrev pub queue_after_abort : ℕ → Reply → List Queued → List Queued
queue_after_abort n (reply.UserAbort reason) qs = without_own n qs
queue_after_abort n r qs = qs

-- the queue after a session leaves: without its requests where its reply says that it has left
abbrev pub queue_after_leave : ℕ → Reply → List Queued → List Queued
queue_after_leave n reply.Done qs = without_own n qs
queue_after_leave n r qs = qs

-- the queue after a command of session n: only an operation and an abort may change it
abbrev pub queue_after_command : ℕ → Caller → Command → Reply → List Queued → List Queued
queue_after_command n k (command.Abort reason) r qs = queue_after_abort n r qs
queue_after_command n k (command.Do o) r qs = queue_after_operation n k o (kind_of r) qs
queue_after_command n k c r qs = qs

-- the queue after one step of a caller
abbrev pub queue_after_step : ℕ → Caller → Ask → Reply → List Queued → List Queued
queue_after_step n k Leave r qs = queue_after_leave n r qs
queue_after_step n k Retry r qs = queue_after_answer n (kind_of r) qs
queue_after_step n k (DoCommand c) r qs = queue_after_command n k c r qs
queue_after_step n k a r qs = qs

-- the next age after a begin: one more where it was an outermost one
abbrev pub age_after_begin : Caller → Reply → ℕ → ℕ
age_after_begin k (reply.Tid age) a = if k.transaction.age == age then a else a + 1
age_after_begin k r a = a

-- the next age after a command: only a begin and a one-shot may change it
abbrev pub age_after_command : Caller → Command → Reply → ℕ → ℕ
age_after_command k command.Begin r a = age_after_begin k r a
age_after_command k (command.OneShot parts retries) r a = age_after_begin k r a
age_after_command k c r a = a

-- the next age after one step of a caller: only commands may change it
abbrev pub age_after_step : Caller → Ask → Reply → ℕ → ℕ
age_after_step k (DoCommand c) r a = age_after_command k c r a
age_after_step k x r a = a

-- what callers can tell of a session's post: how often it refused, and an overflow that its session was not told yet
pub record Post : Type 0 where
  pub refusals : ℕ
  pub overflow : Option ℕ

-- before its session joins
abbrev pub no_post : Post
no_post = record { refusals = 0; overflow = None }

-- one refusal more, up to the greatest 64 bit number
abbrev pub next_refusals : ℕ → ℕ
next_refusals refusals = min (refusals + 1) (2 ^ 64 - 1)

-- a post that refuses an entry's item overflows; an earlier overflow that was not told is replaced
abbrev pub with_overflow : ℕ → Post → Post
with_overflow i p = record { refusals = next_refusals p.refusals; overflow = Some i }

-- after an entry, with so many commits before it: an overflow at a commit has its number, and one at a table's deletion that
-- of the next commit
abbrev pub post_after_entry : ℕ → ℕ → Option Entry → Post → Post
post_after_entry n commits (Some (Committed i m age xs rs over)) p = if has_session over n then with_overflow i p else p
post_after_entry n commits (Some (Changed c over)) p = if has_session over n then with_overflow (commits + 1) p else p
post_after_entry n commits e p = p

-- a join that is done brings its post, with the refusals that it has counted
abbrev pub post_after_join : Outbox → Reply → Post → Post
post_after_join b reply.Done p = record { refusals = b.refusals; overflow = None }
post_after_join b r p = p

-- a Take that is answered by the overflow tells it
abbrev pub post_after_take : Reply → Post → Post
post_after_take (reply.Overflow i) p = record { refusals = p.refusals; overflow = None }
post_after_take r p = p

-- a marker that the post refuses is no overflow
abbrev pub post_after_marker : Reply → Post → Post
post_after_marker reply.OutboxFull p = record { refusals = next_refusals p.refusals; overflow = p.overflow }
post_after_marker r p = p

-- a post after a command of its own session: only a refused marker of a subscription's begin or end changes it
abbrev pub post_after_command : Command → Reply → Post → Post
post_after_command (command.Subscribe t l dump) r p = post_after_marker r p
post_after_command (command.Unsubscribe t l) r p = post_after_marker r p
post_after_command c r p = p

-- a post after an answer to its own session
abbrev pub post_after_answer : Ask → Reply → Post → Post
post_after_answer (Join b) r p = post_after_join b r p
post_after_answer Take r p = post_after_take r p
post_after_answer (DoCommand c) r p = post_after_command c r p
post_after_answer a r p = p

-- session n's post after one step of session m, and the step's entry
abbrev pub post_after_step : ℕ → ℕ → ℕ → Ask → Reply → Option Entry → Post → Post
post_after_step n commits m a r e p = post_after_entry n commits e (if n == m then post_after_answer a r p else p)

-- who knows what, by session
abbrev pub Callers : Type 0
Callers = ℕ → Caller

-- what callers can tell together: what each knows, the log, the queue, the next age, the posts
pub record Observation : Type 0 where
  pub callers : Callers
  pub log : List Entry
  pub queue : List Queued
  pub next_age : ℕ
  pub posts : ℕ → Post

-- before all calls
abbrev pub no_observation : Observation
no_observation = record {
  callers = λ m. newcomer;
  log = [];
  queue = [];
  next_age = 1;
  posts = λ m. no_post;
}

-- the entry that a call adds, read off its reply and what its caller knows
abbrev pub entry_of_call : Observation → Call → Reply → Option Entry
entry_of_call h c r = entry_of_step c.session c.over (h.callers c.session) c.ask r

-- after one call and its reply, of which the asker's caller alone learns
abbrev pub observe : Observation → Call → Reply → Observation
observe h c r =
    let caller = h.callers c.session in
    let entry = entry_of_call h c r in
    record {
      callers = λ m. if m == c.session then caller_after_step caller c.ask r else h.callers m;
      log = h.log ++ entries entry;
      queue = queue_after_step c.session caller c.ask r h.queue;
      next_age = age_after_step caller c.ask r h.next_age;
      posts = λ m.
          post_after_step m (commits_from 0 h.log) c.session c.ask r entry (h.posts m);
    }

-- after calls that were answered so
abbrev pub observe_all : Observation → List Call → List Reply → Observation
observe_all h [] rs = h
observe_all h (c ∷ cs) [] = h
observe_all h (c ∷ cs) (r ∷ rs) = observe_all (observe h c r) cs rs

-- what the callers of a schedule can tell of it
abbrev pub observation_of : Limits → List Call → Observation
observation_of limits calls = observe_all no_observation calls (replies_of (new limits) calls)

-- each open transaction is what its caller knows, each queued operation the one that its caller was last told to wait for
pub record AreObserved (σ : State) (ks : Callers) : Type 0 where
  pub known : (n : ℕ) (t : Transaction) → transaction_at σ n ≡ Some t → (ks n).transaction ≡ t
  pub waits : (n : ℕ) (q : Queued) → request_in σ.queue n ≡ Some q → (ks n).queued ≡ Some q.operation
  pub aged : (n : ℕ) → (ks n).transaction.age < σ.next_age

-- a state is as callers tell it
pub record IsAsObserved (σ : State) (h : Observation) : Type 0 where
  pub callers : AreObserved σ h.callers
  pub commits : σ.commits ≡ commits_from 0 h.log
  pub queue : σ.queue ≡ h.queue
  pub next_age : σ.next_age ≡ h.next_age
  pub overflow : (n : ℕ) (s : Session) → session_at σ.sessions n ≡ Some s
      → s.overflow ≡ (h.posts n).overflow
  pub refusals : (n : ℕ) (s : Session) → session_at σ.sessions n ≡ Some s
      → s.outbox.refusals ≡ (h.posts n).refusals

-- a reply that says nothing was done: nothing that callers can tell changes, whoever asked what
abbrev pub IsUnobserved : Reply → Type 0
IsUnobserved r = (h : Observation) (c : Call) → observe h c r ≡ h
