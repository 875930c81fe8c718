-- What stands after a refusal, a wait, a restart, and the end of a level.
use Rattle.std.specs.Prelude.{◌≡◌, ◌≢◌, ℕ, List, [], ◌∷◌, ◌++◌, true, false, not, ◌==◌, Option, Some, None}
use Rattle.std.specs.List.{filter}
use Rattle.tab_model.specs.declared.data.Operation.{Operation}
use Rattle.tab_model.specs.declared.data.Reply.{Reply}
use Rattle.tab_model.specs.declared.data.Reply.TheVariants as reply
use Rattle.tab_model.specs.declared.data.Command.TheVariants as command
use Rattle.tab_model.specs.declared.data.Move.{Move}
use Rattle.tab_model.specs.Alone.{start, after, back}
use Rattle.tab_model.specs.Locks.{locks_of}
use Rattle.tab_model.specs.State.{Transaction, Session, Queued, State, session_at, transaction_in, transaction_at, mid_of}
use Rattle.tab_model.specs.declared.ask.Ask.TheVariants.{Do as DoCommand}
use Rattle.tab_model.specs.Outcome.{Ask, outcome, with_transaction, with_session, with_queue, with_refusal, begun_anew, with_move, is_empty}

-- what a reply says of the state after it (this project's own rule, but for a restart: Mnesia User's Guide,
-- "Locking"): as before; as before but for the post's count of refusals; one request more in the queue; the
-- transaction empty again; or anything else
pub data EffectOfReply : Type 0 where
  AsBefore Counted Queues Emptied Changes : EffectOfReply

-- what each reply says of the state after it; after one that is not listed the state may have changed
abbrev pub effect_of_reply : Reply → EffectOfReply
effect_of_reply reply.BadSession = AsBefore
effect_of_reply reply.NoTransaction = AsBefore
effect_of_reply reply.WaitingNow = AsBefore
effect_of_reply reply.InTransaction = AsBefore
effect_of_reply reply.NotWaiting = AsBefore
effect_of_reply (reply.SystemLimit l) = AsBefore
effect_of_reply (reply.AlreadyExists t) = AsBefore
effect_of_reply (reply.Locked t) = AsBefore
effect_of_reply (reply.BadDefinition t what) = AsBefore
effect_of_reply (reply.UnknownTable t) = AsBefore
effect_of_reply (reply.AlreadySubscribed t) = AsBefore
effect_of_reply (reply.NotSubscribed t) = AsBefore
effect_of_reply reply.OverflowUntold = AsBefore
effect_of_reply reply.OutboxFull = Counted
effect_of_reply reply.Waiting = Queues
effect_of_reply reply.Restart = Emptied
effect_of_reply r = Changes

-- whatever is asked, a reply leaves the state as it was
abbrev pub LeavesAll : Reply → Type 0
LeavesAll r = (σ : State) (over : List ℕ) (n : ℕ) (a : Ask) → (outcome σ over n a).reply ≡ r → (outcome σ over n a).state ≡ σ

-- the asker's post counts one refusal more
abbrev pub with_count : State → Option Session → State
with_count σ None = σ
with_count σ (Some s) = with_session σ (record s { outbox = with_refusal s.outbox })

-- the operation that is asked for, with its session and age
abbrev pub queued_for : ℕ → Option Transaction → Operation → List Queued
queued_for n None o = []
queued_for n (Some t) o = record { session = n; age = t.age; operation = o } ∷ []

-- what joins the queue where this is answered Waiting: an operation, with its session and age; of all else nothing
abbrev pub request_of_ask : Option Session → Ask → List Queued
request_of_ask (Some s) (DoCommand (command.Do o)) = queued_for s.number s.transaction o
request_of_ask s a = []

-- the state with these requests at the end of the queue, and all else as it was
abbrev pub with_requests : State → List Queued → State
with_requests σ q = with_queue σ (σ.queue ++ q)

-- level 1 is open, empty, and of the same age
abbrev pub transaction_anew : Option Transaction → Option Transaction
transaction_anew None = None
transaction_anew (Some t) = Some (begun_anew t)

-- the state with the asker's transaction empty again, and all else as it was
abbrev pub with_restart : State → Option Session → State
with_restart σ None = σ
with_restart σ (Some s) = with_session σ (with_transaction s (transaction_anew s.transaction))

-- after a restart
pub record IsRestart (σ : State) (s : Option Session) (τ : State) : Type 0 where
  pub transaction : Transaction
  pub open_before : transaction_in s ≡ Some transaction
  pub is : τ ≡ with_restart σ s

-- a move x, told r, has ended the innermost level of a transaction (Mnesia User's Guide, "Nested Transactions"; that a
-- failing operation ends one level is this project's own rule): level 1's end is the transaction's; the end of another
-- leaves it open, with its locks and at most the move's own, and on the tables that the level began with
pub record EndsLevel (σ : State) (n : ℕ) (t : Transaction) (x : Move) (r : Option Reply) (τ : State) : Type 0 where
  pub tables : τ.tables ≡ σ.tables
  pub first : is_empty (mid_of σ t).saved ≡ true → transaction_at τ n ≡ None
  pub nested : is_empty (mid_of σ t).saved ≡ false → transaction_at τ n ≡ Some (with_move t x r)
  pub back : after (start σ.tables t.age) (t.moves ++ x ∷ []) ≡ back (mid_of σ t)
  pub locks : locks_of (t.moves ++ x ∷ []) ≡ locks_of t.moves ++ locks_of (x ∷ [])
  -- all else stays: the rest of its session, the others', the queue but for its own request, the numbers
  pub slot : (s : Session) → session_at σ.sessions n ≡ Some s → session_at τ.sessions n ≡ Some (record s { transaction = transaction_at τ n })
  pub others : (m : ℕ) → m ≢ n → session_at τ.sessions m ≡ session_at σ.sessions m
  pub queue : τ.queue ≡ filter (λ q. not (q.session == n)) σ.queue
  pub next_age : τ.next_age ≡ σ.next_age
  pub commits : τ.commits ≡ σ.commits
  pub greatest : τ.greatest ≡ σ.greatest
  pub limits : τ.limits ≡ σ.limits

-- no other session is joined
abbrev pub IsOnlySession : ℕ → List Session → Type 0
IsOnlySession n [] = Unit {0}
IsOnlySession n (s ∷ []) = s.number ≡ n
IsOnlySession n (s ∷ t ∷ sessions) = ⊥

-- no other session is joined, and the queue is empty
abbrev pub IsSole : ℕ → State → Type 0
IsSole n σ = IsOnlySession n σ.sessions × (σ.queue ≡ [])
