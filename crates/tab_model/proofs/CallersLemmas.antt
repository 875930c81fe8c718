-- What callers know is what the core has: their open transactions and queued operations, and the log.
use Rattle.std.proofs.Common.{◌≡◌, ℕ, ◌+◌, ◌<◌, ◌≤◌, List, [], ◌∷◌, ◌++◌, Bool, true, false, ◌&&◌, ◌||◌, not, refl, sym, ap, ◌∙◌, subst, arith, append_assoc, append-nil, Option, Some, None}
use Rattle.std.proofs.Math.Bool.{and-true}
use Rattle.std.specs.Prelude.{◌==◌, if◌then◌else◌, is_some, map}
use Rattle.std.proofs.lemmas.Bool.Decides.{nat_tests}
use Rattle.tab_term.specs.View.{term}
use Rattle.tab_term.specs.declared.term.Term.{Term}
use Rattle.tab_model.specs.declared.data.Operation.{Operation}
use Rattle.tab_model.specs.declared.data.Move.{Move}
use Rattle.tab_model.specs.declared.data.Move.TheVariants.{Do, Open, Close, Undo}
use Rattle.tab_model.specs.declared.data.Reply.{Reply}
use Rattle.tab_model.specs.declared.data.Reply.TheVariants as reply
use Rattle.tab_model.specs.declared.data.Limit.TheVariants as limit
use Rattle.tab_model.specs.declared.data.Limits.{Limits}
use Rattle.tab_model.specs.declared.data.Item.{Item}
use Rattle.tab_model.specs.declared.data.Level.{Level}
use Rattle.tab_model.specs.declared.data.Entry.{Entry}
use Rattle.tab_model.specs.declared.data.Entry.TheVariants.{Subscribed, Unsubscribed}
use Rattle.tab_model.specs.declared.data.Schema.{Schema}
use Rattle.tab_model.specs.declared.data.Schema.TheVariants.{Create, Remove, AddIndex, DelIndex}
use Rattle.tab_model.specs.declared.data.Command.{Command}
use Rattle.tab_model.specs.declared.data.Command.TheVariants as command
use Rattle.tab_model.specs.declared.data.Part.{Part}
use Rattle.tab_model.specs.Definitions.{Parsed, Good, Bad, parse_options, is_indexed, position}
use Rattle.tab_model.specs.Catalogs.{Catalog, Table, find}
use Rattle.tab_model.specs.Operations.{table_of, failure_in, failure, answer_or}
use Rattle.tab_model.specs.Alone.{Mid, start, after, replies, back_to, back, next, reply_to}
use Rattle.tab_model.specs.Ages.{Answer, Granted, Wait, Die}
use Rattle.tab_model.specs.Schemas.{is_some_position, bad_parse, create_refusal, remove_refusal, add_refusal, del_refusal, schema_refusal, removed_table}
use Rattle.tab_model.specs.State.{Transaction, Outbox, Watch, Session, Queued, State, new, session_at, transaction_in, moves_in, replies_in, age_in, transaction_at, request_in, without_request, is_waiting, level_in, mid_of}
use Rattle.tab_model.specs.declared.ask.Ask.TheVariants.{Join, Leave, Retry, Take, Do as DoCommand}
use Rattle.tab_model.specs.Outcome.{Ask, Outcome, outcome, step_without_entry, with_transaction, with_queue, with_changed, with_move, ends_transaction, make, begun_anew, by_lock_answer, operate, retry_in, retry, begin, one_shot, abort, after_put, batch_to, end_to, without_deleted, commit, events_now, schema, put_marker, subscribe_refusal, do_command, is_abort, give, leave, step_of_joined, fresh, step_of_stranger, step_of}
use Rattle.tab_model.proofs.StepCases.{after_move, within_limit, try_again, open_level_1, open_child, commit_at, schema_if, subscribe_refusal_if, subscribe_if, unsubscribe_if, command_if, join_if}
use Rattle.tab_model.specs.Run.{Call, outcome_of, after_all, entries, log_of, replies_of, AllJoinEmpty}
use Rattle.tab_model.specs.Log.{IsLegal}
use Rattle.tab_model.specs.Callers.{Caller, Callers, caller_with_move, caller_anew, AnswerKind, Made, kind_of, after_operation, after_answer, after_begin, caller_after_command, caller_after_step, commit_entry, schema_entry, subscription_entry, entry_of_command, entry_of_step, queue_after_operation, queue_after_answer, queue_after_command, queue_after_step, age_after_begin, age_after_command, age_after_step, AreObserved, Observation, no_observation, entry_of_call, observe, observe_all, observation_of}
use Rattle.tab_model.proofs.SessionLists.{eq_true, itself, found, session_at-change, session_at-push, session_at-without, session_at-map, mapped}
use Rattle.tab_model.proofs.OperationAnswers.{answers}
use Rattle.tab_model.proofs.Schedules.{schedule_legal, schedule_told}
use Rattle.tab_model.proofs.SoundSteps.{given_same, unwatched_same}

-- a step of one session: all others' transactions and requests stay, and its own are what its caller then knows
pub record Keeps (σ : State) (n : ℕ) (k : Caller) (τ : State) : Type 0 where
  then_open : Option Transaction
  then_queued : Option Queued
  transactions : (m : ℕ) → transaction_at τ m ≡ (if m == n then then_open else transaction_at σ m)
  requests : (m : ℕ) → request_in τ.queue m ≡ (if m == n then then_queued else request_in σ.queue m)
  own : (t : Transaction) → then_open ≡ Some t → k.transaction ≡ t
  asked : (q : Queued) → then_queued ≡ Some q → k.queued ≡ Some q.operation
  aged : k.transaction.age < τ.next_age
  later : σ.next_age ≤ τ.next_age

keeps_observed : (σ τ : State) (n : ℕ) (k : Caller) (ks : Callers) → AreObserved σ ks → Keeps σ n k τ → AreObserved τ (λ m. if m == n then k else ks m)
keeps_observed σ τ n k ks observed keeps = record {
  known = λ m t e. known_if m t (m == n) (sym (keeps.transactions m) ∙ e);
  waits = λ m q e. waits_if m q (m == n) (sym (keeps.requests m) ∙ e);
  aged = λ m. aged_if m (m == n);
}
  where
    known_if : (m : ℕ) (t : Transaction) (b : Bool) → (if b then keeps.then_open else transaction_at σ m) ≡ Some t → Caller.transaction (if b then k else ks m) ≡ t
    known_if m t true e = keeps.own t e
    known_if m t false e = observed.known m t e

    waits_if : (m : ℕ) (q : Queued) (b : Bool) → (if b then keeps.then_queued else request_in σ.queue m) ≡ Some q → Caller.queued (if b then k else ks m) ≡ Some q.operation
    waits_if m q true e = keeps.asked q e
    waits_if m q false e = observed.waits m q e

    aged_if : (m : ℕ) (b : Bool) → Transaction.age (Caller.transaction (if b then k else ks m)) < τ.next_age
    aged_if m true = keeps.aged
    aged_if m false = let a = observed.aged m in let b = keeps.later in omega (arith, a, b)

-- ---- look-ups

pub same_if : {A : Type 0} (f : ℕ → A) (m n : ℕ) → f m ≡ (if m == n then f n else f m)
same_if f m n = cases (m == n) refl
  where
    cases : (b : Bool) → (m == n) ≡ b → f m ≡ (if b then f n else f m)
    cases true e = ap f (eq_true m n e)
    cases false e = refl

pub transaction_if : (b : Bool) (x y : Option Session) → transaction_in (if b then x else y) ≡ (if b then transaction_in x else transaction_in y)
transaction_if true x y = refl
transaction_if false x y = refl

request_in-without : (qs : List Queued) (n m : ℕ) → request_in (without_request qs n) m ≡ (if m == n then None else request_in qs m)
request_in-without [] n m = grind (arith, nat_tests)
request_in-without (q ∷ qs) n m = grind (arith, nat_tests, request_in-without qs n m)

request_in-push : (qs : List Queued) (q : Queued) (m : ℕ) → request_in qs q.session ≡ None → request_in (qs ++ q ∷ []) m ≡ (if m == q.session then Some q else request_in qs m)
request_in-push [] q m e = grind (arith, nat_tests)
request_in-push (p ∷ qs) q m e = grind (arith, nat_tests, request_in-push qs q m)

-- a session that keeps its number
pub changed_transactions : (sessions : List Session) (s x : Session) (n : ℕ) → session_at sessions n ≡ Some s → x.number ≡ s.number → (m : ℕ) → transaction_in (session_at (with_changed sessions x) m) ≡ (if m == n then x.transaction else transaction_in (session_at sessions m))
changed_transactions sessions s x n here num m =
    let same : x.number ≡ n = num ∙ found sessions s n here in
    ap transaction_in (session_at-change sessions x s m (ap (session_at sessions) same ∙ here))
    ∙ ap (λ (k : ℕ). transaction_in (if m == k then Some x else session_at sessions m)) same
    ∙ transaction_if (m == n) (Some x) (session_at sessions m)

pub mapped_transaction : (f : Session → Session) → ((s : Session) → ((f s).number ≡ s.number) × ((f s).transaction ≡ s.transaction)) → (sessions : List Session) (m : ℕ) → transaction_in (session_at (map f sessions) m) ≡ transaction_in (session_at sessions m)
unfolding mapped
mapped_transaction f h sessions m = ap transaction_in (session_at-map f (λ s. (h s).0) sessions m) ∙ cases (session_at sessions m)
  where
    cases : (o : Option Session) → transaction_in (mapped f o) ≡ transaction_in o
    cases None = refl
    cases (Some s) = (h s).1

-- ---- replies

-- a transaction's age is its moves'
back-age : (m : Mid) (ws : List Catalog) → (back_to m ws).age ≡ m.age
back-age m [] = refl
back-age m (w ∷ ws) = refl

next-age : (m : Mid) (x : Move) → (next m x).age ≡ m.age
next-age m (Do o) = cases (is_some (failure m.now o)) _ refl
  where
    cases : (b : Bool) (n : Mid) → n.age ≡ m.age → Mid.age (if b then back m else n) ≡ m.age
    cases true n e = back-age m m.saved
    cases false n e = e
next-age m Open = refl
next-age m Close = refl
next-age m Undo = back-age m m.saved

after-age : (m : Mid) (xs : List Move) → (after m xs).age ≡ m.age
after-age m [] = refl
after-age m (x ∷ xs) = after-age (next m x) xs ∙ next-age m x

-- an operation's answer says that it was made
is_made : (x : Option Table) (o : Operation) → kind_of (answer_or (failure_in x o) x o) ≡ Made
is_made = answers (λ f r. kind_of r ≡ Made) (record { no_table = λ t. refl; bad_type = λ t r. refl; no_index = λ t a. refl; found = λ rs. refl; done = refl })

-- ---- one session's step

-- a step is observed: what the caller then knows is what the core then has, and so is the entry
pub record IsObserved (σ : State) (n : ℕ) (k : Caller) (over : List ℕ) (a : Ask) (o : Outcome) : Type 0 where
  pub keeps : Keeps σ n (caller_after_step k a o.reply) o.state
  pub entry : entry_of_step n over k a o.reply ≡ o.entry
  pub queue : queue_after_step n k a o.reply σ.queue ≡ o.state.queue
  pub next : age_after_step k a o.reply σ.next_age ≡ o.state.next_age

abbrev WaitsFor : State → ℕ → Caller → Option Queued → Type 0
WaitsFor σ n k p = (q : Queued) → p ≡ Some q → k.queued ≡ Some q.operation

abbrev Knows : Caller → Option Transaction → Type 0
Knows k o = (t : Transaction) → o ≡ Some t → k.transaction ≡ t

-- nothing changes
kept : (σ : State) (n : ℕ) (k : Caller) → WaitsFor σ n k (request_in σ.queue n) → k.transaction.age < σ.next_age → Knows k (transaction_at σ n) → Keeps σ n k σ
kept σ n k waits aged mine = record {
  then_open = transaction_at σ n;
  then_queued = request_in σ.queue n;
  transactions = λ m. same_if (transaction_at σ) m n;
  requests = λ m. same_if (request_in σ.queue) m n;
  own = mine;
  asked = waits;
  aged = aged;
  later = omega arith;
}

none_of : (o : Option Queued) → is_some o ≡ false → o ≡ None
none_of None e = refl
none_of (Some q) e = cc

below_differs : (a b : ℕ) → a < b → (a == b) ≡ false
below_differs a b h = grind (arith, nat_tests)

-- a refusal of a schema command, or of a subscription, is no entry
abbrev NoEntry : (Reply → Option Entry) → Option Reply → Type 0
NoEntry f None = Unit {0}
NoEntry f (Some r) = f r ≡ None

parsed_none : (over : List ℕ) (c : Schema) (t : List ℕ) (p : Parsed) → NoEntry (schema_entry over c) (bad_parse t p)
parsed_none over c t (Good d) = tt
parsed_none over c t (Bad x) = refl

if_none : (f : Reply → Option Entry) (b : Bool) (r : Reply) → f r ≡ None → NoEntry f (if b then Some r else None)
if_none f true r h = h
if_none f false r h = tt

none_if : (f : Reply → Option Entry) (b : Bool) (r : Reply) → f r ≡ None → NoEntry f (if b then None else Some r)
none_if f true r h = tt
none_if f false r h = h

schema_none : (over : List ℕ) (w : Catalog) (c : Schema) → NoEntry (schema_entry over c) (schema_refusal w c)
schema_none over w (Create t os) = cases (find w t)
  where
    cases : (x : Option Table) → NoEntry (schema_entry over (Create t os)) (create_refusal t os x)
    cases (Some x) = refl
    cases None = parsed_none over (Create t os) t (parse_options t os)
schema_none over w (Remove t) = cases (find w t)
  where
    cases : (x : Option Table) → NoEntry (schema_entry over (Remove t)) (remove_refusal t x)
    cases (Some x) = tt
    cases None = refl
schema_none over w (AddIndex t a) = cases (find w t)
  where
    cases : (x : Option Table) → NoEntry (schema_entry over (AddIndex t a)) (add_refusal t a x)
    cases None = refl
    cases (Some x) = if_none (schema_entry over (AddIndex t a)) (not (is_some_position (position x.def (term a))) || is_indexed x.def (position x.def (term a))) _ refl
schema_none over w (DelIndex t a) = cases (find w t)
  where
    cases : (x : Option Table) → NoEntry (schema_entry over (DelIndex t a)) (del_refusal t a x)
    cases None = refl
    cases (Some x) = none_if (schema_entry over (DelIndex t a)) (is_indexed x.def (position x.def (term a))) _ refl

subscribe_none : (e : Entry) (σ : State) (s : Session) (t : List ℕ) → NoEntry (subscription_entry e) (subscribe_refusal σ s t)
subscribe_none e σ s t = cases (is_some s.overflow) (is_some (find σ.tables t)) (is_some (level_in s.watching t))
  where
    cases : (a b c : Bool) → NoEntry (subscription_entry e) (subscribe_refusal_if t a (not b) c)
    cases true b c = refl
    cases false false c = refl
    cases false true true = refl
    cases false true false = tt

-- a joined session
module _ (σ : State) (s : Session) (k : Caller) (here : session_at σ.sessions s.number ≡ Some s) (waits : WaitsFor σ s.number k (request_in σ.queue s.number)) (aged : k.transaction.age < σ.next_age) (mine : Knows k s.transaction) where
  mine_at : Knows k (transaction_at σ s.number)
  mine_at t e = mine t (sym (ap transaction_in here) ∙ e)

  stay : Keeps σ s.number k σ
  stay = kept σ s.number k waits aged mine_at

  abbrev IsObservedAs : List ℕ → Ask → Outcome → Type 0
  IsObservedAs over a o = IsObserved σ s.number k over a o

  -- nothing is done
  nothing_observed : (over : List ℕ) (a : Ask) (r : Reply) → caller_after_step k a r ≡ k → entry_of_step s.number over k a r ≡ None → queue_after_step s.number k a r σ.queue ≡ σ.queue → age_after_step k a r σ.next_age ≡ σ.next_age → IsObservedAs over a (step_without_entry σ r)
  nothing_observed over a r h e q x = record { keeps = subst (λ (y : Caller). Keeps σ s.number y σ) (sym h) stay; entry = e; queue = q; next = x }

  -- its session and the queue change
  session_kept : (τ : State) (x : Session) (k' : Caller) (p : Option Queued) → x.number ≡ s.number → τ.sessions ≡ with_changed σ.sessions x → σ.next_age ≤ τ.next_age
      → ((m : ℕ) → request_in τ.queue m ≡ (if m == s.number then p else request_in σ.queue m)) → WaitsFor σ s.number k' p
      → Knows k' x.transaction → k'.transaction.age < τ.next_age → Keeps σ s.number k' τ
  session_kept τ x k' p num sessions later requests asked own below = record {
    then_open = x.transaction;
    then_queued = p;
    transactions = λ m. ap (λ (xs : List Session). transaction_in (session_at xs m)) sessions ∙ changed_transactions σ.sessions s x s.number here num m;
    requests = requests;
    own = own;
    asked = asked;
    aged = below;
    later = later;
  }

  same_requests : (m : ℕ) → request_in σ.queue m ≡ (if m == s.number then request_in σ.queue s.number else request_in σ.queue m)
  same_requests m = same_if (request_in σ.queue) m s.number

  -- a move is made
  made_kept : (qs : List Queued) (p : Option Queued) (t : Transaction) (x : Move) (r : Reply) → s.transaction ≡ Some t → ((m : ℕ) → request_in qs m ≡ (if m == s.number then p else request_in σ.queue m)) → WaitsFor σ s.number k p
      → Keeps σ s.number (caller_with_move k x (reply_to (mid_of σ t) x)) (make (with_queue σ qs) s t x r).state
  made_kept qs p t x r e requests asked = session_kept (make (with_queue σ qs) s t x r).state (with_transaction s (after_move t x (reply_to (mid_of σ t) x) (ends_transaction (mid_of σ t) x))) _ p refl refl (omega arith) requests asked (λ u. own u (ends_transaction (mid_of σ t) x)) aged
    where
      own : (u : Transaction) (b : Bool) → after_move t x (reply_to (mid_of σ t) x) b ≡ Some u → (caller_with_move k x (reply_to (mid_of σ t) x)).transaction ≡ u
      own u true h = cc
      own u false h = let same : with_move t x (reply_to (mid_of σ t) x) ≡ u = cc in ap (λ (v : Transaction). with_move v x (reply_to (mid_of σ t) x)) (mine t e) ∙ same

  decided_observed : (over : List ℕ) (t : Transaction) (o : Operation) (a : Answer) → s.transaction ≡ Some t → is_waiting σ s.number ≡ false → IsObservedAs over (DoCommand (command.Do o)) (by_lock_answer σ s t o a)
  decided_observed over t o Granted e free = record {
    keeps = subst (λ (z : AnswerKind). Keeps σ s.number (after_operation k o (make σ s t (Do o) reply.Done).reply z) (make σ s t (Do o) reply.Done).state) (sym (is_made (find (mid_of σ t).now (table_of o)) o))
        (made_kept σ.queue (request_in σ.queue s.number) t (Do o) reply.Done e same_requests waits);
    entry = refl;
    queue = ap (λ (z : AnswerKind). queue_after_operation s.number k o z σ.queue) (is_made (find (mid_of σ t).now (table_of o)) o);
    next = refl;
  }
  decided_observed over t o Wait e free = record {
    keeps = record {
      then_open = transaction_at σ s.number;
      then_queued = Some (record { session = s.number; age = t.age; operation = o });
      transactions = λ m. same_if (transaction_at σ) m s.number;
      requests = λ m. request_in-push σ.queue (record { session = s.number; age = t.age; operation = o }) m (none_of (request_in σ.queue s.number) free);
      own = mine_at;
      asked = λ q h. let same : record { session = s.number; age = t.age; operation = o } ≡ q = cc in ap (λ (z : Queued). Some z.operation) same;
      aged = aged;
      later = omega arith;
    };
    entry = refl;
    queue = ap (λ (v : Transaction). σ.queue ++ record { session = s.number; age = v.age; operation = o } ∷ []) (mine t e);
    next = refl;
  }
  decided_observed over t o Die e free = record {
    keeps = session_kept (by_lock_answer σ s t o Die).state (with_transaction s (Some (begun_anew t))) (caller_anew k k.transaction.age) (request_in σ.queue s.number) refl refl (omega arith) same_requests waits
        (λ u h. let same : begun_anew t ≡ u = cc in ap (λ (v : Transaction). begun_anew v) (mine t e) ∙ same) aged;
    entry = refl;
    queue = refl;
    next = refl;
  }

  within_observed : (over : List ℕ) (t : Transaction) (o : Operation) (b : Bool) → s.transaction ≡ Some t → is_waiting σ s.number ≡ false → IsObservedAs over (DoCommand (command.Do o)) (within_limit σ s t o b)
  within_observed over t o false e free = nothing_observed over (DoCommand (command.Do o)) _ refl refl refl refl
  within_observed over t o true e free = decided_observed over t o _ e free

  operate_observed : (over : List ℕ) (o : Operation) (x : Option Transaction) → s.transaction ≡ x → is_waiting σ s.number ≡ false → IsObservedAs over (DoCommand (command.Do o)) (operate σ s o x)
  operate_observed over o None e free = nothing_observed over (DoCommand (command.Do o)) _ refl refl refl refl
  operate_observed over o (Some t) e free = within_observed over t o _ e free

  retried_observed : (over : List ℕ) (t : Transaction) (q : Queued) (b : Bool) → s.transaction ≡ Some t → request_in σ.queue s.number ≡ Some q → IsObservedAs over Retry (try_again σ s t q.operation b)
  retried_observed over t q false e asked = nothing_observed over Retry _ refl refl refl refl
  retried_observed over t q true e asked = record {
    keeps = subst (λ (z : AnswerKind). Keeps σ s.number (after_answer k R z k.queued) τ) (sym (is_made (find (mid_of σ t).now (table_of q.operation)) q.operation))
        (subst (λ (z : Option Operation). Keeps σ s.number (after_answer k R Made z) τ) (sym (waits q asked))
        (made_kept (without_request σ.queue s.number) None t (Do q.operation) reply.Done e (request_in-without σ.queue s.number) (λ p h. cc)));
    entry = refl;
    queue = ap (λ (z : AnswerKind). queue_after_answer s.number z σ.queue) (is_made (find (mid_of σ t).now (table_of q.operation)) q.operation);
    next = refl;
  }
    where
      τ : State
      τ = (try_again σ s t q.operation true).state

      R : Reply
      R = (try_again σ s t q.operation true).reply

  retry_in_observed : (over : List ℕ) (q : Queued) (x : Option Transaction) → s.transaction ≡ x → request_in σ.queue s.number ≡ Some q → IsObservedAs over Retry (retry_in σ s q.operation x)
  retry_in_observed over q None e asked = nothing_observed over Retry _ refl refl refl refl
  retry_in_observed over q (Some t) e asked = retried_observed over t q _ e asked

  retry_observed : (over : List ℕ) (q : Option Queued) → request_in σ.queue s.number ≡ q → IsObservedAs over Retry (retry σ s q)
  retry_observed over None asked = nothing_observed over Retry _ refl refl refl refl
  retry_observed over (Some q) asked = retry_in_observed over q s.transaction refl asked

  -- an outermost begin is told the next age, which no transaction had
  opened_kept : Keeps σ s.number (after_begin k (reply.Tid σ.next_age)) (open_level_1 σ s true).state
  opened_kept = subst (λ (b : Bool). Keeps σ s.number (if b then caller_with_move k Open (Some (reply.Tid σ.next_age)) else caller_anew k σ.next_age) (open_level_1 σ s true).state) (sym (below_differs k.transaction.age σ.next_age aged))
      (session_kept (open_level_1 σ s true).state (with_transaction s (Some (record { age = σ.next_age; moves = []; told = [] }))) (caller_anew k σ.next_age) (request_in σ.queue s.number) refl refl (omega arith) same_requests waits
      (λ u h. cc) (omega arith))

  open_observed : (over : List ℕ) (a : Ask) (b : Bool) → ((r : Reply) → caller_after_step k a r ≡ after_begin k r) → ((r : Reply) → entry_of_step s.number over k a r ≡ None) → ((r : Reply) → queue_after_step s.number k a r σ.queue ≡ σ.queue)
      → ((r : Reply) → age_after_step k a r σ.next_age ≡ age_after_begin k r σ.next_age) → IsObservedAs over a (open_level_1 σ s b)
  open_observed over a false h e q x = nothing_observed over a _ (h (reply.SystemLimit limit.Ages)) (e (reply.SystemLimit limit.Ages)) (q (reply.SystemLimit limit.Ages)) (x (reply.SystemLimit limit.Ages))
  open_observed over a true h e q x = record {
    keeps = subst (λ (y : Caller). Keeps σ s.number y (open_level_1 σ s true).state) (sym (h (reply.Tid σ.next_age))) opened_kept;
    entry = e (reply.Tid σ.next_age);
    queue = q (reply.Tid σ.next_age);
    next = x (reply.Tid σ.next_age) ∙ ap (λ (b : Bool). if b then σ.next_age else σ.next_age + 1) (below_differs k.transaction.age σ.next_age aged);
  }

  nested_observed : (over : List ℕ) (t : Transaction) (a b : Bool) → s.transaction ≡ Some t → IsObservedAs over (DoCommand command.Begin) (open_child σ s t a b)
  nested_observed over t false b e = nothing_observed over (DoCommand command.Begin) _ refl refl refl refl
  nested_observed over t true false e = nothing_observed over (DoCommand command.Begin) _ refl refl refl refl
  nested_observed over t true true e = record {
    keeps = subst (λ (b : Bool). Keeps σ s.number (if b then caller_with_move k Open (Some (reply.Tid (mid_of σ t).age)) else caller_anew k (mid_of σ t).age) (make σ s t Open reply.Done).state) (sym own_age)
        (made_kept σ.queue (request_in σ.queue s.number) t Open reply.Done e same_requests waits);
    entry = refl;
    queue = refl;
    next = ap (λ (b : Bool). if b then σ.next_age else σ.next_age + 1) own_age;
  }
    where
      own_age : (k.transaction.age == (mid_of σ t).age) ≡ true
      own_age = ap (λ (a : ℕ). k.transaction.age == a) (after-age (start σ.tables t.age) t.moves ∙ sym (ap (λ (v : Transaction). v.age) (mine t e))) ∙ itself k.transaction.age

  begin_observed : (over : List ℕ) (x : Option Transaction) → s.transaction ≡ x → IsObservedAs over (DoCommand command.Begin) (begin σ s x)
  begin_observed over None e = open_observed over (DoCommand command.Begin) _ (λ r. refl) (λ r. refl) (λ r. refl) (λ r. refl)
  begin_observed over (Some t) e = nested_observed over t _ _ e

  one_shot_observed : (over : List ℕ) (parts : List Part) (retries : ℕ) (x : Option Transaction) → IsObservedAs over (DoCommand (command.OneShot parts retries)) (one_shot σ s x)
  one_shot_observed over parts retries None = open_observed over (DoCommand (command.OneShot parts retries)) _ (λ r. refl) (λ r. refl) (λ r. refl) (λ r. refl)
  one_shot_observed over parts retries (Some t) = nothing_observed over (DoCommand (command.OneShot parts retries)) _ refl refl refl refl

  abort_observed : (over : List ℕ) (r : Term) (x : Option Transaction) → s.transaction ≡ x → IsObservedAs over (DoCommand (command.Abort r)) (abort σ s r x)
  abort_observed over r None e = nothing_observed over (DoCommand (command.Abort r)) _ refl refl refl refl
  abort_observed over r (Some t) e = record {
    keeps = made_kept (without_request σ.queue s.number) None t Undo (reply.UserAbort r) e (request_in-without σ.queue s.number) (λ p h. cc);
    entry = refl;
    queue = refl;
    next = refl;
  }

  -- a commit's entry has the moves that its caller knows
  commit_at_observed : (over : List ℕ) (t : Transaction) (b : Bool) → s.transaction ≡ Some t → IsObservedAs over (DoCommand command.Commit) (commit_at σ over s t b)
  commit_at_observed over t false e = record { keeps = made_kept σ.queue (request_in σ.queue s.number) t Close reply.Done e same_requests waits; entry = refl; queue = refl; next = refl }
  commit_at_observed over t true e = record {
    keeps = record {
      then_open = None;
      then_queued = request_in σ.queue s.number;
      transactions = λ m. mapped_transaction f same (with_changed σ.sessions (with_transaction s None)) m ∙ changed_transactions σ.sessions s (with_transaction s None) s.number here refl m;
      requests = same_requests;
      own = λ u h. cc;
      asked = waits;
      aged = aged;
      later = omega arith;
    };
    entry = ap (λ (v : Transaction). commit_entry s.number over (record { transaction = v; queued = k.queued }) (reply.Atomic (σ.commits + 1))) (mine t e);
    queue = refl;
    next = refl;
  }
    where
      f : Session → Session
      f x = after_put (σ.commits + 1) over (batch_to (σ.commits + 1) (events_now σ t) x) x

      same : (x : Session) → ((f x).number ≡ x.number) × ((f x).transaction ≡ x.transaction)
      same x = given_same (σ.commits + 1) over (batch_to (σ.commits + 1) (events_now σ t) x) x

  commit_observed : (over : List ℕ) (x : Option Transaction) → s.transaction ≡ x → IsObservedAs over (DoCommand command.Commit) (commit σ over s x)
  commit_observed over None e = nothing_observed over (DoCommand command.Commit) _ refl refl refl refl
  commit_observed over (Some t) e = commit_at_observed over t _ e

  schema_if_observed : (over : List ℕ) (c : Schema) (r : Option Reply) (busy room : Bool) → NoEntry (schema_entry over c) r → IsObservedAs over (DoCommand (command.Schema c)) (schema_if σ over c r busy room)
  schema_if_observed over c (Some r) busy room h = nothing_observed over (DoCommand (command.Schema c)) r refl h refl refl
  schema_if_observed over c None true room h = nothing_observed over (DoCommand (command.Schema c)) _ refl refl refl refl
  schema_if_observed over c None false false h = nothing_observed over (DoCommand (command.Schema c)) _ refl refl refl refl
  schema_if_observed over c None false true h = record {
    keeps = record {
      then_open = transaction_at σ s.number;
      then_queued = request_in σ.queue s.number;
      transactions = λ m. mapped_transaction f same σ.sessions m ∙ same_if (transaction_at σ) m s.number;
      requests = same_requests;
      own = mine_at;
      asked = waits;
      aged = aged;
      later = omega arith;
    };
    entry = refl;
    queue = refl;
    next = refl;
  }
    where
      f : Session → Session
      f x = after_put (σ.commits + 1) over (end_to (removed_table c) x) (without_deleted (removed_table c) x)

      same : (x : Session) → ((f x).number ≡ x.number) × ((f x).transaction ≡ x.transaction)
      same x = let a = given_same (σ.commits + 1) over (end_to (removed_table c) x) (without_deleted (removed_table c) x) in let b = unwatched_same (removed_table c) x in (a.0 ∙ b.0, a.1 ∙ b.1)

  schema_observed : (over : List ℕ) (c : Schema) (x : Option Transaction) → IsObservedAs over (DoCommand (command.Schema c)) (schema σ over c x)
  schema_observed over c (Some t) = nothing_observed over (DoCommand (command.Schema c)) _ refl refl refl refl
  schema_observed over c None = schema_if_observed over c (schema_refusal σ.tables c) _ _ (schema_none over σ.tables c)

  -- its session has the same transaction
  same_kept : (x : Session) → x.number ≡ s.number → x.transaction ≡ s.transaction → (τ : State) → τ.sessions ≡ with_changed σ.sessions x → τ.queue ≡ σ.queue → τ.next_age ≡ σ.next_age → Keeps σ s.number k τ
  same_kept x num same τ sessions queue next = session_kept τ x k (request_in σ.queue s.number) num sessions (omega (arith, next)) (λ m. ap (λ (qs : List Queued). request_in qs m) queue ∙ same_requests m) waits
      (λ u h. mine u (sym same ∙ h)) (subst (λ (a : ℕ). k.transaction.age < a) (sym next) aged)

  marked_observed : (over : List ℕ) (c : Command) (full : Bool) (ws : List Watch) (x : Item) (e : Entry) → ((r : Reply) → caller_after_command k c r ≡ k) → ((r : Reply) → entry_of_command s.number over k c r ≡ subscription_entry e r) → ((r : Reply) → queue_after_command s.number k c r σ.queue ≡ σ.queue) → ((r : Reply) → age_after_command k c r σ.next_age ≡ σ.next_age) → IsObservedAs over (DoCommand c) (put_marker σ full s ws x e)
  marked_observed over c true ws x e h g q y = record {
    keeps = subst (λ (y : Caller). Keeps σ s.number y (put_marker σ true s ws x e).state) (sym (h reply.OutboxFull)) (same_kept _ refl refl (put_marker σ true s ws x e).state refl refl refl);
    entry = g reply.OutboxFull;
    queue = q reply.OutboxFull;
    next = y reply.OutboxFull;
  }
  marked_observed over c false ws x e h g q y = record {
    keeps = subst (λ (y : Caller). Keeps σ s.number y (put_marker σ false s ws x e).state) (sym (h reply.SubscribedHere)) (same_kept _ refl refl (put_marker σ false s ws x e).state refl refl refl);
    entry = g reply.SubscribedHere;
    queue = q reply.SubscribedHere;
    next = y reply.SubscribedHere;
  }

  subscribe_observed : (over : List ℕ) (t : List ℕ) (l : Level) (dump : Bool) (r : Option Reply) → NoEntry (subscription_entry (Subscribed s.number t l dump)) r → IsObservedAs over (DoCommand (command.Subscribe t l dump)) (subscribe_if σ over s t l dump r)
  subscribe_observed over t l dump (Some r) h = nothing_observed over (DoCommand (command.Subscribe t l dump)) r refl h refl refl
  subscribe_observed over t l dump None h = marked_observed over (command.Subscribe t l dump) _ _ _ (Subscribed s.number t l dump) (λ r. refl) (λ r. refl) (λ r. refl) (λ r. refl)

  unsubscribe_observed : (over : List ℕ) (t : List ℕ) (l : Level) (b : Bool) → IsObservedAs over (DoCommand (command.Unsubscribe t l)) (unsubscribe_if σ over s t b)
  unsubscribe_observed over t l false = nothing_observed over (DoCommand (command.Unsubscribe t l)) _ refl refl refl refl
  unsubscribe_observed over t l true = marked_observed over (command.Unsubscribe t l) _ _ _ (Unsubscribed s.number t) (λ r. refl) (λ r. refl) (λ r. refl) (λ r. refl)

  do_observed : (over : List ℕ) (c : Command) → (is_waiting σ s.number && not (is_abort c)) ≡ false → IsObservedAs over (DoCommand c) (do_command σ over s c)
  do_observed over (command.Schema c) free = schema_observed over c s.transaction
  do_observed over (command.TableInfo t i) free = nothing_observed over (DoCommand (command.TableInfo t i)) _ refl refl refl refl
  do_observed over command.Begin free = begin_observed over s.transaction refl
  do_observed over command.Commit free = commit_observed over s.transaction refl
  do_observed over (command.Abort r) free = abort_observed over r s.transaction refl
  do_observed over (command.Do o) free = operate_observed over o s.transaction refl (sym (and-true (is_waiting σ s.number)) ∙ free)
  do_observed over (command.Subscribe t l dump) free = subscribe_observed over t l dump _ (subscribe_none (Subscribed s.number t l dump) σ s t)
  do_observed over (command.Unsubscribe t l) free = unsubscribe_observed over t l _
  do_observed over (command.OneShot parts retries) free = one_shot_observed over parts retries s.transaction

  -- who waits is told so of every other command
  waiting_now : (over : List ℕ) (c : Command) → (caller_after_command k c reply.WaitingNow ≡ k) × (entry_of_command s.number over k c reply.WaitingNow ≡ None) × (queue_after_command s.number k c reply.WaitingNow σ.queue ≡ σ.queue) × (age_after_command k c reply.WaitingNow σ.next_age ≡ σ.next_age)
  waiting_now over (command.Schema c) = (refl, refl, refl, refl)
  waiting_now over (command.TableInfo t i) = (refl, refl, refl, refl)
  waiting_now over command.Begin = (refl, refl, refl, refl)
  waiting_now over command.Commit = (refl, refl, refl, refl)
  waiting_now over (command.Abort r) = (refl, refl, refl, refl)
  waiting_now over (command.Do o) = (refl, refl, refl, refl)
  waiting_now over (command.Subscribe t l dump) = (refl, refl, refl, refl)
  waiting_now over (command.Unsubscribe t l) = (refl, refl, refl, refl)
  waiting_now over (command.OneShot parts retries) = (refl, refl, refl, refl)

  command_observed : (over : List ℕ) (c : Command) (b : Bool) → (is_waiting σ s.number && not (is_abort c)) ≡ b → IsObservedAs over (DoCommand c) (command_if σ over s c b)
  command_observed over c true free = nothing_observed over (DoCommand c) _ (waiting_now over c).0 (waiting_now over c).1 (waiting_now over c).2 (waiting_now over c).3
  command_observed over c false free = do_observed over c free

  give_observed : (over : List ℕ) (xs : List Item) (l : Option ℕ) → IsObservedAs over Take (give σ s xs l)
  give_observed over (x ∷ xs) l = record { keeps = same_kept _ refl refl (give σ s (x ∷ xs) l).state refl refl refl; entry = refl; queue = refl; next = refl }
  give_observed over [] None = nothing_observed over Take _ refl refl refl refl
  give_observed over [] (Some m) = record { keeps = same_kept _ refl refl (give σ s [] (Some m)).state refl refl refl; entry = refl; queue = refl; next = refl }

  leave_observed : (over : List ℕ) → IsObservedAs over Leave (leave σ s)
  leave_observed over = record {
    keeps = record {
      then_open = None;
      then_queued = None;
      transactions = λ m. ap transaction_in (session_at-without σ.sessions s.number m) ∙ transaction_if (m == s.number) None (session_at σ.sessions m);
      requests = request_in-without σ.queue s.number;
      own = λ u h. cc;
      asked = λ q h. cc;
      aged = aged;
      later = omega arith;
    };
    entry = refl;
    queue = refl;
    next = refl;
  }

  seated_observed : (over : List ℕ) (a : Ask) → IsObservedAs over a (step_of_joined σ over s a)
  seated_observed over (Join b) = nothing_observed over (Join b) _ refl refl refl refl
  seated_observed over Leave = leave_observed over
  seated_observed over Retry = retry_observed over _ refl
  seated_observed over Take = give_observed over _ _
  seated_observed over (DoCommand c) = command_observed over c _ refl

-- one that is not joined
module _ (σ : State) (n : ℕ) (k : Caller) (none : session_at σ.sessions n ≡ None) (waits : WaitsFor σ n k (request_in σ.queue n)) (aged : k.transaction.age < σ.next_age) where
  absent : Keeps σ n k σ
  absent = kept σ n k waits aged (λ t h. let gone : transaction_at σ n ≡ None = ap transaction_in none in cc)

  refused_observed : (over : List ℕ) (a : Ask) (r : Reply) → caller_after_step k a r ≡ k → entry_of_step n over k a r ≡ None → queue_after_step n k a r σ.queue ≡ σ.queue → age_after_step k a r σ.next_age ≡ σ.next_age → IsObserved σ n k over a (step_without_entry σ r)
  refused_observed over a r h e q x = record { keeps = subst (λ (y : Caller). Keeps σ n y σ) (sym h) absent; entry = e; queue = q; next = x }

  join_observed : (over : List ℕ) (b : Outbox) (above room : Bool) → IsObserved σ n k over (Join b) (join_if σ n b above room)
  join_observed over b false room = refused_observed over (Join b) _ refl refl refl refl
  join_observed over b true false = refused_observed over (Join b) _ refl refl refl refl
  join_observed over b true true = record {
    keeps = record {
      then_open = None;
      then_queued = request_in σ.queue n;
      transactions = λ m. ap transaction_in (session_at-push σ.sessions (fresh n b) m none) ∙ transaction_if (m == n) (Some (fresh n b)) (session_at σ.sessions m);
      requests = λ m. same_if (request_in σ.queue) m n;
      own = λ u h. cc;
      asked = waits;
      aged = aged;
      later = omega arith;
    };
    entry = refl;
    queue = refl;
    next = refl;
  }

  bad_session : (over : List ℕ) (c : Command) → (caller_after_command k c reply.BadSession ≡ k) × (entry_of_command n over k c reply.BadSession ≡ None) × (queue_after_command n k c reply.BadSession σ.queue ≡ σ.queue) × (age_after_command k c reply.BadSession σ.next_age ≡ σ.next_age)
  bad_session over (command.Schema c) = (refl, refl, refl, refl)
  bad_session over (command.TableInfo t i) = (refl, refl, refl, refl)
  bad_session over command.Begin = (refl, refl, refl, refl)
  bad_session over command.Commit = (refl, refl, refl, refl)
  bad_session over (command.Abort r) = (refl, refl, refl, refl)
  bad_session over (command.Do o) = (refl, refl, refl, refl)
  bad_session over (command.Subscribe t l dump) = (refl, refl, refl, refl)
  bad_session over (command.Unsubscribe t l) = (refl, refl, refl, refl)
  bad_session over (command.OneShot parts retries) = (refl, refl, refl, refl)

  unseated_observed : (over : List ℕ) (a : Ask) → IsObserved σ n k over a (step_of_stranger σ n a)
  unseated_observed over (Join b) = join_observed over b _ _
  unseated_observed over Leave = refused_observed over Leave _ refl refl refl refl
  unseated_observed over Retry = refused_observed over Retry _ refl refl refl refl
  unseated_observed over Take = refused_observed over Take _ refl refl refl refl
  unseated_observed over (DoCommand c) = refused_observed over (DoCommand c) _ (bad_session over c).0 (bad_session over c).1 (bad_session over c).2 (bad_session over c).3

-- ---- steps and schedules

pub step_is_observed : (σ : State) (over : List ℕ) (n : ℕ) (a : Ask) (ks : Callers) → AreObserved σ ks → IsObserved σ n (ks n) over a (outcome σ over n a)
unfolding outcome
step_is_observed σ over n a ks observed = cases (session_at σ.sessions n) refl
  where
    at_session : (s : Session) (m : ℕ) → s.number ≡ m → session_at σ.sessions m ≡ Some s → IsObserved σ s.number (ks s.number) over a (step_of_joined σ over s a)
    at_session s m num here =
        let own : session_at σ.sessions s.number ≡ Some s = ap (session_at σ.sessions) num ∙ here in
        seated_observed σ s (ks s.number) own (λ q e. observed.waits s.number q e) (observed.aged s.number) (λ t e. observed.known s.number t (ap transaction_in own ∙ e)) over a

    cases : (o : Option Session) → session_at σ.sessions n ≡ o → IsObserved σ n (ks n) over a (step_of σ over n a o)
    cases None none = unseated_observed σ n (ks n) none (λ q e. observed.waits n q e) (observed.aged n) over a
    cases (Some s) here = subst (λ (m : ℕ). IsObserved σ m (ks m) over a (step_of_joined σ over s a)) (found σ.sessions s n here) (at_session s n (found σ.sessions s n here) here)

-- each step keeps callers' knowledge right, and its entry is the one that they tell
pub step_observed : (σ : State) (h : Observation) (c : Call) → AreObserved σ h.callers → let r = (outcome_of σ c).reply in AreObserved (outcome_of σ c).state (observe h c r).callers × (entry_of_call h c r ≡ (outcome_of σ c).entry)
step_observed σ h c observed =
    let is = step_is_observed σ c.over c.session c.ask h.callers observed in
    (keeps_observed σ (outcome_of σ c).state c.session _ h.callers observed is.keeps, is.entry)

-- the log of a run is what its callers observe
pub run_log : (σ : State) (h : Observation) (calls : List Call) → AreObserved σ h.callers → (observe_all h calls (replies_of σ calls)).log ≡ h.log ++ log_of σ calls
run_log σ h [] observed = sym (append-nil h.log)
run_log σ h (c ∷ calls) observed =
    let one = step_observed σ h c observed in
    run_log (outcome_of σ c).state (observe h c (outcome_of σ c).reply) calls one.0
    ∙ ap (λ (e : Option Entry). (h.log ++ entries e) ++ log_of (outcome_of σ c).state calls) one.1
    ∙ append_assoc h.log (entries (outcome_of σ c).entry) (log_of (outcome_of σ c).state calls)

pub run_observed : (σ : State) (h : Observation) (calls : List Call) → AreObserved σ h.callers → AreObserved (after_all σ calls) (observe_all h calls (replies_of σ calls)).callers
run_observed σ h [] observed = observed
run_observed σ h (c ∷ calls) observed = run_observed (outcome_of σ c).state (observe h c (outcome_of σ c).reply) calls (step_observed σ h c observed).0

pub new_observed : (limits : Limits) → AreObserved (new limits) no_observation.callers
new_observed limits = record { known = λ n t e. cc; waits = λ n q e. cc; aged = λ n. omega arith }

-- for every schedule the log is the one that its callers tell
pub schedule_log : (limits : Limits) (calls : List Call) → log_of (new limits) calls ≡ (observation_of limits calls).log
schedule_log limits calls = sym (run_log (new limits) no_observation calls (new_observed limits))

-- and each open transaction is what its caller knows
schedule_open : (limits : Limits) (calls : List Call) (n : ℕ) (t : Transaction) → transaction_at (after_all (new limits) calls) n ≡ Some t → ((observation_of limits calls).callers n).transaction ≡ t
schedule_open limits calls n t e = (run_observed (new limits) no_observation calls (new_observed limits)).known n t e

-- what callers were told is legal
pub schedule_observed_legal : (limits : Limits) (calls : List Call) → AllJoinEmpty calls → IsLegal [] 0 (observation_of limits calls).log
schedule_observed_legal limits calls empty = subst (λ (log : List Entry). IsLegal [] 0 log) (schedule_log limits calls) (schedule_legal limits calls empty)

-- and right on the tables as they are, in each open transaction
pub schedule_observed_told : (limits : Limits) (calls : List Call) (n : ℕ) (t : Transaction) → transaction_at (after_all (new limits) calls) n ≡ Some t
    → let k = ((observation_of limits calls).callers n).transaction in replies (start (after_all (new limits) calls).tables k.age) k.moves ≡ k.told
schedule_observed_told limits calls n t e =
    subst (λ (v : Transaction). replies (start (after_all (new limits) calls).tables v.age) v.moves ≡ v.told) (sym (schedule_open limits calls n t e))
    (subst (λ (o : Option Transaction). replies (start (after_all (new limits) calls).tables (age_in o)) (moves_in o) ≡ replies_in o) e (schedule_told limits calls n))
