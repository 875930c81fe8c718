-- What each reply says of the state after it.
use Rattle.std.proofs.Common.{◌≡◌, ◌≢◌, ℕ, List, [], ◌∷◌, ◌++◌, Bool, true, false, ◌||◌, ◌&&◌, not, refl, sym, ap, ◌∙◌, subst, append-nil, Option, Some, None}
use Rattle.std.proofs.Math.Bool.{and-false, and-true}
use Rattle.std.specs.Prelude.{if◌then◌else◌, is_some, ◌==◌}
use Rattle.tab_term.specs.View.{term}
use Rattle.tab_term.specs.declared.term.Term.{Term}
use Rattle.tab_model.specs.declared.data.Operation.{Operation}
use Rattle.tab_model.specs.declared.data.Move.{Move}
use Rattle.tab_model.specs.declared.data.Move.TheVariants.{Do, Open, Close, Undo}
use Rattle.tab_model.specs.declared.data.Reply.{Reply}
use Rattle.tab_model.specs.declared.data.Reply.TheVariants as reply
use Rattle.tab_model.specs.declared.data.Item.{Item}
use Rattle.tab_model.specs.declared.data.Level.{Level}
use Rattle.tab_model.specs.declared.data.Entry.{Entry}
use Rattle.tab_model.specs.declared.data.Schema.{Schema}
use Rattle.tab_model.specs.declared.data.Schema.TheVariants.{Create, Remove, AddIndex, DelIndex}
use Rattle.tab_model.specs.declared.data.InfoItem.{InfoItem}
use Rattle.tab_model.specs.declared.data.InfoItem.TheVariants as item
use Rattle.tab_model.specs.declared.data.Command.{Command}
use Rattle.tab_model.specs.declared.data.Command.TheVariants as command
use Rattle.tab_model.specs.Definitions.{Parsed, Good, Bad, parse_options, is_indexed, position}
use Rattle.tab_model.specs.Catalogs.{Table, find}
use Rattle.tab_model.specs.Operations.{table_of, failure}
use Rattle.tab_model.specs.Alone.{Mid, start, after, back, next, reply_to}
use Rattle.tab_model.specs.Locks.{locks_of}
use Rattle.tab_model.specs.Events.{is_failure}
use Rattle.tab_model.proofs.SessionLists.{found, session_at-change, itself, differs'}
use Rattle.tab_model.proofs.StepsBySession.{locks-more}
use Rattle.tab_model.proofs.OperationAnswers.{answers}
use Rattle.tab_model.proofs.SurvivorsRight.{reply_tells}
use Rattle.tab_model.specs.Schemas.{is_some_position, bad_parse, create_refusal, remove_refusal, add_refusal, del_refusal, schema_refusal}
use Rattle.tab_model.specs.Ages.{Answer, Granted, Wait, Die}
use Rattle.tab_model.specs.State.{Transaction, Outbox, Watch, Session, Queued, State, session_at, mid_of, level_in, without_request, request_in, is_waiting, transaction_at, transaction_in}
use Rattle.tab_model.specs.declared.ask.Ask.TheVariants.{Join, Leave, Retry, Take, Do as DoCommand}
use Rattle.tab_model.specs.Outcome.{Ask, Outcome, outcome, step_without_entry, with_queue, with_transaction, with_changed, ends_transaction, is_empty, make, reply_or, by_lock_answer, operate, retry_in, retry, begin, one_shot, abort, commit, schema, table_info, put_marker, subscribe_refusal, do_command, give, step_of_joined, step_of_stranger, step_of}
use Rattle.tab_model.proofs.StepCases.{after_move, within_limit, try_again, open_level_1, open_child, commit_at, schema_if, subscribe_refusal_if, subscribe_if, unsubscribe_if, command_if, join_if}
use Rattle.tab_model.specs.Refusals.{EffectOfReply, AsBefore, Counted, Queues, Emptied, Changes, effect_of_reply, with_count, queued_for, request_of_ask, with_requests, transaction_anew, with_restart, IsRestart, EndsLevel}

-- the state after a step, by what its reply says; q is what a wait queues
abbrev Stands : EffectOfReply → State → Option Session → List Queued → State → Type 0
Stands AsBefore σ s q τ = τ ≡ σ
Stands Counted σ s q τ = τ ≡ with_count σ s
Stands Queues σ s q τ = τ ≡ with_requests σ q
Stands Emptied σ s q τ = IsRestart σ s τ
Stands Changes σ s q τ = Unit {0}

abbrev Fair : State → Option Session → List Queued → Outcome → Type 0
Fair σ s q o = Stands (effect_of_reply o.reply) σ s q o.state

-- the reply to a move is no refusal
pub move_answers : (m : Mid) (x : Move) (r : Reply) → effect_of_reply r ≡ Changes → effect_of_reply (reply_or (reply_to m x) r) ≡ Changes
move_answers m (Do o) r h = answers (λ f x. effect_of_reply x ≡ Changes) (record { no_table = λ t. refl; bad_type = λ t r. refl; no_index = λ t a. refl; found = λ rs. refl; done = refl }) (find m.now (table_of o)) o
move_answers m Open r h = refl
move_answers m Close r h = refl
move_answers m Undo r h = h

free : (x : EffectOfReply) (σ : State) (s : Option Session) (q : List Queued) (τ : State) → x ≡ Changes → Stands x σ s q τ
free x σ s q τ e = subst (λ (z : EffectOfReply). Stands z σ s q τ) (sym e) tt

abbrev FairRefusal : State → Option Session → List Queued → Option Reply → Type 0
FairRefusal σ s q None = Unit {0}
FairRefusal σ s q (Some r) = Fair σ s q (step_without_entry σ r)

parsed_fair : (σ : State) (s : Option Session) (q : List Queued) (t : List ℕ) (p : Parsed) → FairRefusal σ s q (bad_parse t p)
parsed_fair σ s q t (Good d) = tt
parsed_fair σ s q t (Bad x) = refl

refusal_fair : (σ : State) (s : Option Session) (q : List Queued) (c : Schema) → FairRefusal σ s q (schema_refusal σ.tables c)
refusal_fair σ s q (Create t os) = cases (find σ.tables t)
  where
    cases : (x : Option Table) → FairRefusal σ s q (create_refusal t os x)
    cases (Some x) = refl
    cases None = parsed_fair σ s q t (parse_options t os)
refusal_fair σ s q (Remove t) = cases (find σ.tables t)
  where
    cases : (x : Option Table) → FairRefusal σ s q (remove_refusal t x)
    cases (Some x) = tt
    cases None = tt
refusal_fair σ s q (AddIndex t a) = cases (find σ.tables t)
  where
    either_way : (b : Bool) (r : Reply) → Fair σ s q (step_without_entry σ r) → FairRefusal σ s q (if b then Some r else None)
    either_way true r h = h
    either_way false r h = tt

    cases : (x : Option Table) → FairRefusal σ s q (add_refusal t a x)
    cases None = tt
    cases (Some x) = either_way (not (is_some_position (position x.def (term a))) || is_indexed x.def (position x.def (term a))) _ refl
refusal_fair σ s q (DelIndex t a) = cases (find σ.tables t)
  where
    either_way : (b : Bool) → FairRefusal σ s q (if b then None else Some (reply.NoIndex t a))
    either_way true = tt
    either_way false = tt

    cases : (x : Option Table) → FairRefusal σ s q (del_refusal t a x)
    cases None = tt
    cases (Some x) = either_way (is_indexed x.def (position x.def (term a)))

module _ (σ : State) (s : Session) where
  made_fair : (τ : State) (q : List Queued) (t : Transaction) (x : Move) (r : Reply) → effect_of_reply r ≡ Changes → Fair σ (Some s) q (make τ s t x r)
  made_fair τ q t x r h = free (effect_of_reply (reply_or (reply_to (mid_of τ t) x) r)) σ (Some s) q (make τ s t x r).state (move_answers (mid_of τ t) x r h)

  decided_fair : (t : Transaction) (o : Operation) (a : Answer) → s.transaction ≡ Some t → Fair σ (Some s) (queued_for s.number (Some t) o) (by_lock_answer σ s t o a)
  decided_fair t o Granted e = made_fair σ _ t (Do o) reply.Done refl
  decided_fair t o Wait e = refl
  decided_fair t o Die e = record { transaction = t; open_before = e; is = same }
    where
      same : (by_lock_answer σ s t o Die).state ≡ with_restart σ (Some s)
      same = ap (λ (y : Option Transaction). with_restart σ (Some (record s { transaction = y }))) (sym e)

  within_fair : (t : Transaction) (o : Operation) (b : Bool) → s.transaction ≡ Some t → Fair σ (Some s) (queued_for s.number (Some t) o) (within_limit σ s t o b)
  within_fair t o false e = refl
  within_fair t o true e = decided_fair t o _ e

  operate_fair : (o : Operation) (x : Option Transaction) → s.transaction ≡ x → Fair σ (Some s) (queued_for s.number x o) (operate σ s o x)
  operate_fair o None e = refl
  operate_fair o (Some t) e = within_fair t o _ e

  retried_fair : (t : Transaction) (o : Operation) (b : Bool) → Fair σ (Some s) [] (try_again σ s t o b)
  retried_fair t o false = ap (λ q. record σ { queue = q }) (sym (append-nil σ.queue))
  retried_fair t o true = made_fair (with_queue σ (without_request σ.queue s.number)) [] t (Do o) reply.Done refl

  retry_in_fair : (o : Operation) (x : Option Transaction) → Fair σ (Some s) [] (retry_in σ s o x)
  retry_in_fair o None = refl
  retry_in_fair o (Some t) = retried_fair t o _

  retry_fair : (q : Option Queued) → Fair σ (Some s) [] (retry σ s q)
  retry_fair None = refl
  retry_fair (Some q) = retry_in_fair q.operation s.transaction

  open_fair : (b : Bool) → Fair σ (Some s) [] (open_level_1 σ s b)
  open_fair false = refl
  open_fair true = tt

  nested_fair : (t : Transaction) (a b : Bool) → Fair σ (Some s) [] (open_child σ s t a b)
  nested_fair t false b = refl
  nested_fair t true false = refl
  nested_fair t true true = made_fair σ [] t Open reply.Done refl

  begin_fair : (x : Option Transaction) → Fair σ (Some s) [] (begin σ s x)
  begin_fair None = open_fair _
  begin_fair (Some t) = nested_fair t _ _

  one_shot_fair : (x : Option Transaction) → Fair σ (Some s) [] (one_shot σ s x)
  one_shot_fair None = open_fair _
  one_shot_fair (Some t) = refl

  abort_fair : (r : Term) (x : Option Transaction) → Fair σ (Some s) [] (abort σ s r x)
  abort_fair r None = refl
  abort_fair r (Some t) = made_fair (with_queue σ (without_request σ.queue s.number)) [] t Undo (reply.UserAbort r) refl

  commit_at_fair : (over : List ℕ) (t : Transaction) (b : Bool) → Fair σ (Some s) [] (commit_at σ over s t b)
  commit_at_fair over t false = made_fair σ [] t Close reply.Done refl
  commit_at_fair over t true = tt

  commit_fair : (over : List ℕ) (x : Option Transaction) → Fair σ (Some s) [] (commit σ over s x)
  commit_fair over None = refl
  commit_fair over (Some t) = commit_at_fair over t _

  schema_if_fair : (over : List ℕ) (c : Schema) (r : Option Reply) (busy room : Bool) → FairRefusal σ (Some s) [] r → Fair σ (Some s) [] (schema_if σ over c r busy room)
  schema_if_fair over c (Some r) busy room h = h
  schema_if_fair over c None true room h = refl
  schema_if_fair over c None false false h = refl
  schema_if_fair over c None false true h = tt

  schema_fair : (over : List ℕ) (c : Schema) (x : Option Transaction) → Fair σ (Some s) [] (schema σ over c x)
  schema_fair over c (Some t) = refl
  schema_fair over c None = schema_if_fair over c (schema_refusal σ.tables c) _ _ (refusal_fair σ (Some s) [] c)

  info_fair : (t : List ℕ) (i : InfoItem) (x : Option Table) → Fair σ (Some s) [] (step_without_entry σ (table_info t i x))
  info_fair t i None = refl
  info_fair t item.Kind (Some x) = tt
  info_fair t item.Attributes (Some x) = tt
  info_fair t item.Index (Some x) = tt
  info_fair t item.Size (Some x) = tt

  marked_fair : (full : Bool) (ws : List Watch) (x : Item) (e : Entry) → Fair σ (Some s) [] (put_marker σ full s ws x e)
  marked_fair true ws x e = refl
  marked_fair false ws x e = tt

  subscribe_fair : (over : List ℕ) (t : List ℕ) (l : Level) (dump : Bool) (r : Option Reply) → FairRefusal σ (Some s) [] r → Fair σ (Some s) [] (subscribe_if σ over s t l dump r)
  subscribe_fair over t l dump (Some r) h = h
  subscribe_fair over t l dump None h = marked_fair _ _ _ _

  subscribe_refused : (t : List ℕ) → FairRefusal σ (Some s) [] (subscribe_refusal σ s t)
  subscribe_refused t = cases (is_some s.overflow) (not (is_some (find σ.tables t))) (is_some (level_in s.watching t))
    where
      cases : (a b c : Bool) → FairRefusal σ (Some s) [] (subscribe_refusal_if t a b c)
      cases true b c = refl
      cases false true c = refl
      cases false false true = refl
      cases false false false = tt

  unsubscribe_fair : (over : List ℕ) (t : List ℕ) (b : Bool) → Fair σ (Some s) [] (unsubscribe_if σ over s t b)
  unsubscribe_fair over t false = refl
  unsubscribe_fair over t true = marked_fair _ _ _ _

  do_fair : (over : List ℕ) (c : Command) → Fair σ (Some s) (request_of_ask (Some s) (DoCommand c)) (do_command σ over s c)
  do_fair over (command.Schema c) = schema_fair over c s.transaction
  do_fair over (command.TableInfo t i) = info_fair t i (find σ.tables t)
  do_fair over command.Begin = begin_fair s.transaction
  do_fair over command.Commit = commit_fair over s.transaction
  do_fair over (command.Abort r) = abort_fair r s.transaction
  do_fair over (command.Do o) = operate_fair o s.transaction refl
  do_fair over (command.Subscribe t l dump) = subscribe_fair over t l dump (subscribe_refusal σ s t) (subscribe_refused t)
  do_fair over (command.Unsubscribe t l) = unsubscribe_fair over t _
  do_fair over (command.OneShot parts retries) = one_shot_fair s.transaction

  command_fair : (over : List ℕ) (c : Command) (b : Bool) → Fair σ (Some s) (request_of_ask (Some s) (DoCommand c)) (command_if σ over s c b)
  command_fair over c true = refl
  command_fair over c false = do_fair over c

  give_fair : (xs : List Item) (l : Option ℕ) → Fair σ (Some s) [] (give σ s xs l)
  give_fair (x ∷ xs) l = tt
  give_fair [] None = tt
  give_fair [] (Some n) = tt

  seated_fair : (over : List ℕ) (a : Ask) → Fair σ (Some s) (request_of_ask (Some s) a) (step_of_joined σ over s a)
  seated_fair over (Join b) = refl
  seated_fair over Leave = tt
  seated_fair over Retry = retry_fair _
  seated_fair over Take = give_fair _ _
  seated_fair over (DoCommand c) = command_fair over c _

join_fair : (σ : State) (n : ℕ) (b : Outbox) (above room : Bool) → Fair σ None [] (join_if σ n b above room)
join_fair σ n b false room = refl
join_fair σ n b true false = refl
join_fair σ n b true true = tt

unseated_fair : (σ : State) (n : ℕ) (a : Ask) → Fair σ None (request_of_ask None a) (step_of_stranger σ n a)
unseated_fair σ n (Join b) = join_fair σ n b _ _
unseated_fair σ n Leave = refl
unseated_fair σ n Retry = refl
unseated_fair σ n Take = refl
unseated_fair σ n (DoCommand c) = refl

by_session_fair : (σ : State) (over : List ℕ) (n : ℕ) (a : Ask) (o : Option Session) → Fair σ o (request_of_ask o a) (step_of σ over n a o)
by_session_fair σ over n a None = unseated_fair σ n a
by_session_fair σ over n a (Some s) = seated_fair σ s over a

outcome_fair : (σ : State) (over : List ℕ) (n : ℕ) (a : Ask) → Fair σ (session_at σ.sessions n) (request_of_ask (session_at σ.sessions n) a) (outcome σ over n a)
unfolding outcome
outcome_fair σ over n a = by_session_fair σ over n a (session_at σ.sessions n)

at_standing : (σ : State) (over : List ℕ) (n : ℕ) (a : Ask) (x : EffectOfReply) → effect_of_reply (outcome σ over n a).reply ≡ x → Stands x σ (session_at σ.sessions n) (request_of_ask (session_at σ.sessions n) a) (outcome σ over n a).state
at_standing σ over n a x e = subst (λ (z : EffectOfReply). Stands z σ (session_at σ.sessions n) (request_of_ask (session_at σ.sessions n) a) (outcome σ over n a).state) e (outcome_fair σ over n a)

pub as_before : (σ : State) (over : List ℕ) (n : ℕ) (a : Ask) → effect_of_reply (outcome σ over n a).reply ≡ AsBefore → (outcome σ over n a).state ≡ σ
as_before σ over n a e = at_standing σ over n a AsBefore e

pub refusal_counted : (σ : State) (over : List ℕ) (n : ℕ) (a : Ask) → (outcome σ over n a).reply ≡ reply.OutboxFull → (outcome σ over n a).state ≡ with_count σ (session_at σ.sessions n)
refusal_counted σ over n a e = at_standing σ over n a Counted (ap effect_of_reply e)

pub waits_queued : (σ : State) (over : List ℕ) (n : ℕ) (a : Ask) → (outcome σ over n a).reply ≡ reply.Waiting → (outcome σ over n a).state ≡ with_requests σ (request_of_ask (session_at σ.sessions n) a)
waits_queued σ over n a e = at_standing σ over n a Queues (ap effect_of_reply e)

pub restarts_empty : (σ : State) (over : List ℕ) (n : ℕ) (a : Ask) → (outcome σ over n a).reply ≡ reply.Restart → IsRestart σ (session_at σ.sessions n) (outcome σ over n a).state
restarts_empty σ over n a e = at_standing σ over n a Emptied (ap effect_of_reply e)

changed_here : (σ : State) (n : ℕ) (s : Session) → session_at σ.sessions n ≡ Some s → (o : Option Transaction) → session_at (with_changed σ.sessions (with_transaction s o)) n ≡ Some (with_transaction s o)
changed_here σ n s e o =
    session_at-change σ.sessions (with_transaction s o) s n (ap (session_at σ.sessions) (found σ.sessions s n e) ∙ e)
    ∙ ap (λ b. if b then Some (with_transaction s o) else session_at σ.sessions n) (ap (λ m. n == m) (found σ.sessions s n e) ∙ itself n)

-- level 1 after a restart
pub restarted_open : (σ : State) (n : ℕ) → transaction_at (with_restart σ (session_at σ.sessions n)) n ≡ transaction_anew (transaction_at σ n)
restarted_open σ n = cases (session_at σ.sessions n) refl
  where
    cases : (o : Option Session) → session_at σ.sessions n ≡ o → transaction_at (with_restart σ o) n ≡ transaction_anew (transaction_in o)
    cases None e = ap transaction_in e
    cases (Some s) e = ap transaction_in (changed_here σ n s e (transaction_anew s.transaction))

-- a schema command that isn't answered `{atomic, ok}` changes nothing
schema_if_quiet : (σ : State) (over : List ℕ) (c : Schema) (r : Option Reply) (busy room : Bool) → ((schema_if σ over c r busy room).reply ≡ reply.AtomicOk → ⊥) → (schema_if σ over c r busy room).state ≡ σ
schema_if_quiet σ over c (Some r) busy room h = refl
schema_if_quiet σ over c None true room h = refl
schema_if_quiet σ over c None false false h = refl
schema_if_quiet σ over c None false true h = absurd (h refl)

schema_quiet : (σ : State) (over : List ℕ) (c : Schema) (x : Option Transaction) → ((schema σ over c x).reply ≡ reply.AtomicOk → ⊥) → (schema σ over c x).state ≡ σ
schema_quiet σ over c (Some t) h = refl
schema_quiet σ over c None h = schema_if_quiet σ over c _ _ _ h

pub schema_refused : (σ : State) (over : List ℕ) (n : ℕ) (c : Schema) → ((outcome σ over n (DoCommand (command.Schema c))).reply ≡ reply.AtomicOk → ⊥) → (outcome σ over n (DoCommand (command.Schema c))).state ≡ σ
unfolding outcome
schema_refused σ over n c h = cases (session_at σ.sessions n) h
  where
    by_wait : (s : Session) (b : Bool) → ((command_if σ over s (command.Schema c) b).reply ≡ reply.AtomicOk → ⊥) → (command_if σ over s (command.Schema c) b).state ≡ σ
    by_wait s true h = refl
    by_wait s false h = schema_quiet σ over c s.transaction h

    cases : (o : Option Session) → ((step_of σ over n (DoCommand (command.Schema c)) o).reply ≡ reply.AtomicOk → ⊥) → (step_of σ over n (DoCommand (command.Schema c)) o).state ≡ σ
    cases None h = refl
    cases (Some s) h = by_wait s _ h

-- ---- ends of levels

pub after-more : (m : Mid) (xs : List Move) (x : Move) → after m (xs ++ x ∷ []) ≡ next (after m xs) x
after-more m [] x = refl
after-more m (y ∷ xs) x = after-more (next m y) xs x

-- a request that doesn't wait isn't in the queue
pub none_queued : (qs : List Queued) (n : ℕ) → is_some (request_in qs n) ≡ false → without_request qs n ≡ qs
none_queued [] n e = refl
none_queued (q ∷ qs) n e = cases (q.session == n) e (none_queued qs n)
  where
    cases : (b : Bool) → is_some (if b then Some q else request_in qs n) ≡ false → (is_some (request_in qs n) ≡ false → without_request qs n ≡ qs) → (if not b then q ∷ without_request qs n else without_request qs n) ≡ q ∷ qs
    cases true h ih = cc
    cases false h ih = ap (λ xs. q ∷ xs) (ih h)

other_sessions : (sessions : List Session) (s : Session) (n m : ℕ) (o : Option Transaction) → session_at sessions n ≡ Some s → m ≢ n → session_at (with_changed sessions (with_transaction s o)) m ≡ session_at sessions m
other_sessions sessions s n m o e other =
    session_at-change sessions (with_transaction s o) s m (ap (session_at sessions) (found sessions s n e) ∙ e)
    ∙ ap (λ b. if b then Some (with_transaction s o) else session_at sessions m) (ap (λ k. m == k) (found sessions s n e) ∙ differs' m n other)

-- a move that goes back has ended its level
level_ended : (σ τ : State) (n : ℕ) (s : Session) (t : Transaction) (x : Move) (r : Reply) → session_at σ.sessions n ≡ Some s → τ ≡ with_queue σ (without_request σ.queue n)
    → next (mid_of σ t) x ≡ back (mid_of σ t) → ends_transaction (mid_of σ t) x ≡ is_empty (mid_of σ t).saved
    → EndsLevel σ n t x (reply_to (mid_of σ t) x) (make τ s t x r).state
level_ended σ τ n s t x r here is gone ended = subst (λ (υ : State). EndsLevel σ n t x (reply_to (mid_of σ t) x) (make υ s t x r).state) (sym is) at_once
  where
    then_is : Option Transaction
    then_is = after_move t x (reply_to (mid_of σ t) x) (ends_transaction (mid_of σ t) x)

    now : transaction_in (session_at (with_changed σ.sessions (with_transaction s then_is)) n) ≡ then_is
    now = ap transaction_in (changed_here σ n s here then_is)

    own : (u : Session) → session_at σ.sessions n ≡ Some u → session_at (with_changed σ.sessions (with_transaction s then_is)) n ≡ Some (with_transaction u (transaction_in (session_at (with_changed σ.sessions (with_transaction s then_is)) n)))
    own u e = let same : s ≡ u = cc in changed_here σ n s here then_is ∙ (λ i. Some (with_transaction (same i) (sym now i)))

    at_once : EndsLevel σ n t x (reply_to (mid_of σ t) x) (make (with_queue σ (without_request σ.queue n)) s t x r).state
    at_once = record {
      tables = refl;
      first = λ e. now ∙ ap (after_move t x (reply_to (mid_of σ t) x)) (ended ∙ e);
      nested = λ e. now ∙ ap (after_move t x (reply_to (mid_of σ t) x)) (ended ∙ e);
      back = after-more (start σ.tables t.age) t.moves x ∙ gone;
      locks = locks-more t.moves x ∙ ap (λ ls. locks_of t.moves ++ ls) (sym (locks-more [] x));
      slot = own;
      others = λ m other. other_sessions σ.sessions s n m then_is here other;
      queue = refl;
      next_age = refl;
      commits = refl;
      greatest = refl;
      limits = refl;
    }

if_back : (b : Bool) (m n : Mid) → b ≡ true → (if b then m else n) ≡ m
if_back true m n h = refl
if_back false m n h = cc

-- a failing operation's move
failed_made : (σ τ : State) (n : ℕ) (s : Session) (t : Transaction) (o : Operation) → session_at σ.sessions n ≡ Some s → τ ≡ with_queue σ (without_request σ.queue n) → is_failure (Some (make τ s t (Do o) reply.Done).reply) ≡ true
    → EndsLevel σ n t (Do o) (Some (make τ s t (Do o) reply.Done).reply) (make τ s t (Do o) reply.Done).state
failed_made σ τ n s t o here is failed =
    subst (λ (υ : State). EndsLevel σ n t (Do o) (Some (make υ s t (Do o) reply.Done).reply) (make υ s t (Do o) reply.Done).state) (sym is)
    (level_ended σ (with_queue σ (without_request σ.queue n)) n s t (Do o) reply.Done here refl (if_back (is_some (failure (mid_of σ t).now o)) (back (mid_of σ t)) _ fails) (ap (λ b. b && is_empty (mid_of σ t).saved) fails))
  where
    fails : is_some (failure (mid_of σ t).now o) ≡ true
    fails = sym (reply_tells (find (mid_of σ t).now (table_of o)) o) ∙ ap (λ (υ : State). is_failure (Some (make υ s t (Do o) reply.Done).reply)) (sym is) ∙ failed

-- what an operation that fails leaves
pub operation_failed : (σ : State) (over : List ℕ) (n : ℕ) (t : Transaction) (o : Operation) → transaction_at σ n ≡ Some t → is_failure (Some (outcome σ over n (DoCommand (command.Do o))).reply) ≡ true
    → EndsLevel σ n t (Do o) (Some (outcome σ over n (DoCommand (command.Do o))).reply) (outcome σ over n (DoCommand (command.Do o))).state
unfolding outcome
operation_failed σ over n t o mine failed = cases (session_at σ.sessions n) refl mine failed
  where
    own_request : (s : Session) → session_at σ.sessions n ≡ Some s → is_waiting σ s.number ≡ false → σ ≡ with_queue σ (without_request σ.queue n)
    own_request s here e = ap (with_queue σ) (sym (none_queued σ.queue n (ap (λ k. is_waiting σ k) (sym (found σ.sessions s n here)) ∙ e)))

    by_answer : (s : Session) (a : Answer) → session_at σ.sessions n ≡ Some s → is_waiting σ s.number ≡ false → is_failure (Some (by_lock_answer σ s t o a).reply) ≡ true → EndsLevel σ n t (Do o) (Some (by_lock_answer σ s t o a).reply) (by_lock_answer σ s t o a).state
    by_answer s Granted here w f = failed_made σ σ n s t o here (own_request s here w) f
    by_answer s Wait here w f = cc
    by_answer s Die here w f = cc

    by_room : (s : Session) (b : Bool) → session_at σ.sessions n ≡ Some s → is_waiting σ s.number ≡ false → is_failure (Some (within_limit σ s t o b).reply) ≡ true → EndsLevel σ n t (Do o) (Some (within_limit σ s t o b).reply) (within_limit σ s t o b).state
    by_room s false here w f = cc
    by_room s true here w f = by_answer s _ here w f

    by_transaction : (s : Session) (x : Option Transaction) → session_at σ.sessions n ≡ Some s → is_waiting σ s.number ≡ false → x ≡ Some t → is_failure (Some (operate σ s o x).reply) ≡ true → EndsLevel σ n t (Do o) (Some (operate σ s o x).reply) (operate σ s o x).state
    by_transaction s None here w e f = cc
    by_transaction s (Some u) here w e f = let same : t ≡ u = cc in
        subst (λ (v : Transaction). is_failure (Some (operate σ s o (Some v)).reply) ≡ true → EndsLevel σ n t (Do o) (Some (operate σ s o (Some v)).reply) (operate σ s o (Some v)).state) same (λ g. by_room s _ here w g) f

    by_wait : (s : Session) (b : Bool) → (is_waiting σ s.number && true) ≡ b → session_at σ.sessions n ≡ Some s → s.transaction ≡ Some t → is_failure (Some (command_if σ over s (command.Do o) b).reply) ≡ true → EndsLevel σ n t (Do o) (Some (command_if σ over s (command.Do o) b).reply) (command_if σ over s (command.Do o) b).state
    by_wait s true w here e f = cc
    by_wait s false w here e f = by_transaction s s.transaction here (sym (and-true (is_waiting σ s.number)) ∙ w) e f

    cases : (x : Option Session) → session_at σ.sessions n ≡ x → transaction_in x ≡ Some t → is_failure (Some (step_of σ over n (DoCommand (command.Do o)) x).reply) ≡ true → EndsLevel σ n t (Do o) (Some (step_of σ over n (DoCommand (command.Do o)) x).reply) (step_of σ over n (DoCommand (command.Do o)) x).state
    cases None here e f = cc
    cases (Some s) here e f = by_wait s _ refl here e f

-- what a queued operation that fails leaves
pub retry_failed : (σ : State) (over : List ℕ) (n : ℕ) (t : Transaction) (q : Queued) → transaction_at σ n ≡ Some t → request_in σ.queue n ≡ Some q → is_failure (Some (outcome σ over n Retry).reply) ≡ true
    → EndsLevel σ n t (Do q.operation) (Some (outcome σ over n Retry).reply) (outcome σ over n Retry).state
unfolding outcome
retry_failed σ over n t q mine asked failed = cases (session_at σ.sessions n) refl mine failed
  where
    by_turn : (s : Session) (b : Bool) → session_at σ.sessions n ≡ Some s → is_failure (Some (try_again σ s t q.operation b).reply) ≡ true → EndsLevel σ n t (Do q.operation) (Some (try_again σ s t q.operation b).reply) (try_again σ s t q.operation b).state
    by_turn s false here f = cc
    by_turn s true here f = failed_made σ (with_queue σ (without_request σ.queue s.number)) n s t q.operation here (ap (λ k. with_queue σ (without_request σ.queue k)) (found σ.sessions s n here)) f

    by_transaction : (s : Session) (x : Option Transaction) → session_at σ.sessions n ≡ Some s → x ≡ Some t → is_failure (Some (retry_in σ s q.operation x).reply) ≡ true → EndsLevel σ n t (Do q.operation) (Some (retry_in σ s q.operation x).reply) (retry_in σ s q.operation x).state
    by_transaction s None here e f = cc
    by_transaction s (Some u) here e f = let same : t ≡ u = cc in
        subst (λ (v : Transaction). is_failure (Some (retry_in σ s q.operation (Some v)).reply) ≡ true → EndsLevel σ n t (Do q.operation) (Some (retry_in σ s q.operation (Some v)).reply) (retry_in σ s q.operation (Some v)).state) same (λ g. by_turn s _ here g) f

    by_request : (s : Session) (x : Option Queued) → session_at σ.sessions n ≡ Some s → s.transaction ≡ Some t → x ≡ Some q → is_failure (Some (retry σ s x).reply) ≡ true → EndsLevel σ n t (Do q.operation) (Some (retry σ s x).reply) (retry σ s x).state
    by_request s None here e g f = cc
    by_request s (Some p) here e g f = let same : q ≡ p = cc in
        subst (λ (v : Queued). is_failure (Some (retry σ s (Some v)).reply) ≡ true → EndsLevel σ n t (Do q.operation) (Some (retry σ s (Some v)).reply) (retry σ s (Some v)).state) same (λ h. by_transaction s s.transaction here e h) f

    cases : (x : Option Session) → session_at σ.sessions n ≡ x → transaction_in x ≡ Some t → is_failure (Some (step_of σ over n Retry x).reply) ≡ true → EndsLevel σ n t (Do q.operation) (Some (step_of σ over n Retry x).reply) (step_of σ over n Retry x).state
    cases None here e f = cc
    cases (Some s) here e f = by_request s (request_in σ.queue s.number) here e (ap (request_in σ.queue) (found σ.sessions s n here) ∙ asked) f

-- what an abort leaves
pub aborted : (σ : State) (over : List ℕ) (n : ℕ) (t : Transaction) (r : Term) → transaction_at σ n ≡ Some t → EndsLevel σ n t Undo None (outcome σ over n (DoCommand (command.Abort r))).state
unfolding outcome
aborted σ over n t r mine = cases (session_at σ.sessions n) refl mine
  where
    by_transaction : (s : Session) (x : Option Transaction) → session_at σ.sessions n ≡ Some s → x ≡ Some t → EndsLevel σ n t Undo None (abort σ s r x).state
    by_transaction s None here e = cc
    by_transaction s (Some u) here e = let same : t ≡ u = cc in
        subst (λ (v : Transaction). EndsLevel σ n t Undo None (abort σ s r (Some v)).state) same
        (level_ended σ (with_queue σ (without_request σ.queue s.number)) n s t Undo (reply.UserAbort r) here (ap (λ k. with_queue σ (without_request σ.queue k)) (found σ.sessions s n here)) refl refl)

    by_wait : (s : Session) (b : Bool) → b ≡ false → session_at σ.sessions n ≡ Some s → s.transaction ≡ Some t → EndsLevel σ n t Undo None (command_if σ over s (command.Abort r) b).state
    by_wait s true g here e = cc
    by_wait s false g here e = by_transaction s s.transaction here e

    cases : (x : Option Session) → session_at σ.sessions n ≡ x → transaction_in x ≡ Some t → EndsLevel σ n t Undo None (step_of σ over n (DoCommand (command.Abort r)) x).state
    cases None here e = cc
    cases (Some s) here e = by_wait s _ (and-false (is_waiting σ s.number)) here e
