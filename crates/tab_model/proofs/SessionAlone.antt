-- A session that is alone: it is never told to wait, and never restarted.
use Rattle.std.proofs.Common.{◌≡◌, ◌≢◌, ℕ, List, [], ◌∷◌, ◌++◌, Bool, true, false, ◌||◌, not, refl, sym, ap, ◌∙◌, Option, Some, None}
use Rattle.std.specs.Prelude.{◌==◌, if◌then◌else◌, is_some, map}
use Rattle.std.specs.List.{list_any}
use Rattle.std.proofs.Common.{arith}
use Rattle.std.proofs.lemmas.Bool.{false≢true}
use Rattle.std.proofs.lemmas.Bool.Decides.{nat_tests}
use Rattle.tab_term.specs.View.{term}
use Rattle.tab_term.specs.declared.term.Term.{Term}
use Rattle.tab_model.specs.declared.data.Operation.{Operation}
use Rattle.tab_model.specs.declared.data.Move.{Move}
use Rattle.tab_model.specs.declared.data.Move.TheVariants.{Do, Open, Close, Undo}
use Rattle.tab_model.specs.declared.data.Reply.{Reply}
use Rattle.tab_model.specs.declared.data.Reply.TheVariants as reply
use Rattle.tab_model.specs.declared.data.Item.{Item}
use Rattle.tab_model.specs.declared.data.Level.{Level}
use Rattle.tab_model.specs.declared.data.Entry.{Entry}
use Rattle.tab_model.specs.declared.data.Schema.{Schema}
use Rattle.tab_model.specs.declared.data.Schema.TheVariants.{Create, Remove, AddIndex, DelIndex}
use Rattle.tab_model.specs.declared.data.InfoItem.{InfoItem}
use Rattle.tab_model.specs.declared.data.InfoItem.TheVariants as item
use Rattle.tab_model.specs.declared.data.Command.{Command}
use Rattle.tab_model.specs.declared.data.Command.TheVariants as command
use Rattle.tab_model.specs.Definitions.{Parsed, Good, Bad, parse_options, is_indexed, position}
use Rattle.tab_model.specs.Catalogs.{Table, find}
use Rattle.tab_model.specs.Locks.{Lock, needs, locks_of}
use Rattle.tab_model.specs.Ages.{Owned, Answer, Granted, Wait, Die, opposes, decide}
use Rattle.tab_model.specs.Log.{has_session}
use Rattle.tab_model.specs.Schemas.{is_some_position, bad_parse, create_refusal, remove_refusal, add_refusal, del_refusal, schema_refusal, removed_table}
use Rattle.tab_model.specs.State.{Transaction, Outbox, Watch, Session, Queued, State, session_at, with_age, locks_held_by, mid_of, level_in, request_in}
use Rattle.tab_model.specs.declared.ask.Ask.TheVariants.{Join, Leave, Retry, Take, Do as DoCommand}
use Rattle.tab_model.specs.Outcome.{Ask, Outcome, outcome, step_without_entry, with_transaction, with_changed, without_session, make, by_lock_answer, operate, retry, begin, one_shot, abort, after_put, commit, without_deleted, end_to, batch_to, events_now, schema, table_info, put_marker, subscribe_refusal, do_command, give, step_of_joined, step_of_stranger, step_of}
use Rattle.tab_model.proofs.StepCases.{within_limit, open_level_1, open_child, commit_at, schema_if, subscribe_refusal_if, subscribe_if, unsubscribe_if, command_if, join_if}
use Rattle.tab_model.specs.Refusals.{EffectOfReply, Changes, Queues, Emptied, effect_of_reply, IsOnlySession, IsSole}
use Rattle.tab_model.proofs.RefusalLaws.{move_answers}

-- ---- one owner is granted whatever it asks

pub own_unopposed : (a : ℕ) (l : Lock) (ls : List Lock) → list_any (opposes (a, l)) (with_age a ls) ≡ false
own_unopposed a l [] = refl
own_unopposed a l (k ∷ ls) = grind (arith, nat_tests, own_unopposed a l ls)

pub any_nil : (p : Owned → Bool) (xs : List Owned) → list_any p ((xs ++ []) ++ []) ≡ list_any p xs
any_nil p [] = refl
any_nil p (x ∷ xs) = ap (λ b. p x || b) (any_nil p xs)

pub granted_if : (c b d : Bool) → b ≡ false → (if c || not b then Granted else if d then Die else Wait) ≡ Granted
granted_if true b d e = refl
granted_if false true d e = cc
granted_if false false d e = refl

-- ---- its session stays the only one

change_sole : (n : ℕ) (xs : List Session) (s : Session) → IsOnlySession n xs → s.number ≡ n → IsOnlySession n (with_changed xs s)
change_sole n [] s h e = tt
change_sole n (x ∷ []) s h e = cases (x.number == s.number)
  where
    cases : (b : Bool) → IsOnlySession n (if b then s ∷ [] else x ∷ [])
    cases true = e
    cases false = h
change_sole n (x ∷ y ∷ xs) s h e = absurd h

map_sole : (n : ℕ) (f : Session → Session) → ((s : Session) → (f s).number ≡ s.number) → (xs : List Session) → IsOnlySession n xs → IsOnlySession n (map f xs)
map_sole n f k [] h = tt
map_sole n f k (x ∷ []) h = k x ∙ h
map_sole n f k (x ∷ y ∷ xs) h = absurd h

without_sole : (n : ℕ) (xs : List Session) (m : ℕ) → IsOnlySession n xs → IsOnlySession n (without_session xs m)
without_sole n [] m h = tt
without_sole n (x ∷ []) m h = cases (x.number == m)
  where
    cases : (b : Bool) → IsOnlySession n (if not b then x ∷ [] else [])
    cases true = tt
    cases false = h
without_sole n (x ∷ y ∷ xs) m h = absurd h

given_number : (n : ℕ) (over : List ℕ) (items : List Item) (s : Session) → (after_put n over items s).number ≡ s.number
given_number n over items s = cases (has_session over s.number)
  where
    cases : (b : Bool) → Session.number (if b then Rattle.tab_model.specs.Outcome.after_overflow n s else record s { outbox = Rattle.tab_model.specs.Outcome.with_items s.outbox items }) ≡ s.number
    cases true = refl
    cases false = refl

unwatched_number : (t : Option (List ℕ)) (s : Session) → (without_deleted t s).number ≡ s.number
unwatched_number None s = refl
unwatched_number (Some t) s = refl

-- ---- what it is told

abbrev unheld : EffectOfReply → Bool
unheld Queues = false
unheld Emptied = false
unheld s = true

-- no wait and no restart, and the session is alone still
abbrev Calm : ℕ → Outcome → Type 0
Calm n o = (unheld (effect_of_reply o.reply) ≡ true) × IsSole n o.state

abbrev CalmRefusal : Option Reply → Type 0
CalmRefusal None = Unit {0}
CalmRefusal (Some r) = unheld (effect_of_reply r) ≡ true

parsed_calm : (t : List ℕ) (p : Parsed) → CalmRefusal (bad_parse t p)
parsed_calm t (Good d) = tt
parsed_calm t (Bad x) = refl

if_calm : (b : Bool) (x y : Option Reply) → CalmRefusal x → CalmRefusal y → CalmRefusal (if b then x else y)
if_calm true x y h k = h
if_calm false x y h k = k

refusal_calm : (σ : State) (c : Schema) → CalmRefusal (schema_refusal σ.tables c)
refusal_calm σ (Create t os) = cases (find σ.tables t)
  where
    cases : (x : Option Table) → CalmRefusal (create_refusal t os x)
    cases (Some x) = refl
    cases None = parsed_calm t (parse_options t os)
refusal_calm σ (Remove t) = cases (find σ.tables t)
  where
    cases : (x : Option Table) → CalmRefusal (remove_refusal t x)
    cases (Some x) = tt
    cases None = refl
refusal_calm σ (AddIndex t a) = cases (find σ.tables t)
  where
    cases : (x : Option Table) → CalmRefusal (add_refusal t a x)
    cases None = refl
    cases (Some x) = if_calm (not (is_some_position (position x.def (term a))) || is_indexed x.def (position x.def (term a))) _ _ refl tt
refusal_calm σ (DelIndex t a) = cases (find σ.tables t)
  where
    cases : (x : Option Table) → CalmRefusal (del_refusal t a x)
    cases None = refl
    cases (Some x) = if_calm (is_indexed x.def (position x.def (term a))) _ _ tt refl

subscribe_calm : (σ : State) (s : Session) (t : List ℕ) → CalmRefusal (subscribe_refusal σ s t)
subscribe_calm σ s t = cases (is_some s.overflow) (not (is_some (find σ.tables t))) (is_some (level_in s.watching t))
  where
    cases : (a b c : Bool) → CalmRefusal (subscribe_refusal_if t a b c)
    cases true b c = refl
    cases false true c = refl
    cases false false true = refl
    cases false false false = tt

module _ (σ : State) (n : ℕ) (s : Session) (sole : IsSole n σ) (here : s.number ≡ n) where
  made_calm : (t : Transaction) (x : Move) (r : Reply) → effect_of_reply r ≡ Changes → Calm n (make σ s t x r)
  made_calm t x r h = (ap unheld (move_answers (mid_of σ t) x r h), (change_sole n σ.sessions _ sole.0 here, sole.1))

  -- what it queues is dropped: nothing is queued
  dropped_calm : (t : Transaction) (x : Move) (r : Reply) (q : List Queued) → q ≡ [] → effect_of_reply r ≡ Changes → Calm n (make (Rattle.tab_model.specs.Outcome.with_queue σ q) s t x r)
  dropped_calm t x r q e h = (ap unheld (move_answers (mid_of σ t) x r h), (change_sole n σ.sessions _ sole.0 here, e))

  decided_calm : (t : Transaction) (o : Operation) (a : Answer) → a ≡ Granted → Calm n (by_lock_answer σ s t o a)
  decided_calm t o Granted e = made_calm t (Do o) reply.Done refl
  decided_calm t o Wait e = cc
  decided_calm t o Die e = cc

  granted : (xs : List Session) (t : Transaction) (o : Operation) → IsOnlySession n xs → session_at xs n ≡ Some s → s.transaction ≡ Some t
      → decide (record { held = Rattle.tab_model.specs.State.locks_held_in xs; queue = [] }) (t.age, needs o) ≡ Granted
  granted [] t o h e f = cc
  granted (x ∷ []) t o h e f =
      granted_if _ _ _ (ap (λ y. list_any (opposes (t.age, needs o)) ((locks_held_by y ++ []) ++ [])) mine
      ∙ any_nil (opposes (t.age, needs o)) (with_age t.age (locks_of t.moves)) ∙ own_unopposed t.age (needs o) (locks_of t.moves))
    where
      at_once : (b : Bool) → b ≡ true → (if b then Some x else None) ≡ Some s → x ≡ s
      at_once true g k = cc
      at_once false g k = cc

      mine : x.transaction ≡ Some t
      mine = ap (λ y. Session.transaction y) (at_once (x.number == n) (ap (λ m. m == n) h ∙ grind (arith, nat_tests)) e) ∙ f
  granted (x ∷ y ∷ xs) t o h e f = absurd h

  within_calm : (t : Transaction) (o : Operation) (b : Bool) → session_at σ.sessions n ≡ Some s → s.transaction ≡ Some t → Calm n (within_limit σ s t o b)
  within_calm t o false e f = (refl, sole)
  within_calm t o true e f = decided_calm t o _ (ap (λ q. decide (record { held = Rattle.tab_model.specs.State.locks_held_in σ.sessions; queue = Rattle.tab_model.specs.State.locks_queued_in q }) (t.age, needs o)) sole.1 ∙ granted σ.sessions t o sole.0 e f)

  operate_calm : (o : Operation) (x : Option Transaction) → session_at σ.sessions n ≡ Some s → s.transaction ≡ x → Calm n (operate σ s o x)
  operate_calm o None e f = (refl, sole)
  operate_calm o (Some t) e f = within_calm t o _ e f

  retry_calm : (q : List Queued) → q ≡ [] → Calm n (retry σ s (request_in q s.number))
  retry_calm [] e = (refl, sole)
  retry_calm (x ∷ xs) e = cc

  open_calm : (b : Bool) → Calm n (open_level_1 σ s b)
  open_calm false = (refl, sole)
  open_calm true = (refl, (change_sole n σ.sessions _ sole.0 here, sole.1))

  nested_calm : (t : Transaction) (a b : Bool) → Calm n (open_child σ s t a b)
  nested_calm t false b = (refl, sole)
  nested_calm t true false = (refl, sole)
  nested_calm t true true = made_calm t Open reply.Done refl

  begin_calm : (x : Option Transaction) → Calm n (begin σ s x)
  begin_calm None = open_calm _
  begin_calm (Some t) = nested_calm t _ _

  one_shot_calm : (x : Option Transaction) → Calm n (one_shot σ s x)
  one_shot_calm None = open_calm _
  one_shot_calm (Some t) = (refl, sole)

  abort_calm : (r : Term) (x : Option Transaction) → Calm n (abort σ s r x)
  abort_calm r None = (refl, sole)
  abort_calm r (Some t) = dropped_calm t Undo (reply.UserAbort r) _ (ap (λ q. Rattle.tab_model.specs.State.without_request q s.number) sole.1) refl

  commit_at_calm : (over : List ℕ) (t : Transaction) (b : Bool) → Calm n (commit_at σ over s t b)
  commit_at_calm over t false = made_calm t Close reply.Done refl
  commit_at_calm over t true =
      (refl, (map_sole n _ (λ x. given_number _ over (batch_to _ (events_now σ t) x) x) (with_changed σ.sessions (with_transaction s None)) (change_sole n σ.sessions _ sole.0 here), sole.1))

  commit_calm : (over : List ℕ) (x : Option Transaction) → Calm n (commit σ over s x)
  commit_calm over None = (refl, sole)
  commit_calm over (Some t) = commit_at_calm over t _

  schema_if_calm : (over : List ℕ) (c : Schema) (r : Option Reply) (busy room : Bool) → CalmRefusal r → Calm n (schema_if σ over c r busy room)
  schema_if_calm over c (Some r) busy room h = (h, sole)
  schema_if_calm over c None true room h = (refl, sole)
  schema_if_calm over c None false false h = (refl, sole)
  schema_if_calm over c None false true h =
      (refl, (map_sole n _ (λ x. given_number _ over (end_to (removed_table c) x) (without_deleted (removed_table c) x) ∙ unwatched_number (removed_table c) x) σ.sessions sole.0, sole.1))

  schema_calm : (over : List ℕ) (c : Schema) (x : Option Transaction) → Calm n (schema σ over c x)
  schema_calm over c (Some t) = (refl, sole)
  schema_calm over c None = schema_if_calm over c _ _ _ (refusal_calm σ c)

  info_calm : (t : List ℕ) (i : InfoItem) (x : Option Table) → Calm n (step_without_entry σ (table_info t i x))
  info_calm t i None = (refl, sole)
  info_calm t item.Kind (Some x) = (refl, sole)
  info_calm t item.Attributes (Some x) = (refl, sole)
  info_calm t item.Index (Some x) = (refl, sole)
  info_calm t item.Size (Some x) = (refl, sole)

  marked_calm : (full : Bool) (ws : List Watch) (x : Item) (e : Entry) → Calm n (put_marker σ full s ws x e)
  marked_calm true ws x e = (refl, (change_sole n σ.sessions _ sole.0 here, sole.1))
  marked_calm false ws x e = (refl, (change_sole n σ.sessions _ sole.0 here, sole.1))

  subscribed_calm : (over : List ℕ) (t : List ℕ) (l : Level) (dump : Bool) (r : Option Reply) → CalmRefusal r → Calm n (subscribe_if σ over s t l dump r)
  subscribed_calm over t l dump (Some r) h = (h, sole)
  subscribed_calm over t l dump None h = marked_calm _ _ _ _

  unsubscribed_calm : (over : List ℕ) (t : List ℕ) (b : Bool) → Calm n (unsubscribe_if σ over s t b)
  unsubscribed_calm over t false = (refl, sole)
  unsubscribed_calm over t true = marked_calm _ _ _ _

  do_calm : (over : List ℕ) (c : Command) → session_at σ.sessions n ≡ Some s → Calm n (do_command σ over s c)
  do_calm over (command.Schema c) e = schema_calm over c s.transaction
  do_calm over (command.TableInfo t i) e = info_calm t i (find σ.tables t)
  do_calm over command.Begin e = begin_calm s.transaction
  do_calm over command.Commit e = commit_calm over s.transaction
  do_calm over (command.Abort r) e = abort_calm r s.transaction
  do_calm over (command.Do o) e = operate_calm o s.transaction e refl
  do_calm over (command.Subscribe t l dump) e = subscribed_calm over t l dump _ (subscribe_calm σ s t)
  do_calm over (command.Unsubscribe t l) e = unsubscribed_calm over t _
  do_calm over (command.OneShot parts retries) e = one_shot_calm s.transaction

  command_calm : (over : List ℕ) (c : Command) (b : Bool) → session_at σ.sessions n ≡ Some s → Calm n (command_if σ over s c b)
  command_calm over c true e = (refl, sole)
  command_calm over c false e = do_calm over c e

  give_calm : (xs : List Item) (l : Option ℕ) → Calm n (give σ s xs l)
  give_calm (x ∷ xs) l = (refl, (change_sole n σ.sessions _ sole.0 here, sole.1))
  give_calm [] None = (refl, sole)
  give_calm [] (Some m) = (refl, (change_sole n σ.sessions _ sole.0 here, sole.1))

  seated_calm : (over : List ℕ) (a : Ask) → session_at σ.sessions n ≡ Some s → Calm n (step_of_joined σ over s a)
  seated_calm over (Join b) e = (refl, sole)
  seated_calm over Leave e = (refl, (without_sole n σ.sessions s.number sole.0, ap (λ q. Rattle.tab_model.specs.State.without_request q s.number) sole.1))
  seated_calm over Retry e = retry_calm σ.queue sole.1
  seated_calm over Take e = give_calm _ _
  seated_calm over (DoCommand c) e = command_calm over c _ e

-- nobody sits
join_calm : (σ : State) (n : ℕ) (b : Outbox) (above room : Bool) → IsSole n σ → session_at σ.sessions n ≡ None → Calm n (join_if σ n b above room)
join_calm σ n b false room sole e = (refl, sole)
join_calm σ n b true false sole e = (refl, sole)
join_calm σ n b true true sole e = (refl, (pushed_sole σ.sessions sole.0 e, sole.1))
  where
    pushed_sole : (xs : List Session) → IsOnlySession n xs → session_at xs n ≡ None → IsOnlySession n (xs ++ Rattle.tab_model.specs.Outcome.fresh n b ∷ [])
    pushed_sole [] h f = refl
    pushed_sole (x ∷ []) h f = absurd (sits (x.number == n) (ap (λ m. m == n) h ∙ grind (arith, nat_tests)) f)
      where
        sits : (c : Bool) → c ≡ true → (if c then Some x else None) ≡ None → ⊥
        sits true g k = cc
        sits false g k = cc
    pushed_sole (x ∷ y ∷ xs) h f = absurd h

unseated_calm : (σ : State) (n : ℕ) (a : Ask) → IsSole n σ → session_at σ.sessions n ≡ None → Calm n (step_of_stranger σ n a)
unseated_calm σ n (Join b) sole e = join_calm σ n b _ _ sole e
unseated_calm σ n Leave sole e = (refl, sole)
unseated_calm σ n Retry sole e = (refl, sole)
unseated_calm σ n Take sole e = (refl, sole)
unseated_calm σ n (DoCommand c) sole e = (refl, sole)

calm : (σ : State) (over : List ℕ) (n : ℕ) (a : Ask) → IsSole n σ → Calm n (outcome σ over n a)
unfolding outcome
calm σ over n a sole = cases (session_at σ.sessions n) refl
  where
    found_here : (xs : List Session) (s : Session) → session_at xs n ≡ Some s → s.number ≡ n
    found_here xs s e = Rattle.tab_model.proofs.SessionLists.found xs s n e

    cases : (o : Option Session) → session_at σ.sessions n ≡ o → Calm n (step_of σ over n a o)
    cases None e = unseated_calm σ n a sole e
    cases (Some s) e = seated_calm σ n s sole (found_here σ.sessions s e) over a e

pub stays_sole : (σ : State) (over : List ℕ) (n : ℕ) (a : Ask) → IsSole n σ → IsSole n (outcome σ over n a).state
stays_sole σ over n a sole = (calm σ over n a sole).1

pub no_wait : (σ : State) (over : List ℕ) (n : ℕ) (a : Ask) → IsSole n σ → (outcome σ over n a).reply ≢ reply.Waiting
no_wait σ over n a sole e = false≢true (ap unheld (ap effect_of_reply (sym e)) ∙ (calm σ over n a sole).0)

pub no_restart : (σ : State) (over : List ℕ) (n : ℕ) (a : Ask) → IsSole n σ → (outcome σ over n a).reply ≢ reply.Restart
no_restart σ over n a sole e = false≢true (ap unheld (ap effect_of_reply (sym e)) ∙ (calm σ over n a sole).0)
