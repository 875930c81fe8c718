-- Each step keeps what every reached state has.
use Rattle.std.proofs.Common.{◌≡◌, ◌≢◌, ℕ, ◌+◌, ◌<◌, ◌≤◌, List, [], ◌∷◌, ◌++◌, Bool, true, false, ◌||◌, refl, sym, ap, ◌∙◌, subst, arith, Option, Some, None}
use Rattle.std.proofs.lemmas.List.Folds.{list_any-append}
use Rattle.std.proofs.lemmas.Bool.{not-true, or_parts}
use Rattle.std.specs.Prelude.{◌==◌, if◌then◌else◌, nat_lt, map}
use Rattle.std.specs.List.{list_any}
use Rattle.std.specs.Str.{bytes_eq}
use Rattle.tab_term.specs.declared.term.Term.{Term}
use Rattle.tab_model.specs.declared.data.Operation.{Operation}
use Rattle.tab_model.specs.declared.data.Move.{Move}
use Rattle.tab_model.specs.declared.data.Move.TheVariants.{Do, Open, Close, Undo}
use Rattle.tab_model.specs.declared.data.Reply.{Reply}
use Rattle.tab_model.specs.declared.data.Reply.TheVariants as reply
use Rattle.tab_model.specs.declared.data.Item.{Item}
use Rattle.tab_model.specs.declared.data.Level.{Level}
use Rattle.tab_model.specs.declared.data.Schema.{Schema}
use Rattle.tab_model.specs.declared.data.Command.{Command}
use Rattle.tab_model.specs.declared.data.Command.TheVariants as command
use Rattle.tab_model.specs.declared.data.Entry.{Entry}
use Rattle.tab_model.specs.declared.data.Event.{Event}
use Rattle.tab_model.specs.Catalogs.{Catalog, IsOrderedCatalog}
use Rattle.tab_model.specs.Alone.{start, reply_to, replies}
use Rattle.tab_model.specs.Locks.{Lock, needs, locks_of, Apart}
use Rattle.tab_model.specs.Ages.{Answer, Granted, Wait, Die, opposes, decide, before, can_retry}
use Rattle.tab_model.specs.Schemas.{table_of_schema, schema_effect, removed_table}
use Rattle.tab_model.specs.Log.{has_session}
use Rattle.tab_model.specs.State.{Transaction, Outbox, Watch, Session, Queued, State, session_at, transaction_in, moves_in, replies_in, age_in, transaction_at, moves_at, age_at, locks_held_by, locks_held_in, locks_queued_in, ages_of, is_in, is_busy, without_request, mid_of, IsSound}
use Rattle.tab_model.specs.declared.ask.Ask.TheVariants.{Join, Leave, Retry, Take, Do as DoCommand}
use Rattle.tab_model.specs.Outcome.{Ask, with_changed, without_session, with_transaction, with_session, with_queue, with_move, ends_transaction, make, begun_anew, by_lock_answer, operate, retry_in, retry, begin, one_shot, abort, after_put, after_overflow, with_items, batch_to, commit_now, events_now, commit, without_deleted, end_to, schema_now, schema, put_marker, do_command, give, leave, step_of_joined, fresh, step_of_stranger, step_of, outcome}
use Rattle.tab_model.proofs.StepCases.{after_move, within_limit, try_again, open_level_1, open_child, commit_at, schema_if, subscribe_if, unsubscribe_if, command_if, join_if}
use Rattle.tab_model.proofs.SessionLists.{other_number, found, session_at-change, session_at-push, session_at-without, session_at-map, mapped}
use Rattle.tab_model.proofs.LocksApart.{stays}
use Rattle.tab_model.proofs.RepliesStay.{same_replies}
use Rattle.tab_model.proofs.CatalogsOrdered.{ordered-after, schema_ordered, no_cell_of, not_at, sees_not, agree_elsewhere}
use Rattle.tab_model.proofs.StepsBySession.{lock_of_move, Apart-sym, held_none, unopposed_apart, granted_apart, MaySit, none_sits, own_sits, emptied_sits, more_sits, session_sound, distinct-change, distinct-without, distinct-push, distinct-map}

or_none : (a : Bool) → a ≡ false → (a || false) ≡ false
or_none true h = h
or_none false h = refl

-- ---- one session

requeued : (σ : State) (qs : List Queued) → IsSound σ → IsSound (with_queue σ qs)
requeued σ qs sound = record { told = sound.told; apart = sound.apart; ages = sound.ages; taken = sound.taken; joined = sound.joined; distinct = sound.distinct; ordered = sound.ordered }

-- a session that sits takes a transaction that may sit there
module _ (σ : State) (sound : IsSound σ) (s : Session) (here : session_at σ.sessions s.number ≡ Some s) where
  within_greatest : s.number ≤ σ.greatest
  within_greatest = sound.joined s.number s here

  pub changed_sound : (s' : Session) → s'.number ≡ s.number → MaySit σ s.number s'.transaction → ((t : Transaction) → s'.transaction ≡ Some t → t.age < σ.next_age) → IsSound (with_session σ s')
  changed_sound s' num sits below = session_sound σ (with_changed σ.sessions s') σ.queue σ.next_age σ.commits σ.greatest s.number (Some s')
      (λ q. session_at-change σ.sessions s' s q (ap (session_at σ.sessions) num ∙ here) ∙ ap (λ (n : ℕ). if q == n then Some s' else session_at σ.sessions q) num)
      sound sits below (omega arith) (λ x e. within_greatest) (omega arith) (distinct-change σ.sessions s' sound.distinct)

  mine : transaction_at σ s.number ≡ s.transaction
  mine = ap transaction_in here

  own_below : (t : Transaction) → s.transaction ≡ Some t → t.age < σ.next_age
  own_below t e = sound.taken s.number t (mine ∙ e)

  -- it keeps its own
  pub same_sound : (s' : Session) → s'.number ≡ s.number → s'.transaction ≡ s.transaction → IsSound (with_session σ s')
  same_sound s' num same = changed_sound s' num (subst (MaySit σ s.number) (mine ∙ sym same) (own_sits σ s.number sound)) (λ t e. own_below t (sym same ∙ e))

  made_sound : (t : Transaction) (x : Move) (r : Reply) → s.transaction ≡ Some t → ((m : ℕ) → m ≢ s.number → Apart (lock_of_move x) (locks_of (moves_at σ m))) → IsSound (make σ s t x r).state
  made_sound t x r is free = cases (ends_transaction (mid_of σ t) x)
    where
      cases : (b : Bool) → IsSound (with_session σ (with_transaction s (after_move t x (reply_to (mid_of σ t) x) b)))
      cases true = changed_sound (with_transaction s None) refl (none_sits σ s.number) (λ t e. cc)
      cases false = changed_sound (with_transaction s (Some (with_move t x (reply_to (mid_of σ t) x)))) refl (more_sits σ s.number t x sound (mine ∙ is) free)
          (λ u e. let h : with_move t x (reply_to (mid_of σ t) x) ≡ u = cc in subst (λ (z : Transaction). z.age < σ.next_age) h (own_below t is))

  decided_sound : (t : Transaction) (o : Operation) (a : Answer) → decide (ages_of σ) (t.age, needs o) ≡ a → s.transaction ≡ Some t → IsSound (by_lock_answer σ s t o a).state
  decided_sound t o Granted e is = made_sound t (Do o) reply.Done is (λ m d. or_none _ (granted_apart σ s.number m t (needs o) sound (mine ∙ is) d e))
  decided_sound t o Wait e is = requeued σ _ sound
  decided_sound t o Die e is = changed_sound (with_transaction s (Some (begun_anew t))) refl (emptied_sits σ s.number t sound (mine ∙ is))
      (λ u h. let k : begun_anew t ≡ u = cc in subst (λ (z : Transaction). z.age < σ.next_age) k (own_below t is))

  within_sound : (t : Transaction) (o : Operation) (b : Bool) → s.transaction ≡ Some t → IsSound (within_limit σ s t o b).state
  within_sound t o false is = sound
  within_sound t o true is = decided_sound t o (decide (ages_of σ) (t.age, needs o)) refl is

  operate_sound : (o : Operation) (x : Option Transaction) → s.transaction ≡ x → IsSound (operate σ s o x).state
  operate_sound o None is = sound
  operate_sound o (Some t) is = within_sound t o _ is

  opened_sound : (b : Bool) → IsSound (open_level_1 σ s b).state
  opened_sound false = sound
  opened_sound true = session_sound σ (with_changed σ.sessions (with_transaction s (Some begun))) σ.queue (σ.next_age + 1) σ.commits σ.greatest s.number (Some (with_transaction s (Some begun)))
      (λ q. session_at-change σ.sessions (with_transaction s (Some begun)) s q here) sound
      (record { told = refl; apart = λ m d. refl; ages = λ m t u d e f same. let h : begun ≡ t = cc in let k = sound.taken m u f in let j : t.age ≡ σ.next_age = ap (λ z. z.age) (sym h) in omega (arith, k, j, same) })
      (λ t e. let h : begun ≡ t = cc in let j : t.age ≡ σ.next_age = ap (λ z. z.age) (sym h) in omega (arith, j)) (omega arith) (λ x e. within_greatest) (omega arith) (distinct-change σ.sessions (with_transaction s (Some begun)) sound.distinct)
    where
      begun : Transaction
      begun = record { age = σ.next_age; moves = []; told = [] }

  nested_sound : (t : Transaction) (a b : Bool) → s.transaction ≡ Some t → IsSound (open_child σ s t a b).state
  nested_sound t false b is = sound
  nested_sound t true false is = sound
  nested_sound t true true is = made_sound t Open reply.Done is (λ m d. refl)

  begin_sound : (x : Option Transaction) → s.transaction ≡ x → IsSound (begin σ s x).state
  begin_sound None is = opened_sound _
  begin_sound (Some t) is = nested_sound t _ _ is

  one_shot_sound : (x : Option Transaction) → IsSound (one_shot σ s x).state
  one_shot_sound None = opened_sound _
  one_shot_sound (Some t) = sound

  give_sound : (xs : List Item) (l : Option ℕ) → IsSound (give σ s xs l).state
  give_sound (x ∷ xs) l = same_sound _ refl refl
  give_sound [] None = sound
  give_sound [] (Some n) = same_sound _ refl refl

  marked_sound : (over : Bool) (ws : List Watch) (x : Item) (e : Entry) → IsSound (put_marker σ over s ws x e).state
  marked_sound true ws x e = same_sound _ refl refl
  marked_sound false ws x e = same_sound _ refl refl

  subscribe_sound : (over : List ℕ) (n : List ℕ) (l : Level) (dump : Bool) (r : Option Reply) → IsSound (subscribe_if σ over s n l dump r).state
  subscribe_sound over n l dump (Some r) = sound
  subscribe_sound over n l dump None = marked_sound _ _ _ _

  unsubscribe_sound : (over : List ℕ) (n : List ℕ) (b : Bool) → IsSound (unsubscribe_if σ over s n b).state
  unsubscribe_sound over n false = sound
  unsubscribe_sound over n true = marked_sound _ _ _ _

-- ---- all sessions

pub given_same : (n : ℕ) (over : List ℕ) (items : List Item) (s : Session) → ((after_put n over items s).number ≡ s.number) × ((after_put n over items s).transaction ≡ s.transaction)
given_same n over items s = cases (has_session over s.number)
  where
    cases : (b : Bool) → (Session.number (if b then after_overflow n s else record s { outbox = with_items s.outbox items }) ≡ s.number)
        × (Session.transaction (if b then after_overflow n s else record s { outbox = with_items s.outbox items }) ≡ s.transaction)
    cases true = (refl, refl)
    cases false = (refl, refl)

mapped_transaction : (f : Session → Session) → ((s : Session) → (f s).transaction ≡ s.transaction) → (o : Option Session) → transaction_in (mapped f o) ≡ transaction_in o
unfolding mapped
mapped_transaction f h None = refl
mapped_transaction f h (Some s) = h s

mapped_there : (f : Session → Session) (o : Option Session) (r : Session) → mapped f o ≡ Some r → (x : Session) × (o ≡ Some x)
unfolding mapped
mapped_there f None r e = cc
mapped_there f (Some x) r e = (x, refl)

-- other tables, and sessions that keep their numbers and transactions, which are told the same on them
pub tables_sound : (σ : State) (w : Catalog) (f : Session → Session) (c : ℕ) → IsSound σ → ((s : Session) → (f s).number ≡ s.number) → ((s : Session) → (f s).transaction ≡ s.transaction) → IsOrderedCatalog w
    → ((n : ℕ) → replies (start w (age_at σ n)) (moves_at σ n) ≡ replies (start σ.tables (age_at σ n)) (moves_at σ n))
    → IsSound (record σ { tables = w; sessions = map f σ.sessions; commits = c })
tables_sound σ w f c sound num tx o same = record {
  told = λ n. subst (λ (x : Option Transaction). replies (start w (age_in x)) (moves_in x) ≡ replies_in x) (sym (at' n)) (same n ∙ sound.told n);
  apart = λ m n d. subst (λ (x : Option Transaction). Apart (locks_of (moves_in x)) (locks_of (moves_in (transaction_in (session_at (map f σ.sessions) n))))) (sym (at' m))
      (subst (λ (x : Option Transaction). Apart (locks_of (moves_at σ m)) (locks_of (moves_in x))) (sym (at' n)) (sound.apart m n d));
  ages = λ m n t u e g. sound.ages m n t u (sym (at' m) ∙ e) (sym (at' n) ∙ g);
  taken = λ n t e. sound.taken n t (sym (at' n) ∙ e);
  joined = λ n r e. let m = mapped_there f (session_at σ.sessions n) r (sym (session_at-map f num σ.sessions n) ∙ e) in sound.joined n m.0 m.1;
  distinct = distinct-map f num σ.sessions sound.distinct;
  ordered = o;
}
  where
    at' : (n : ℕ) → transaction_in (session_at (map f σ.sessions) n) ≡ transaction_at σ n
    at' n = ap transaction_in (session_at-map f num σ.sessions n) ∙ mapped_transaction f tx (session_at σ.sessions n)

-- THE COMMIT: what the others were told stays, since their locks are apart from those of the transaction
pub commit_sound : (σ : State) (over : List ℕ) (s : Session) (t : Transaction) (es : List Event) → IsSound σ → session_at σ.sessions s.number ≡ Some s → s.transaction ≡ Some t → IsSound (commit_now σ over s t es).state
commit_sound σ over s t es sound here is = tables_sound ended_state (mid_of σ t).now f (σ.commits + 1) ended (λ x. (given_same (σ.commits + 1) over _ x).0) (λ x. (given_same (σ.commits + 1) over _ x).1)
    (ordered-after σ.tables t.age t.moves sound.ordered)
    (λ n. stays σ.tables t.age (age_at ended_state n) t.moves (moves_at ended_state n) sound.ordered (apart_of n))
  where
    f : Session → Session
    f x = after_put (σ.commits + 1) over (batch_to (σ.commits + 1) es x) x

    ended_state : State
    ended_state = with_session σ (with_transaction s None)

    ended : IsSound (with_session σ (with_transaction s None))
    ended = changed_sound σ sound s here (with_transaction s None) refl (none_sits σ s.number) (λ t e. cc)

    apart_either : (n : ℕ) (b : Bool) → (n == s.number) ≡ b → Apart (locks_of t.moves) (locks_of (moves_in (transaction_in (if b then Some (with_transaction s None) else session_at σ.sessions n))))
    apart_either n true e = Apart-sym [] (locks_of t.moves) refl
    apart_either n false e = subst (λ (x : Option Transaction). Apart (locks_of (moves_in x)) (locks_of (moves_at σ n))) (ap transaction_in here ∙ is) (sound.apart s.number n (λ h. other_number n s.number e (sym h)))

    apart_of : (n : ℕ) → Apart (locks_of t.moves) (locks_of (moves_at (with_session σ (with_transaction s None)) n))
    apart_of n = subst (λ (x : Option Session). Apart (locks_of t.moves) (locks_of (moves_in (transaction_in x)))) (sym (session_at-change σ.sessions (with_transaction s None) s n here)) (apart_either n (n == s.number) refl)

-- THE LOCKED TABLE: a schema command on a table where no one has a lock changes nothing that anyone has seen
pub unwatched_same : (o : Option (List ℕ)) (x : Session) → ((without_deleted o x).number ≡ x.number) × ((without_deleted o x).transaction ≡ x.transaction)
unwatched_same None x = (refl, refl)
unwatched_same (Some t) x = (refl, refl)

aged_tables : (t : List ℕ) (a : ℕ) (ls : List Lock) → list_any (is_in t) (Rattle.tab_model.specs.State.with_age a ls) ≡ list_any (λ (l : Lock). bytes_eq l.table t) ls
aged_tables t a [] = refl
aged_tables t a (l ∷ ls) = ap (λ b. bytes_eq l.table t || b) (aged_tables t a ls)

idle : (t : List ℕ) (o : Option Transaction) → list_any (is_in t) (locks_held_by o) ≡ false → list_any (λ (l : Lock). bytes_eq l.table t) (locks_of (moves_in o)) ≡ false
idle t None h = refl
idle t (Some u) h = sym (aged_tables t u.age (locks_of u.moves)) ∙ h

pub schema_now_sound : (σ : State) (over : List ℕ) (c : Schema) → IsSound σ → is_busy σ (table_of_schema c) ≡ false → IsSound (schema_now σ over c).state
schema_now_sound σ over c sound free = tables_sound σ (schema_effect σ.tables c) f σ.commits sound
    (λ x. (given_same (σ.commits + 1) over _ (without_deleted (removed_table c) x)).0 ∙ (unwatched_same (removed_table c) x).0)
    (λ x. (given_same (σ.commits + 1) over _ (without_deleted (removed_table c) x)).1 ∙ (unwatched_same (removed_table c) x).1)
    (schema_ordered σ.tables c sound.ordered)
    (λ n. same_replies (no_cell_of (table_of_schema c)) (not_at (table_of_schema c)) (start (schema_effect σ.tables c) (age_at σ n)) (start σ.tables (age_at σ n)) (moves_at σ n)
    (record { age = refl; now = agree_elsewhere σ.tables c sound.ordered; saved = tt; base = agree_elsewhere σ.tables c sound.ordered })
    (sees_not (table_of_schema c) (moves_at σ n) (idle (table_of_schema c) (transaction_at σ n) (held_none (is_in (table_of_schema c)) σ.sessions n
    (or_parts _ _ (sym (list_any-append (is_in (table_of_schema c)) (locks_held_in σ.sessions) (locks_queued_in σ.queue)) ∙ free)).0))))
  where
    f : Session → Session
    f x = after_put (σ.commits + 1) over (end_to (removed_table c) x) (without_deleted (removed_table c) x)

-- ---- all steps

module _ (σ : State) (sound : IsSound σ) (s : Session) (here : session_at σ.sessions s.number ≡ Some s) where
  retried_sound : (t : Transaction) (o : Operation) (b : Bool) → can_retry (ages_of σ) (t.age, needs o) ≡ b → s.transaction ≡ Some t → IsSound (try_again σ s t o b).state
  retried_sound t o false e is = sound
  retried_sound t o true e is = made_sound (with_queue σ (without_request σ.queue s.number)) (requeued σ _ sound) s here t (Do o) reply.Done is
      (λ m d. or_none _ (unopposed_apart σ s.number m t (needs o) sound (ap transaction_in here ∙ is) d
      (or_parts _ _ (sym (list_any-append (opposes (t.age, needs o)) (locks_held_in σ.sessions) (before t.age (locks_queued_in σ.queue))) ∙ not-true _ e)).0))

  retry_in_sound : (o : Operation) (x : Option Transaction) → s.transaction ≡ x → IsSound (retry_in σ s o x).state
  retry_in_sound o None is = sound
  retry_in_sound o (Some t) is = retried_sound t o (can_retry (ages_of σ) (t.age, needs o)) refl is

  retry_sound : (q : Option Queued) → IsSound (retry σ s q).state
  retry_sound None = sound
  retry_sound (Some q) = retry_in_sound q.operation s.transaction refl

  abort_sound : (r : Term) (x : Option Transaction) → s.transaction ≡ x → IsSound (abort σ s r x).state
  abort_sound r None is = sound
  abort_sound r (Some t) is = made_sound (with_queue σ (without_request σ.queue s.number)) (requeued σ _ sound) s here t Undo (reply.UserAbort r) is (λ m d. refl)

  commit_at_sound : (over : List ℕ) (t : Transaction) (b : Bool) → s.transaction ≡ Some t → IsSound (commit_at σ over s t b).state
  commit_at_sound over t false is = made_sound σ sound s here t Close reply.Done is (λ m d. refl)
  commit_at_sound over t true is = commit_sound σ over s t (events_now σ t) sound here is

  commit_step_sound : (over : List ℕ) (x : Option Transaction) → s.transaction ≡ x → IsSound (commit σ over s x).state
  commit_step_sound over None is = sound
  commit_step_sound over (Some t) is = commit_at_sound over t _ is

  schema_if_sound : (over : List ℕ) (c : Schema) (r : Option Reply) (busy room : Bool) → is_busy σ (table_of_schema c) ≡ busy → IsSound (schema_if σ over c r busy room).state
  schema_if_sound over c (Some r) busy room e = sound
  schema_if_sound over c None true room e = sound
  schema_if_sound over c None false false e = sound
  schema_if_sound over c None false true e = schema_now_sound σ over c sound e

  schema_sound : (over : List ℕ) (c : Schema) (x : Option Transaction) → IsSound (schema σ over c x).state
  schema_sound over c (Some t) = sound
  schema_sound over c None = schema_if_sound over c _ _ _ refl

  do_sound : (over : List ℕ) (c : Command) → IsSound (do_command σ over s c).state
  do_sound over (command.Schema c) = schema_sound over c s.transaction
  do_sound over (command.TableInfo t i) = sound
  do_sound over command.Begin = begin_sound σ sound s here s.transaction refl
  do_sound over command.Commit = commit_step_sound over s.transaction refl
  do_sound over (command.Abort r) = abort_sound r s.transaction refl
  do_sound over (command.Do o) = operate_sound σ sound s here o s.transaction refl
  do_sound over (command.Subscribe t l dump) = subscribe_sound σ sound s here over t l dump _
  do_sound over (command.Unsubscribe t l) = unsubscribe_sound σ sound s here over t _
  do_sound over (command.OneShot parts retries) = one_shot_sound σ sound s here s.transaction

  command_sound : (over : List ℕ) (c : Command) (b : Bool) → IsSound (command_if σ over s c b).state
  command_sound over c true = sound
  command_sound over c false = do_sound over c

  leave_sound : IsSound (leave σ s).state
  leave_sound = session_sound σ (without_session σ.sessions s.number) _ σ.next_age σ.commits σ.greatest s.number None (session_at-without σ.sessions s.number) sound (none_sits σ s.number) (λ t e. cc) (omega arith) (λ x e. cc) (omega arith) (distinct-without σ.sessions s.number sound.distinct)

  seated_sound : (over : List ℕ) (a : Ask) → IsSound (step_of_joined σ over s a).state
  seated_sound over (Join b) = sound
  seated_sound over Leave = leave_sound
  seated_sound over Retry = retry_sound _
  seated_sound over Take = give_sound σ sound s here _ _
  seated_sound over (DoCommand c) = command_sound over c _

join_sound : (σ : State) (n : ℕ) (b : Outbox) (above room : Bool) → nat_lt σ.greatest n ≡ above → session_at σ.sessions n ≡ None → IsSound σ → IsSound (join_if σ n b above room).state
join_sound σ n b false room e none sound = sound
join_sound σ n b true false e none sound = sound
join_sound σ n b true true e none sound = session_sound σ (σ.sessions ++ fresh n b ∷ []) σ.queue σ.next_age σ.commits n n (Some (fresh n b)) (λ q. session_at-push σ.sessions (fresh n b) q none) sound (none_sits σ n) (λ t f. cc) (omega arith) (λ x f. omega arith)
    (below σ.greatest n e) (distinct-push σ.sessions (fresh n b) none sound.distinct)
  where
    below : (m n : ℕ) → nat_lt m n ≡ true → m ≤ n
    below m n h = grind arith

unseated_sound : (σ : State) (n : ℕ) (a : Ask) → session_at σ.sessions n ≡ None → IsSound σ → IsSound (step_of_stranger σ n a).state
unseated_sound σ n (Join b) none sound = join_sound σ n b _ _ refl none sound
unseated_sound σ n Leave none sound = sound
unseated_sound σ n Retry none sound = sound
unseated_sound σ n Take none sound = sound
unseated_sound σ n (DoCommand c) none sound = sound

by_session_sound : (σ : State) (over : List ℕ) (n : ℕ) (a : Ask) (o : Option Session) → session_at σ.sessions n ≡ o → IsSound σ → IsSound (step_of σ over n a o).state
by_session_sound σ over n a None e sound = unseated_sound σ n a e sound
by_session_sound σ over n a (Some s) e sound = seated_sound σ sound s (ap (session_at σ.sessions) (found σ.sessions s n e) ∙ e) over a

pub step_sound : (σ : State) (over : List ℕ) (n : ℕ) (a : Ask) → IsSound σ → IsSound (outcome σ over n a).state
unfolding outcome
step_sound σ over n a sound = by_session_sound σ over n a (session_at σ.sessions n) refl sound
