-- What a session's post is, its capacity and which mailbox it is, stays while it is joined.
use Rattle.std.proofs.Common.{◌≡◌, ◌≤◌, arith, ℕ, suc, ◌+◌, List, [], ◌∷◌, ◌++◌, Bool, true, false, ◌&&◌, not, refl, sym, ap, ◌∙◌, subst, length, Option, Some, None}
use Rattle.std.specs.Prelude.{◌==◌, if◌then◌else◌, nat_lt, nat_le, map}
use Rattle.std.specs.List.{AllByRecursion}
use Rattle.tab_term.specs.declared.term.Term.{Term}
use Rattle.tab_model.specs.declared.data.Item.{Item}
use Rattle.tab_model.specs.declared.data.Entry.{Entry}
use Rattle.tab_model.specs.declared.data.Level.{Level}
use Rattle.tab_model.specs.declared.data.Operation.{Operation}
use Rattle.tab_model.specs.declared.data.Reply.{Reply}
use Rattle.tab_model.specs.declared.data.Schema.{Schema}
use Rattle.tab_model.specs.declared.data.Command.{Command}
use Rattle.tab_model.specs.declared.data.Command.TheVariants as command
use Rattle.tab_model.specs.Ages.{Answer, Granted, Wait, Die, decide, can_retry}
use Rattle.tab_model.specs.Locks.{needs}
use Rattle.tab_model.specs.Log.{has_session}
use Rattle.tab_model.specs.Schemas.{table_of_schema, schema_refusal, removed_table}
use Rattle.tab_model.specs.State.{AreDistinct, IsSound, Outbox, Transaction, Watch, Session, Queued, State, session_at, request_in, is_waiting, ages_of, is_busy, level_in, mid_of, count_moves}
use Rattle.tab_model.specs.declared.ask.Ask.TheVariants.{Join, Leave, Retry, Take, Do as DoCommand}
use Rattle.tab_model.specs.Outcome.{Ask, Outcome, outcome, is_empty, with_changed, without_session, by_lock_answer, operate, retry_in, retry, begin, one_shot, abort, after_overflow, with_items, items_to_take, after_put, batch_to, commit, events_now, without_deleted, end_to, has_room, schema, put_marker, subscribe_refusal, is_at, do_command, is_abort, give, step_of_stranger, step_of_joined, step_of}
use Rattle.tab_model.proofs.StepCases.{within_limit, try_again, open_level_1, open_child, commit_at, schema_if, subscribe_if, unsubscribe_if, command_if, join_if}
use Rattle.std.proofs.lemmas.Bool.Decides.{nat_tests}
use Rattle.tab_model.proofs.SessionLists.{eq_true, itself, found}

some_is : (x y : Session) → Some x ≡ Some y → x ≡ y
some_is x y e = cc

not_both : (a b : ℕ) → b ≤ a → nat_lt a b ≡ true → ⊥
not_both a b h e = grind (arith, nat_tests)

module _ (P : ℕ → Option ℕ → Option ℕ → Type 0) where
  abbrev Has : Session → Type 0
  Has s = P s.number s.outbox.capacity s.outbox.mailbox

  abbrev pub AllHave : List Session → Type 0
  AllHave ss = AllByRecursion Has ss

  -- a session joins with such a post
  abbrev pub JoinsAs : State → ℕ → Ask → Type 0
  JoinsAs σ n (Join b) = nat_lt σ.greatest n ≡ true → P n b.capacity b.mailbox
  JoinsAs σ n a = Unit {0}

  -- ---- sessions

  pub found_has : (ss : List Session) (n : ℕ) (s : Session) → AllHave ss → session_at ss n ≡ Some s → Has s
  found_has [] n s k h = cc
  found_has (x ∷ ss) n s k h = by (x.number == n) h (found_has ss n s k.1)
    where
      by : (b : Bool) → (if b then Some x else session_at ss n) ≡ Some s → (session_at ss n ≡ Some s → Has s) → Has s
      by true e ih = subst Has (one e) k.0
        where
          one : Some x ≡ Some s → x ≡ s
          one q = cc
      by false e ih = ih e

  changes : (ss : List Session) → AllHave ss → (s : Session) → Has s → AllHave (with_changed ss s)
  changes [] k s h = tt
  changes (x ∷ ss) k s h = by (x.number == s.number) (changes ss k.1 s h)
    where
      by : (b : Bool) → AllHave (with_changed ss s) → AllHave (if b then s ∷ ss else x ∷ with_changed ss s)
      by true rest = (h, k.1)
      by false rest = (k.0, rest)

  removes : (ss : List Session) → AllHave ss → (n : ℕ) → AllHave (without_session ss n)
  removes [] k n = tt
  removes (x ∷ ss) k n = by (x.number == n) (removes ss k.1 n)
    where
      by : (b : Bool) → AllHave (without_session ss n) → AllHave (if not b then x ∷ without_session ss n else without_session ss n)
      by true rest = rest
      by false rest = (k.0, rest)

  appends : (ss : List Session) → AllHave ss → (s : Session) → Has s → AllHave (ss ++ s ∷ [])
  appends [] k s h = (h, tt)
  appends (x ∷ ss) k s h = (k.0, appends ss k.1 s h)

  each : (f : Session → Session) → ((s : Session) → Has s → Has (f s)) → (ss : List Session) → AllHave ss → AllHave (map f ss)
  each f h [] k = tt
  each f h (s ∷ ss) k = (h s k.0, each f h ss k.1)

  given_has : (n : ℕ) (over : List ℕ) (items : List Item) (s : Session) → Has s → Has (after_put n over items s)
  given_has n over items s k = by (has_session over s.number)
    where
      by : (b : Bool) → Has (if b then after_overflow n s else record s { outbox = with_items s.outbox items })
      by true = k
      by false = k

  unwatched_has : (t : Option (List ℕ)) (s : Session) → Has s → Has (without_deleted t s)
  unwatched_has None s k = k
  unwatched_has (Some t) s k = k

  -- ---- steps

  module _ (σ : State) (k : AllHave σ.sessions) where
    abbrev Keeps : Outcome → Type 0
    Keeps o = AllHave o.state.sessions

    module _ (s : Session) (h : Has s) where
      decided_keeps : (t : Transaction) (o : Operation) (a : Answer) → Keeps (by_lock_answer σ s t o a)
      decided_keeps t o Granted = changes σ.sessions k _ h
      decided_keeps t o Wait = k
      decided_keeps t o Die = changes σ.sessions k _ h

      within_keeps : (t : Transaction) (o : Operation) (b : Bool) → Keeps (within_limit σ s t o b)
      within_keeps t o false = k
      within_keeps t o true = decided_keeps t o (decide (ages_of σ) (t.age, needs o))

      operate_keeps : (o : Operation) (t : Option Transaction) → Keeps (operate σ s o t)
      operate_keeps o None = k
      operate_keeps o (Some t) = within_keeps t o (nat_lt (count_moves t.moves) σ.limits.operations)

      retried_keeps : (t : Transaction) (o : Operation) (b : Bool) → Keeps (try_again σ s t o b)
      retried_keeps t o false = k
      retried_keeps t o true = changes σ.sessions k _ h

      retry_in_keeps : (o : Operation) (t : Option Transaction) → Keeps (retry_in σ s o t)
      retry_in_keeps o None = k
      retry_in_keeps o (Some t) = retried_keeps t o (can_retry (ages_of σ) (t.age, needs o))

      retry_keeps : (q : Option Queued) → Keeps (retry σ s q)
      retry_keeps None = k
      retry_keeps (Some q) = retry_in_keeps q.operation s.transaction

      opened_keeps : (b : Bool) → Keeps (open_level_1 σ s b)
      opened_keeps false = k
      opened_keeps true = changes σ.sessions k _ h

      nested_keeps : (t : Transaction) (a b : Bool) → Keeps (open_child σ s t a b)
      nested_keeps t false b = k
      nested_keeps t true false = k
      nested_keeps t true true = changes σ.sessions k _ h

      begin_keeps : (t : Option Transaction) → Keeps (begin σ s t)
      begin_keeps None = opened_keeps (nat_le σ.next_age σ.limits.ages)
      begin_keeps (Some t) = nested_keeps t (nat_lt (suc (length (mid_of σ t).saved)) σ.limits.nesting) (nat_lt (count_moves t.moves) σ.limits.operations)

      one_shot_keeps : (t : Option Transaction) → Keeps (one_shot σ s t)
      one_shot_keeps None = opened_keeps (nat_le σ.next_age σ.limits.ages)
      one_shot_keeps (Some t) = k

      abort_keeps : (r : Term) (t : Option Transaction) → Keeps (abort σ s r t)
      abort_keeps r None = k
      abort_keeps r (Some t) = changes σ.sessions k _ h

      commit_at_keeps : (over : List ℕ) (t : Transaction) (b : Bool) → Keeps (commit_at σ over s t b)
      commit_at_keeps over t false = changes σ.sessions k _ h
      commit_at_keeps over t true = each _ (λ x hx. given_has (σ.commits + 1) over (batch_to (σ.commits + 1) (events_now σ t) x) x hx) _ (changes σ.sessions k _ h)

      commit_keeps : (over : List ℕ) (t : Option Transaction) → Keeps (commit σ over s t)
      commit_keeps over None = k
      commit_keeps over (Some t) = commit_at_keeps over t (is_empty (mid_of σ t).saved)

      schema_if_keeps : (over : List ℕ) (c : Schema) (r : Option Reply) (busy room : Bool) → Keeps (schema_if σ over c r busy room)
      schema_if_keeps over c (Some r) busy room = k
      schema_if_keeps over c None true room = k
      schema_if_keeps over c None false false = k
      schema_if_keeps over c None false true =
          each _ (λ x hx. given_has (σ.commits + 1) over (end_to (removed_table c) x) (without_deleted (removed_table c) x) (unwatched_has (removed_table c) x hx)) σ.sessions k

      schema_keeps : (over : List ℕ) (c : Schema) (t : Option Transaction) → Keeps (schema σ over c t)
      schema_keeps over c (Some t) = k
      schema_keeps over c None = schema_if_keeps over c (schema_refusal σ.tables c) (is_busy σ (table_of_schema c)) (has_room σ c)

      marked_keeps : (b : Bool) (ws : List Watch) (x : Item) (e : Entry) → Keeps (put_marker σ b s ws x e)
      marked_keeps true ws x e = changes σ.sessions k _ h
      marked_keeps false ws x e = changes σ.sessions k _ h

      subscribe_keeps : (over : List ℕ) (t : List ℕ) (l : Level) (dump : Bool) (r : Option Reply) → Keeps (subscribe_if σ over s t l dump r)
      subscribe_keeps over t l dump (Some r) = k
      subscribe_keeps over t l dump None = marked_keeps _ _ _ _

      unsubscribe_keeps : (over : List ℕ) (t : List ℕ) (b : Bool) → Keeps (unsubscribe_if σ over s t b)
      unsubscribe_keeps over t false = k
      unsubscribe_keeps over t true = marked_keeps _ _ _ _

      command_keeps : (over : List ℕ) (c : Command) → Keeps (do_command σ over s c)
      command_keeps over (command.Schema c) = schema_keeps over c s.transaction
      command_keeps over (command.TableInfo t i) = k
      command_keeps over command.Begin = begin_keeps s.transaction
      command_keeps over command.Commit = commit_keeps over s.transaction
      command_keeps over (command.Abort r) = abort_keeps r s.transaction
      command_keeps over (command.Do o) = operate_keeps o s.transaction
      command_keeps over (command.Subscribe t l dump) = subscribe_keeps over t l dump (subscribe_refusal σ s t)
      command_keeps over (command.Unsubscribe t l) = unsubscribe_keeps over t (is_at (level_in s.watching t) l)
      command_keeps over (command.OneShot parts retries) = one_shot_keeps s.transaction

      command_if_keeps : (over : List ℕ) (c : Command) (b : Bool) → Keeps (command_if σ over s c b)
      command_if_keeps over c true = k
      command_if_keeps over c false = command_keeps over c

      give_keeps : (items : List Item) (l : Option ℕ) → Keeps (give σ s items l)
      give_keeps (x ∷ xs) l = changes σ.sessions k _ h
      give_keeps [] None = k
      give_keeps [] (Some n) = changes σ.sessions k _ h

      seated_keeps : (over : List ℕ) (a : Ask) → Keeps (step_of_joined σ over s a)
      seated_keeps over (Join b) = k
      seated_keeps over Leave = removes σ.sessions k s.number
      seated_keeps over Retry = retry_keeps (request_in σ.queue s.number)
      seated_keeps over Take = give_keeps (items_to_take s.outbox s.outbox.capacity) s.overflow
      seated_keeps over (DoCommand c) = command_if_keeps over c (is_waiting σ s.number && not (is_abort c))

    join_keeps : (n : ℕ) (b : Outbox) (above room : Bool) → (above ≡ true → P n b.capacity b.mailbox) → Keeps (join_if σ n b above room)
    join_keeps n b false room h = k
    join_keeps n b true false h = k
    join_keeps n b true true h = appends σ.sessions k _ (h refl)

    unseated_keeps : (n : ℕ) (a : Ask) → JoinsAs σ n a → Keeps (step_of_stranger σ n a)
    unseated_keeps n (Join b) h = join_keeps n b (nat_lt σ.greatest n) (nat_lt (length σ.sessions) σ.limits.sessions) h
    unseated_keeps n Leave h = k
    unseated_keeps n Retry h = k
    unseated_keeps n Take h = k
    unseated_keeps n (DoCommand c) h = k

    by_session_keeps : (over : List ℕ) (n : ℕ) (a : Ask) → JoinsAs σ n a → (o : Option Session) → session_at σ.sessions n ≡ o → Keeps (step_of σ over n a o)
    by_session_keeps over n a joins None e = unseated_keeps n a joins
    by_session_keeps over n a joins (Some s) e = seated_keeps s (found_has σ.sessions n s k e) over a

  pub stays : (σ : State) (over : List ℕ) (n : ℕ) (a : Ask) → JoinsAs σ n a → AllHave σ.sessions → AllHave (outcome σ over n a).state.sessions
  unfolding outcome
  stays σ over n a joins k = by_session_keeps σ k over n a joins (session_at σ.sessions n) refl

-- ---- a session's post stays what it is

module _ (P : ℕ → Option ℕ → Option ℕ → Type 0) where
  -- of sessions with different numbers
  pub all_have : (ss : List Session) → AreDistinct ss → ((n : ℕ) (s : Session) → session_at ss n ≡ Some s → P n s.outbox.capacity s.outbox.mailbox) → AllHave P ss
  all_have [] d f = tt
  all_have (x ∷ ss) d f = (f x.number x (ap (λ b. if b then Some x else session_at ss x.number) (itself x.number)), all_have ss d.1 (λ n s g. f n s (by n s g (x.number == n) refl)))
    where
      by : (n : ℕ) (s : Session) → session_at ss n ≡ Some s → (b : Bool) → (x.number == n) ≡ b → (if b then Some x else session_at ss n) ≡ Some s
      by n s g true e = let none : None ≡ Some s = sym d.0 ∙ ap (session_at ss) (eq_true x.number n e) ∙ g in cc
      by n s g false e = g

module _ (σ : State) (sound : IsSound σ) where
  abbrev IsPost : ℕ → Option ℕ → Option ℕ → Type 0
  IsPost n c m = (x : Session) → session_at σ.sessions n ≡ Some x → (c ≡ x.outbox.capacity) × (m ≡ x.outbox.mailbox)

  joins_new : (n : ℕ) (a : Ask) → JoinsAs IsPost σ n a
  joins_new n (Join b) = λ e x g. absurd (not_both σ.greatest n (sound.joined n x g) e)
  joins_new n Leave = tt
  joins_new n Retry = tt
  joins_new n Take = tt
  joins_new n (DoCommand c) = tt

  -- of a session that is joined before and after a step
  pub post_stays : (over : List ℕ) (n : ℕ) (a : Ask) (m : ℕ) (x y : Session) → session_at σ.sessions m ≡ Some x → session_at (outcome σ over n a).state.sessions m ≡ Some y
      → (y.outbox.capacity ≡ x.outbox.capacity) × (y.outbox.mailbox ≡ x.outbox.mailbox)
  post_stays over n a m x y g h =
      let all : AllHave IsPost σ.sessions = all_have IsPost σ.sessions sound.distinct (λ k s e z f. let same : s ≡ z = some_is s z (sym e ∙ f) in (ap (λ (q : Session). q.outbox.capacity) same, ap (λ (q : Session). q.outbox.mailbox) same)) in
      found_has IsPost (outcome σ over n a).state.sessions m y (stays IsPost σ over n a (joins_new n a) all) h x (ap (session_at σ.sessions) (found (outcome σ over n a).state.sessions y m h) ∙ g)

-- ---- channel posts

abbrev pub IsChannel : ℕ → Option ℕ → Option ℕ → Type 0
IsChannel n c m = c ≡ None

-- where all posts are channels' and who joins brings a channel's
pub channels_stay : (σ : State) (over : List ℕ) (n : ℕ) (a : Ask) → JoinsAs IsChannel σ n a → AllHave IsChannel σ.sessions → AllHave IsChannel (outcome σ over n a).state.sessions
channels_stay σ over n a joins k = stays IsChannel σ over n a joins k
