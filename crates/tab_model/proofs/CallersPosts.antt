-- The posts that callers tell are the core's: their refusals, and the overflows that were not told yet.
use Rattle.std.proofs.Common.{◌≡◌, ℕ, ◌+◌, List, [], ◌∷◌, ◌++◌, Bool, true, false, not, refl, sym, ap, ◌∙◌, subst, Option, Some, None}
use Rattle.std.specs.Prelude.{◌==◌, if◌then◌else◌, is_some, map}
use Rattle.tab_term.specs.declared.term.Term.{Term}
use Rattle.tab_model.specs.declared.data.Operation.{Operation}
use Rattle.tab_model.specs.declared.data.Move.TheVariants.{Do, Open, Close}
use Rattle.tab_model.specs.declared.data.Reply.{Reply}
use Rattle.tab_model.specs.declared.data.Reply.TheVariants as reply
use Rattle.tab_model.specs.declared.data.Limits.{Limits}
use Rattle.tab_model.specs.declared.data.Item.{Item}
use Rattle.tab_model.specs.declared.data.Level.{Level}
use Rattle.tab_model.specs.declared.data.Entry.{Entry}
use Rattle.tab_model.specs.declared.data.Entry.TheVariants.{Subscribed, Unsubscribed}
use Rattle.tab_model.specs.declared.data.Schema.{Schema}
use Rattle.tab_model.specs.declared.data.Command.{Command}
use Rattle.tab_model.specs.declared.data.Command.TheVariants as command
use Rattle.tab_model.specs.Catalogs.{find}
use Rattle.tab_model.specs.Ages.{Answer, Granted, Wait, Die}
use Rattle.tab_model.specs.Schemas.{removed_table}
use Rattle.tab_model.specs.Log.{has_session, count_after, commits_from}
use Rattle.tab_model.specs.State.{Transaction, Outbox, Watch, Session, Queued, State, new, session_at, level_in}
use Rattle.tab_model.specs.declared.ask.Ask.TheVariants.{Join, Leave, Retry, Take, Do as DoCommand}
use Rattle.tab_model.specs.Outcome.{Ask, Outcome, outcome, step_without_entry, with_transaction, with_changed, after_overflow, with_items, make, by_lock_answer, operate, retry_in, retry, begin, one_shot, abort, after_put, batch_to, end_to, without_deleted, commit, events_now, schema, put_marker, subscribe_refusal, do_command, give, leave, step_of_joined, fresh, step_of_stranger, step_of}
use Rattle.tab_model.proofs.StepCases.{within_limit, try_again, open_level_1, open_child, commit_at, schema_if, subscribe_refusal_if, subscribe_if, unsubscribe_if, command_if, join_if}
use Rattle.tab_model.specs.Run.{Call, outcome_of, after_all, entries, replies_of}
use Rattle.tab_model.specs.Callers.{Post, with_overflow, queue_after_step, age_after_step, post_after_entry, post_after_marker, post_after_command, post_after_answer, post_after_step, Observation, no_observation, entry_of_call, observe, observe_all, observation_of, AreObserved, IsAsObserved}
use Rattle.tab_model.proofs.SessionLists.{eq_true, found, session_at-change, session_at-push, session_at-without, session_at-map, mapped_some}
use Rattle.tab_model.proofs.SoundSteps.{given_same, unwatched_same}
use Rattle.tab_model.proofs.CallersLemmas.{IsObserved, new_observed, step_is_observed, step_observed}

abbrev post_of : Session → Post
post_of s = record { refusals = s.outbox.refusals; overflow = s.overflow }

-- a joined session's post is this one
abbrev HasPost : List Session → ℕ → Post → Type 0
HasPost sessions n p = (x : Session) → session_at sessions n ≡ Some x → post_of x ≡ p

-- a step leaves each post as callers tell
record IsPosted (σ : State) (m : ℕ) (a : Ask) (o : Outcome) : Type 0 where
  commits : o.state.commits ≡ commits_from σ.commits (entries o.entry)
  posts : (n : ℕ) (p : Post) → HasPost σ.sessions n p → HasPost o.state.sessions n (post_after_step n σ.commits m a o.reply o.entry p)

-- an entry that no post refuses
abbrev Quiet : ℕ → Option Entry → Type 0
Quiet commits e = (n : ℕ) (p : Post) → post_after_entry n commits e p ≡ p

-- an answer that tells nothing of its session's post
abbrev TellsNothing : Ask → Reply → Type 0
TellsNothing a r = (p : Post) → post_after_answer a r p ≡ p

-- of a command only a refused marker tells something
other_answer : (c : Command) (r : Reply) → ((p : Post) → post_after_marker r p ≡ p) → TellsNothing (DoCommand c) r
other_answer (command.Schema c) r h p = refl
other_answer (command.TableInfo t i) r h p = refl
other_answer command.Begin r h p = refl
other_answer command.Commit r h p = refl
other_answer (command.Abort reason) r h p = refl
other_answer (command.Do o) r h p = refl
other_answer (command.Subscribe t l dump) r h p = h p
other_answer (command.Unsubscribe t l) r h p = h p
other_answer (command.OneShot parts retries) r h p = refl

if_same : {A : Type 0} (b : Bool) (x y : A) → x ≡ y → (if b then x else y) ≡ y
if_same true x y e = e
if_same false x y e = refl

-- the sessions stay
stays_posted : (σ : State) (m : ℕ) (a : Ask) (o : Outcome) → o.state.sessions ≡ σ.sessions → o.state.commits ≡ σ.commits → o.entry ≡ None → TellsNothing a o.reply → IsPosted σ m a o
stays_posted σ m a o sessions commits none calm = record {
  commits = commits ∙ ap (λ e. commits_from σ.commits (entries e)) (sym none);
  posts = λ n p has x e. has x (ap (λ xs. session_at xs n) (sym sessions) ∙ e) ∙ sym (if_same (n == m) _ p (calm p)) ∙ ap (λ z. post_after_entry n σ.commits z (if n == m then post_after_answer a o.reply p else p)) (sym none);
}

nothing_posted : (σ : State) (m : ℕ) (a : Ask) (r : Reply) → TellsNothing a r → IsPosted σ m a (step_without_entry σ r)
nothing_posted σ m a r calm = stays_posted σ m a (step_without_entry σ r) refl refl refl calm

-- an item that a post is handed, and may refuse
given_post : (n commits : ℕ) (over : List ℕ) (items : List Item) (x : Session) → x.number ≡ n → post_of (after_put commits over items x) ≡ (if has_session over n then with_overflow commits (post_of x) else post_of x)
given_post n commits over items x num = cases (has_session over x.number) ∙ ap (λ k. if has_session over k then with_overflow commits (post_of x) else post_of x) num
  where
    cases : (b : Bool) → post_of (if b then after_overflow commits x else record x { outbox = with_items x.outbox items }) ≡ (if b then with_overflow commits (post_of x) else post_of x)
    cases true = refl
    cases false = refl

unwatched_post : (t : Option (List ℕ)) (x : Session) → post_of (without_deleted t x) ≡ post_of x
unwatched_post None x = refl
unwatched_post (Some t) x = refl

-- posts by their number through a map
mapped_posts : (f : Session → Session) → ((x : Session) → (f x).number ≡ x.number) → (g : Post → Post) (sessions : List Session) (n : ℕ) → ((x : Session) → x.number ≡ n → post_of (f x) ≡ g (post_of x)) → (p : Post) → HasPost sessions n p → HasPost (map f sessions) n (g p)
mapped_posts f number g sessions n same p has x e =
    let y = mapped_some f (session_at sessions n) x (sym (session_at-map f number sessions n) ∙ e) in
    ap post_of (sym y.2) ∙ same y.0 (found sessions y.0 n y.1) ∙ ap g (has y.0 y.1)

-- a joined session's step
module _ (σ : State) (s : Session) (here : session_at σ.sessions s.number ≡ Some s) where
  abbrev Posted : Ask → Outcome → Type 0
  Posted a o = IsPosted σ s.number a o

  changed_posts : (x : Session) (g : Post → Post) → x.number ≡ s.number → post_of x ≡ g (post_of s) → (n : ℕ) (p : Post) → HasPost σ.sessions n p → HasPost (with_changed σ.sessions x) n (if n == s.number then g p else p)
  changed_posts x g num own n p has y e = cases (n == s.number) refl (sym (session_at-change σ.sessions x s n (ap (session_at σ.sessions) num ∙ here) ∙ ap (λ k. if n == k then Some x else session_at σ.sessions n) num) ∙ e)
    where
      cases : (b : Bool) → (n == s.number) ≡ b → (if b then Some x else session_at σ.sessions n) ≡ Some y → post_of y ≡ (if b then g p else p)
      cases true k h = let same : x ≡ y = cc in ap post_of (sym same) ∙ own ∙ ap g (has s (ap (session_at σ.sessions) (eq_true n s.number k) ∙ here))
      cases false k h = has y h

  -- its session changes
  own_posted : (a : Ask) (o : Outcome) (x : Session) → o.state.sessions ≡ with_changed σ.sessions x → x.number ≡ s.number → post_of x ≡ post_after_answer a o.reply (post_of s) → o.state.commits ≡ commits_from σ.commits (entries o.entry) → Quiet σ.commits o.entry → Posted a o
  own_posted a o x sessions num own commits quiet = record {
    commits = commits;
    posts = λ n p has y e. changed_posts x (post_after_answer a o.reply) num own n p has y (ap (λ xs. session_at xs n) (sym sessions) ∙ e) ∙ sym (quiet n _);
  }

  decided_posted : (t : Transaction) (o : Operation) (a : Answer) → Posted (DoCommand (command.Do o)) (by_lock_answer σ s t o a)
  decided_posted t o Granted = own_posted _ (make σ s t (Do o) reply.Done) _ refl refl refl refl (λ n p. refl)
  decided_posted t o Wait = stays_posted σ s.number _ (by_lock_answer σ s t o Wait) refl refl refl (λ p. refl)
  decided_posted t o Die = own_posted _ (by_lock_answer σ s t o Die) _ refl refl refl refl (λ n p. refl)

  within_posted : (t : Transaction) (o : Operation) (b : Bool) → Posted (DoCommand (command.Do o)) (within_limit σ s t o b)
  within_posted t o false = nothing_posted σ s.number _ _ (λ p. refl)
  within_posted t o true = decided_posted t o _

  operate_posted : (o : Operation) (x : Option Transaction) → Posted (DoCommand (command.Do o)) (operate σ s o x)
  operate_posted o None = nothing_posted σ s.number _ _ (λ p. refl)
  operate_posted o (Some t) = within_posted t o _

  retried_posted : (t : Transaction) (o : Operation) (b : Bool) → Posted Retry (try_again σ s t o b)
  retried_posted t o false = nothing_posted σ s.number Retry _ (λ p. refl)
  retried_posted t o true = own_posted Retry (try_again σ s t o true) _ refl refl refl refl (λ n p. refl)

  retry_in_posted : (o : Operation) (x : Option Transaction) → Posted Retry (retry_in σ s o x)
  retry_in_posted o None = nothing_posted σ s.number Retry _ (λ p. refl)
  retry_in_posted o (Some t) = retried_posted t o _

  retry_posted : (q : Option Queued) → Posted Retry (retry σ s q)
  retry_posted None = nothing_posted σ s.number Retry _ (λ p. refl)
  retry_posted (Some q) = retry_in_posted q.operation s.transaction

  opened_posted : (a : Ask) (b : Bool) → ((r : Reply) → TellsNothing a r) → Posted a (open_level_1 σ s b)
  opened_posted a false calm = nothing_posted σ s.number a _ (calm _)
  opened_posted a true calm = own_posted a (open_level_1 σ s true) _ refl refl (sym (calm _ _)) refl (λ n p. refl)

  nested_posted : (t : Transaction) (a b : Bool) → Posted (DoCommand command.Begin) (open_child σ s t a b)
  nested_posted t false b = nothing_posted σ s.number _ _ (λ p. refl)
  nested_posted t true false = nothing_posted σ s.number _ _ (λ p. refl)
  nested_posted t true true = own_posted _ (make σ s t Open reply.Done) _ refl refl refl refl (λ n p. refl)

  begin_posted : (x : Option Transaction) → Posted (DoCommand command.Begin) (begin σ s x)
  begin_posted None = opened_posted _ _ (λ r p. refl)
  begin_posted (Some t) = nested_posted t _ _

  abort_posted : (r : Term) (x : Option Transaction) → Posted (DoCommand (command.Abort r)) (abort σ s r x)
  abort_posted r None = nothing_posted σ s.number _ _ (λ p. refl)
  abort_posted r (Some t) = own_posted _ (abort σ s r (Some t)) _ refl refl refl refl (λ n p. refl)

  -- an outermost commit: its own session, and then who refuses
  commit_at_posted : (over : List ℕ) (t : Transaction) (b : Bool) → Posted (DoCommand command.Commit) (commit_at σ over s t b)
  commit_at_posted over t false = own_posted _ (make σ s t Close reply.Done) _ refl refl refl refl (λ n p. refl)
  commit_at_posted over t true = record {
    commits = refl;
    posts = λ n p has. mapped_posts f (λ x. (given_same (σ.commits + 1) over (batch_to (σ.commits + 1) (events_now σ t) x) x).0) (λ q. if has_session over n then with_overflow (σ.commits + 1) q else q) (with_changed σ.sessions (with_transaction s None)) n
        (λ x num. given_post n (σ.commits + 1) over (batch_to (σ.commits + 1) (events_now σ t) x) x num) _ (changed_posts (with_transaction s None) (λ q. q) refl refl n p has);
  }
    where
      f : Session → Session
      f x = after_put (σ.commits + 1) over (batch_to (σ.commits + 1) (events_now σ t) x) x

  commit_posted : (over : List ℕ) (x : Option Transaction) → Posted (DoCommand command.Commit) (commit σ over s x)
  commit_posted over None = nothing_posted σ s.number _ _ (λ p. refl)
  commit_posted over (Some t) = commit_at_posted over t _

  schema_if_posted : (over : List ℕ) (c : Schema) (r : Option Reply) (busy room : Bool) → Posted (DoCommand (command.Schema c)) (schema_if σ over c r busy room)
  schema_if_posted over c (Some r) busy room = nothing_posted σ s.number _ r (λ p. refl)
  schema_if_posted over c None true room = nothing_posted σ s.number _ _ (λ p. refl)
  schema_if_posted over c None false false = nothing_posted σ s.number _ _ (λ p. refl)
  schema_if_posted over c None false true = record {
    commits = refl;
    posts = λ n p has x e. mapped_posts f number (λ q. if has_session over n then with_overflow (σ.commits + 1) q else q) σ.sessions n
        (λ y num. given_post n (σ.commits + 1) over (end_to (removed_table c) y) (without_deleted (removed_table c) y) ((unwatched_same (removed_table c) y).0 ∙ num) ∙ ap (λ q. if has_session over n then with_overflow (σ.commits + 1) q else q) (unwatched_post (removed_table c) y)) p has x e
        ∙ ap (λ q. if has_session over n then with_overflow (σ.commits + 1) q else q) (sym (if_same (n == s.number) p p refl));
  }
    where
      f : Session → Session
      f x = after_put (σ.commits + 1) over (end_to (removed_table c) x) (without_deleted (removed_table c) x)

      number : (x : Session) → (f x).number ≡ x.number
      number x = (given_same (σ.commits + 1) over (end_to (removed_table c) x) (without_deleted (removed_table c) x)).0 ∙ (unwatched_same (removed_table c) x).0

  schema_posted : (over : List ℕ) (c : Schema) (x : Option Transaction) → Posted (DoCommand (command.Schema c)) (schema σ over c x)
  schema_posted over c (Some t) = nothing_posted σ s.number _ _ (λ p. refl)
  schema_posted over c None = schema_if_posted over c _ _ _

  -- a marker that its post takes or refuses
  marked_posted : (c : Command) (full : Bool) (ws : List Watch) (x : Item) (e : Entry) → ((r : Reply) (p : Post) → post_after_command c r p ≡ post_after_marker r p) → commits_from σ.commits (e ∷ []) ≡ σ.commits → Quiet σ.commits (Some e) → Posted (DoCommand c) (put_marker σ full s ws x e)
  marked_posted c true ws x e marks commits quiet = own_posted _ (put_marker σ true s ws x e) _ refl refl (sym (marks _ _)) refl (λ n p. refl)
  marked_posted c false ws x e marks commits quiet = own_posted _ (put_marker σ false s ws x e) _ refl refl (sym (marks _ _)) (sym commits) quiet

  -- what refuses a subscription but its post
  abbrev Marks : Option Reply → Type 0
  Marks None = Unit {0}
  Marks (Some r) = (p : Post) → post_after_marker r p ≡ p

  refusal_marks : (t : List ℕ) → Marks (subscribe_refusal σ s t)
  refusal_marks t = cases (is_some s.overflow) (is_some (find σ.tables t)) (is_some (level_in s.watching t))
    where
      cases : (a b c : Bool) → Marks (subscribe_refusal_if t a (not b) c)
      cases true b c = λ p. refl
      cases false false c = λ p. refl
      cases false true true = λ p. refl
      cases false true false = tt

  subscribe_posted : (over : List ℕ) (t : List ℕ) (l : Level) (dump : Bool) (r : Option Reply) → Marks r → Posted (DoCommand (command.Subscribe t l dump)) (subscribe_if σ over s t l dump r)
  subscribe_posted over t l dump (Some r) calm = nothing_posted σ s.number _ r calm
  subscribe_posted over t l dump None calm = marked_posted (command.Subscribe t l dump) _ _ _ (Subscribed s.number t l dump) (λ r p. refl) refl (λ n p. refl)

  unsubscribe_posted : (over : List ℕ) (t : List ℕ) (l : Level) (b : Bool) → Posted (DoCommand (command.Unsubscribe t l)) (unsubscribe_if σ over s t b)
  unsubscribe_posted over t l false = nothing_posted σ s.number _ _ (λ p. refl)
  unsubscribe_posted over t l true = marked_posted (command.Unsubscribe t l) _ _ _ (Unsubscribed s.number t) (λ r p. refl) refl (λ n p. refl)

  do_posted : (over : List ℕ) (c : Command) → Posted (DoCommand c) (do_command σ over s c)
  do_posted over (command.Schema c) = schema_posted over c s.transaction
  do_posted over (command.TableInfo t i) = nothing_posted σ s.number _ _ (λ p. refl)
  do_posted over command.Begin = begin_posted s.transaction
  do_posted over command.Commit = commit_posted over s.transaction
  do_posted over (command.Abort r) = abort_posted r s.transaction
  do_posted over (command.Do o) = operate_posted o s.transaction
  do_posted over (command.Subscribe t l dump) = subscribe_posted over t l dump _ (refusal_marks t)
  do_posted over (command.Unsubscribe t l) = unsubscribe_posted over t l _
  do_posted over (command.OneShot parts retries) = cases s.transaction
    where
      cases : (x : Option Transaction) → Posted (DoCommand (command.OneShot parts retries)) (one_shot σ s x)
      cases None = opened_posted _ _ (λ r p. refl)
      cases (Some t) = nothing_posted σ s.number _ _ (λ p. refl)

  command_posted : (over : List ℕ) (c : Command) (b : Bool) → Posted (DoCommand c) (command_if σ over s c b)
  command_posted over c true = nothing_posted σ s.number _ _ (other_answer c reply.WaitingNow (λ p. refl))
  command_posted over c false = do_posted over c

  give_posted : (xs : List Item) (l : Option ℕ) → Posted Take (give σ s xs l)
  give_posted (x ∷ xs) l = own_posted Take (give σ s (x ∷ xs) l) _ refl refl refl refl (λ n p. refl)
  give_posted [] None = nothing_posted σ s.number Take _ (λ p. refl)
  give_posted [] (Some i) = own_posted Take (give σ s [] (Some i)) _ refl refl refl refl (λ n p. refl)

  leave_posted : Posted Leave (leave σ s)
  leave_posted = record { commits = refl; posts = λ n p has x e. cases n p has x (n == s.number) (sym (session_at-without σ.sessions s.number n) ∙ e) }
    where
      cases : (n : ℕ) (p : Post) → HasPost σ.sessions n p → (x : Session) (b : Bool) → (if b then None else session_at σ.sessions n) ≡ Some x → post_of x ≡ (if b then p else p)
      cases n p has x true e = cc
      cases n p has x false e = has x e

  seated_posted : (over : List ℕ) (a : Ask) → Posted a (step_of_joined σ over s a)
  seated_posted over (Join b) = nothing_posted σ s.number _ _ (λ p. refl)
  seated_posted over Leave = leave_posted
  seated_posted over Retry = retry_posted _
  seated_posted over Take = give_posted _ _
  seated_posted over (DoCommand c) = command_posted over c _

-- one that is not joined
join_posted : (σ : State) (m : ℕ) (b : Outbox) (above room : Bool) → session_at σ.sessions m ≡ None → IsPosted σ m (Join b) (join_if σ m b above room)
join_posted σ m b false room none = nothing_posted σ m _ _ (λ p. refl)
join_posted σ m b true false none = nothing_posted σ m _ _ (λ p. refl)
join_posted σ m b true true none = record { commits = refl; posts = λ n p has x e. cases n p has x (n == m) (sym (session_at-push σ.sessions (fresh m b) n none) ∙ e) }
  where
    cases : (n : ℕ) (p : Post) → HasPost σ.sessions n p → (x : Session) (c : Bool) → (if c then Some (fresh m b) else session_at σ.sessions n) ≡ Some x → post_of x ≡ (if c then post_of (fresh m b) else p)
    cases n p has x true e = let same : fresh m b ≡ x = cc in ap post_of (sym same)
    cases n p has x false e = has x e

unseated_posted : (σ : State) (m : ℕ) (a : Ask) → session_at σ.sessions m ≡ None → IsPosted σ m a (step_of_stranger σ m a)
unseated_posted σ m (Join b) none = join_posted σ m b _ _ none
unseated_posted σ m Leave none = nothing_posted σ m Leave _ (λ p. refl)
unseated_posted σ m Retry none = nothing_posted σ m Retry _ (λ p. refl)
unseated_posted σ m Take none = nothing_posted σ m Take _ (λ p. refl)
unseated_posted σ m (DoCommand c) none = nothing_posted σ m _ _ (other_answer c reply.BadSession (λ p. refl))

-- ---- steps and schedules

step_posted : (σ : State) (over : List ℕ) (m : ℕ) (a : Ask) → IsPosted σ m a (outcome σ over m a)
unfolding outcome
step_posted σ over m a = cases (session_at σ.sessions m) refl
  where
    cases : (o : Option Session) → session_at σ.sessions m ≡ o → IsPosted σ m a (step_of σ over m a o)
    cases None none = unseated_posted σ m a none
    cases (Some s) here = subst (λ (k : ℕ). IsPosted σ k a (step_of_joined σ over s a)) (found σ.sessions s m here) (seated_posted σ s (ap (session_at σ.sessions) (found σ.sessions s m here) ∙ here) over a)

commits_from-append : (c : ℕ) (xs ys : List Entry) → commits_from (commits_from c xs) ys ≡ commits_from c (xs ++ ys)
commits_from-append c [] ys = refl
commits_from-append c (x ∷ xs) ys = commits_from-append (count_after c x) xs ys

told_post : (σ : State) (h : Observation) → IsAsObserved σ h → (n : ℕ) → HasPost σ.sessions n (h.posts n)
told_post σ h told n x e = λ i. record { refusals = told.refusals n x e i; overflow = told.overflow n x e i }

-- a state that is as callers tell it stays so
step_as_told : (σ : State) (h : Observation) (c : Call) → IsAsObserved σ h → IsAsObserved (outcome_of σ c).state (observe h c (outcome_of σ c).reply)
step_as_told σ h c told = record {
  callers = one.0;
  commits = posted.commits
      ∙ (λ i. commits_from (told.commits i) (entries (sym one.1 i)))
      ∙ commits_from-append 0 h.log (entries (entry_of_call h c r));
  queue = sym observed.queue ∙ ap (λ qs. queue_after_step c.session (h.callers c.session) c.ask r qs) told.queue;
  next_age = sym observed.next ∙ ap (λ a. age_after_step (h.callers c.session) c.ask r a) told.next_age;
  overflow = λ n s e. ap (λ (p : Post). p.overflow) (post n s e);
  refusals = λ n s e. ap (λ (p : Post). p.refusals) (post n s e);
}
  where
    r : Reply
    r = (outcome_of σ c).reply

    τ : State
    τ = (outcome_of σ c).state

    one : AreObserved τ (observe h c r).callers × (entry_of_call h c r ≡ (outcome_of σ c).entry)
    one = step_observed σ h c told.callers

    observed : IsObserved σ c.session (h.callers c.session) c.over c.ask (outcome_of σ c)
    observed = step_is_observed σ c.over c.session c.ask h.callers told.callers

    posted : IsPosted σ c.session c.ask (outcome_of σ c)
    posted = step_posted σ c.over c.session c.ask

    post : (n : ℕ) → HasPost τ.sessions n ((observe h c r).posts n)
    post n = subst (λ (e : Option Entry). HasPost τ.sessions n (post_after_step n (commits_from 0 h.log) c.session c.ask r e (h.posts n))) (sym one.1)
        (subst (λ (i : ℕ). HasPost τ.sessions n (post_after_step n i c.session c.ask r (outcome_of σ c).entry (h.posts n))) told.commits
        (posted.posts n (h.posts n) (told_post σ h told n)))

run_as_told : (σ : State) (h : Observation) (calls : List Call) → IsAsObserved σ h → IsAsObserved (after_all σ calls) (observe_all h calls (replies_of σ calls))
run_as_told σ h [] told = told
run_as_told σ h (c ∷ calls) told = run_as_told (outcome_of σ c).state (observe h c (outcome_of σ c).reply) calls (step_as_told σ h c told)

-- for every schedule the state is as its callers tell it
pub schedule_as_told : (limits : Limits) (calls : List Call) → IsAsObserved (after_all (new limits) calls) (observation_of limits calls)
schedule_as_told limits calls =
    run_as_told (new limits) no_observation calls (record { callers = new_observed limits; commits = refl; queue = refl; next_age = refl; overflow = λ n s e. cc; refusals = λ n s e. cc })

-- a Take tells the overflow that its session has
take_tells : (σ : State) (over : List ℕ) (n i : ℕ) → (outcome σ over n Take).reply ≡ reply.Overflow i → (s : Session) × (session_at σ.sessions n ≡ Some s) × (s.overflow ≡ Some i)
unfolding outcome
take_tells σ over n i = cases (session_at σ.sessions n) refl
  where
    by_items : (s : Session) (xs : List Item) (l : Option ℕ) → s.overflow ≡ l → (give σ s xs l).reply ≡ reply.Overflow i → s.overflow ≡ Some i
    by_items s (x ∷ xs) l e h = cc
    by_items s [] None e h = cc
    by_items s [] (Some m) e h = let same : m ≡ i = cc in e ∙ ap (λ (k : ℕ). Some k) same

    cases : (o : Option Session) → session_at σ.sessions n ≡ o → (step_of σ over n Take o).reply ≡ reply.Overflow i → (s : Session) × (session_at σ.sessions n ≡ Some s) × (s.overflow ≡ Some i)
    cases None e h = cc
    cases (Some s) e h = (s, e, by_items s _ _ refl h)

-- so what a Take is told is what callers tell
pub schedule_told_overflow : (limits : Limits) (calls : List Call) (over : List ℕ) (n i : ℕ) → (outcome (after_all (new limits) calls) over n Take).reply ≡ reply.Overflow i → ((observation_of limits calls).posts n).overflow ≡ Some i
schedule_told_overflow limits calls over n i told =
    let t = take_tells (after_all (new limits) calls) over n i told in
    sym ((schedule_as_told limits calls).overflow n t.0 t.1) ∙ t.2
