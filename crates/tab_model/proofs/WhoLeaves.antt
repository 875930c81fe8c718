-- A session that left takes nothing more, and never sits again.
use Rattle.std.proofs.Common.{◌≡◌, ℕ, ◌+◌, ◌<◌, ◌≤◌, List, [], ◌∷◌, ◌++◌, Bool, true, false, refl, sym, ap, ◌∙◌, subst, arith, append-nil, append_assoc, Option, Some, None}
use Rattle.std.specs.Prelude.{◌==◌, if◌then◌else◌, nat_lt, map, length}
use Rattle.std.proofs.lemmas.Bool.Decides.{nat_tests}
use Rattle.tab_term.specs.declared.term.Term.{Term}
use Rattle.tab_model.specs.declared.data.Operation.{Operation}
use Rattle.tab_model.specs.declared.data.Move.TheVariants.{Do, Open, Close}
use Rattle.tab_model.specs.declared.data.Reply.{Reply}
use Rattle.tab_model.specs.declared.data.Reply.TheVariants as reply
use Rattle.tab_model.specs.declared.data.Item.{Item}
use Rattle.tab_model.specs.declared.data.Level.{Level}
use Rattle.tab_model.specs.declared.data.Entry.{Entry}
use Rattle.tab_model.specs.declared.data.Limits.{Limits}
use Rattle.tab_model.specs.declared.data.Schema.{Schema}
use Rattle.tab_model.specs.declared.data.Command.{Command}
use Rattle.tab_model.specs.declared.data.Command.TheVariants as command
use Rattle.tab_model.specs.Ages.{Answer, Granted, Wait, Die}
use Rattle.tab_model.specs.Schemas.{removed_table}
use Rattle.tab_model.specs.Slices.{slice}
use Rattle.tab_model.specs.State.{Transaction, Outbox, Watch, Session, Queued, State, new, session_at}
use Rattle.tab_model.specs.declared.ask.Ask.TheVariants.{Join, Leave, Retry, Take, Do as DoCommand}
use Rattle.tab_model.specs.Outcome.{Ask, outcome, with_transaction, with_changed, make, by_lock_answer, operate, retry_in, retry, begin, one_shot, abort, after_put, batch_to, end_to, without_deleted, commit, events_now, schema, put_marker, do_command, give, step_of_joined, fresh, step_of_stranger, step_of}
use Rattle.tab_model.proofs.StepCases.{within_limit, try_again, open_level_1, open_child, commit_at, schema_if, subscribe_if, unsubscribe_if, command_if, join_if}
use Rattle.tab_model.specs.Run.{Call, outcome_of, after_all, log_of, delivered_by, delivered_to, item_of, AllJoinEmpty, Begins, leave_call}
use Rattle.tab_model.proofs.SessionLists.{eq_true, found, session_at-map, mapped, session_at-without, itself}
use Rattle.tab_model.proofs.StepsBySession.{change_none, without_none, push_none}
use Rattle.tab_model.proofs.SoundSteps.{given_same, unwatched_same}
use Rattle.tab_model.proofs.Schedules.{run_sound, new_sound, schedule_rows}

-- no session, and a number that has joined
pub record IsGone (n : ℕ) (σ : State) : Type 0 where
  pub none : session_at σ.sessions n ≡ None
  pub joined : n ≤ σ.greatest

none_mapped : (f : Session → Session) → ((s : Session) → (f s).number ≡ s.number) → (sessions : List Session) (n : ℕ) → session_at sessions n ≡ None → session_at (map f sessions) n ≡ None
unfolding mapped
none_mapped f h sessions n e = session_at-map f h sessions n ∙ ap (mapped f) e

module _ (n : ℕ) (σ : State) (s : Session) (gone : IsGone n σ) where
  changed_gone : (x : Session) (τ : State) → τ.sessions ≡ with_changed σ.sessions x → τ.greatest ≡ σ.greatest → IsGone n τ
  changed_gone x τ e g = record { none = ap (λ (xs : List Session). session_at xs n) e ∙ change_none σ.sessions x n gone.none; joined = subst (λ (k : ℕ). n ≤ k) (sym g) gone.joined }

  decided_gone : (t : Transaction) (o : Operation) (a : Answer) → IsGone n (by_lock_answer σ s t o a).state
  decided_gone t o Granted = changed_gone _ (make σ s t (Do o) reply.Done).state refl refl
  decided_gone t o Wait = record { none = gone.none; joined = gone.joined }
  decided_gone t o Die = changed_gone _ (by_lock_answer σ s t o Die).state refl refl

  within_gone : (t : Transaction) (o : Operation) (b : Bool) → IsGone n (within_limit σ s t o b).state
  within_gone t o false = gone
  within_gone t o true = decided_gone t o _

  operate_gone : (o : Operation) (x : Option Transaction) → IsGone n (operate σ s o x).state
  operate_gone o None = gone
  operate_gone o (Some t) = within_gone t o _

  retried_gone : (t : Transaction) (o : Operation) (b : Bool) → IsGone n (try_again σ s t o b).state
  retried_gone t o false = gone
  retried_gone t o true = changed_gone _ (try_again σ s t o true).state refl refl

  retry_in_gone : (o : Operation) (x : Option Transaction) → IsGone n (retry_in σ s o x).state
  retry_in_gone o None = gone
  retry_in_gone o (Some t) = retried_gone t o _

  retry_gone : (q : Option Queued) → IsGone n (retry σ s q).state
  retry_gone None = gone
  retry_gone (Some q) = retry_in_gone q.operation s.transaction

  opened_gone : (b : Bool) → IsGone n (open_level_1 σ s b).state
  opened_gone false = gone
  opened_gone true = changed_gone _ (open_level_1 σ s true).state refl refl

  nested_gone : (t : Transaction) (a b : Bool) → IsGone n (open_child σ s t a b).state
  nested_gone t false b = gone
  nested_gone t true false = gone
  nested_gone t true true = changed_gone _ (make σ s t Open reply.Done).state refl refl

  begin_gone : (x : Option Transaction) → IsGone n (begin σ s x).state
  begin_gone None = opened_gone _
  begin_gone (Some t) = nested_gone t _ _

  one_shot_gone : (x : Option Transaction) → IsGone n (one_shot σ s x).state
  one_shot_gone None = opened_gone _
  one_shot_gone (Some t) = gone

  abort_gone : (r : Term) (x : Option Transaction) → IsGone n (abort σ s r x).state
  abort_gone r None = gone
  abort_gone r (Some t) = changed_gone _ (abort σ s r (Some t)).state refl refl

  commit_at_gone : (over : List ℕ) (t : Transaction) (b : Bool) → IsGone n (commit_at σ over s t b).state
  commit_at_gone over t false = changed_gone _ (make σ s t Close reply.Done).state refl refl
  commit_at_gone over t true = record {
    none = none_mapped (λ x. after_put (σ.commits + 1) over (batch_to (σ.commits + 1) (events_now σ t) x) x) (λ x. (given_same (σ.commits + 1) over (batch_to (σ.commits + 1) (events_now σ t) x) x).0)
        (with_changed σ.sessions (with_transaction s None)) n (change_none σ.sessions (with_transaction s None) n gone.none);
    joined = gone.joined;
  }

  commit_gone : (over : List ℕ) (x : Option Transaction) → IsGone n (commit σ over s x).state
  commit_gone over None = gone
  commit_gone over (Some t) = commit_at_gone over t _

  schema_if_gone : (over : List ℕ) (c : Schema) (r : Option Reply) (busy room : Bool) → IsGone n (schema_if σ over c r busy room).state
  schema_if_gone over c (Some r) busy room = gone
  schema_if_gone over c None true room = gone
  schema_if_gone over c None false false = gone
  schema_if_gone over c None false true = record {
    none = none_mapped (λ x. after_put (σ.commits + 1) over (end_to (removed_table c) x) (without_deleted (removed_table c) x))
        (λ x. (given_same (σ.commits + 1) over (end_to (removed_table c) x) (without_deleted (removed_table c) x)).0 ∙ (unwatched_same (removed_table c) x).0) σ.sessions n gone.none;
    joined = gone.joined;
  }

  schema_gone : (over : List ℕ) (c : Schema) (x : Option Transaction) → IsGone n (schema σ over c x).state
  schema_gone over c (Some t) = gone
  schema_gone over c None = schema_if_gone over c _ _ _

  marked_gone : (full : Bool) (ws : List Watch) (x : Item) (e : Entry) → IsGone n (put_marker σ full s ws x e).state
  marked_gone true ws x e = changed_gone _ (put_marker σ true s ws x e).state refl refl
  marked_gone false ws x e = changed_gone _ (put_marker σ false s ws x e).state refl refl

  subscribe_gone : (over : List ℕ) (t : List ℕ) (l : Level) (dump : Bool) (r : Option Reply) → IsGone n (subscribe_if σ over s t l dump r).state
  subscribe_gone over t l dump (Some r) = gone
  subscribe_gone over t l dump None = marked_gone _ _ _ _

  unsubscribe_gone : (over : List ℕ) (t : List ℕ) (b : Bool) → IsGone n (unsubscribe_if σ over s t b).state
  unsubscribe_gone over t false = gone
  unsubscribe_gone over t true = marked_gone _ _ _ _

  do_gone : (over : List ℕ) (c : Command) → IsGone n (do_command σ over s c).state
  do_gone over (command.Schema c) = schema_gone over c s.transaction
  do_gone over (command.TableInfo t i) = gone
  do_gone over command.Begin = begin_gone s.transaction
  do_gone over command.Commit = commit_gone over s.transaction
  do_gone over (command.Abort r) = abort_gone r s.transaction
  do_gone over (command.Do o) = operate_gone o s.transaction
  do_gone over (command.Subscribe t l dump) = subscribe_gone over t l dump _
  do_gone over (command.Unsubscribe t l) = unsubscribe_gone over t _
  do_gone over (command.OneShot parts retries) = one_shot_gone s.transaction

  command_gone : (over : List ℕ) (c : Command) (b : Bool) → IsGone n (command_if σ over s c b).state
  command_gone over c true = gone
  command_gone over c false = do_gone over c

  give_gone : (xs : List Item) (l : Option ℕ) → IsGone n (give σ s xs l).state
  give_gone (x ∷ xs) l = changed_gone _ (give σ s (x ∷ xs) l).state refl refl
  give_gone [] None = gone
  give_gone [] (Some m) = changed_gone _ (give σ s [] (Some m)).state refl refl

  seated_gone : (over : List ℕ) (a : Ask) → IsGone n (step_of_joined σ over s a).state
  seated_gone over (Join b) = gone
  seated_gone over Leave = record { none = without_none σ.sessions s.number n gone.none; joined = gone.joined }
  seated_gone over Retry = retry_gone _
  seated_gone over Take = give_gone _ _
  seated_gone over (DoCommand c) = command_gone over c _

-- others may join; a number that has joined can't
join_gone : (n : ℕ) (σ : State) (m : ℕ) (b : Outbox) (above room : Bool) → nat_lt σ.greatest m ≡ above → IsGone n σ → IsGone n (join_if σ m b above room).state
join_gone n σ m b false room e gone = gone
join_gone n σ m b true false e gone = gone
join_gone n σ m b true true e gone = let lt = below σ.greatest m e in let le = gone.joined in record { none = push_none σ.sessions (fresh m b) n gone.none (other m n (omega (arith, lt, le))); joined = omega (arith, lt, le) }
  where
    below : (g m : ℕ) → nat_lt g m ≡ true → g < m
    below g m h = grind (arith, nat_tests)

    other : (m n : ℕ) → n < m → (m == n) ≡ false
    other m n h = grind (arith, nat_tests)

unseated_gone : (n : ℕ) (σ : State) (m : ℕ) (a : Ask) → IsGone n σ → IsGone n (step_of_stranger σ m a).state
unseated_gone n σ m (Join b) gone = join_gone n σ m b _ _ refl gone
unseated_gone n σ m Leave gone = gone
unseated_gone n σ m Retry gone = gone
unseated_gone n σ m Take gone = gone
unseated_gone n σ m (DoCommand c) gone = gone

pub step_gone : (n : ℕ) (σ : State) (over : List ℕ) (m : ℕ) (a : Ask) → IsGone n σ → IsGone n (outcome σ over m a).state
unfolding outcome
step_gone n σ over m a gone = cases (session_at σ.sessions m)
  where
    cases : (o : Option Session) → IsGone n (step_of σ over m a o).state
    cases None = unseated_gone n σ m a gone
    cases (Some s) = seated_gone n σ s gone over a

-- who has no session takes nothing
unseated_takes : (σ : State) (m : ℕ) (a : Ask) → item_of (step_of_stranger σ m a).reply ≡ []
unseated_takes σ m (Join b) = cases (nat_lt σ.greatest m) (nat_lt (length σ.sessions) σ.limits.sessions)
  where
    cases : (x y : Bool) → item_of (join_if σ m b x y).reply ≡ []
    cases false y = refl
    cases true false = refl
    cases true true = refl
unseated_takes σ m Leave = refl
unseated_takes σ m Retry = refl
unseated_takes σ m Take = refl
unseated_takes σ m (DoCommand c) = refl

step_takes : (n : ℕ) (σ : State) (over : List ℕ) (m : ℕ) (a : Ask) → IsGone n σ → delivered_by n m (outcome σ over m a).reply ≡ []
unfolding outcome
step_takes n σ over m a gone = cases (n == m) refl
  where
    cases : (b : Bool) → (n == m) ≡ b → (if b then item_of (step_of σ over m a (session_at σ.sessions m)).reply else []) ≡ []
    cases false e = refl
    cases true e = ap (λ (o : Option Session). item_of (step_of σ over m a o).reply) (ap (session_at σ.sessions) (sym (eq_true n m e)) ∙ gone.none) ∙ unseated_takes σ m a

gone_takes : (n : ℕ) (σ : State) (calls : List Call) → IsGone n σ → delivered_to n σ calls ≡ []
gone_takes n σ [] gone = refl
gone_takes n σ (c ∷ calls) gone = λ i. step_takes n σ c.over c.session c.ask gone i ++ gone_takes n (outcome_of σ c).state calls (step_gone n σ c.over c.session c.ask gone) i

taken-append : (n : ℕ) (σ : State) (xs ys : List Call) → delivered_to n σ (xs ++ ys) ≡ delivered_to n σ xs ++ delivered_to n (after_all σ xs) ys
taken-append n σ [] ys = refl
taken-append n σ (c ∷ xs) ys = ap (λ zs. delivered_by n c.session (outcome_of σ c).reply ++ zs) (taken-append n (outcome_of σ c).state xs ys) ∙ sym (append_assoc (delivered_by n c.session (outcome_of σ c).reply) _ _)

nothing_taken : (b : Bool) (xs : List Item) → xs ≡ [] → (if b then xs else []) ≡ []
nothing_taken true xs h = h
nothing_taken false xs h = refl

-- after its Leave
left : (σ : State) (n : ℕ) (s : Session) → session_at σ.sessions n ≡ Some s → n ≤ σ.greatest → IsGone n (outcome_of σ (leave_call n)).state × (delivered_by n n (outcome_of σ (leave_call n)).reply ≡ [])
unfolding outcome
left σ n s here le = subst (λ (o : Option Session). IsGone n (step_of σ [] n Leave o).state × (delivered_by n n (step_of σ [] n Leave o).reply ≡ [])) (sym here)
    (record { none = session_at-without σ.sessions s.number n ∙ ap (λ b. if b then None else session_at σ.sessions n) (ap (λ k. n == k) (found σ.sessions s n here) ∙ itself n); joined = le }, nothing_taken (n == n) [] refl)

-- a joined session has taken a beginning of its slice
pub joined_begins : (limits : Limits) (calls : List Call) (n : ℕ) (s : Session) → AllJoinEmpty calls → session_at (after_all (new limits) calls).sessions n ≡ Some s → Begins (delivered_to n (new limits) calls) (slice n (log_of (new limits) calls))
joined_begins limits calls n s empty here = record { rest = s.outbox.items; is = schedule_rows limits calls n s empty here }

-- and one that left, whatever came after its Leave, a beginning of its slice at that moment
pub left_begins : (limits : Limits) (calls later : List Call) (n : ℕ) (s : Session) → AllJoinEmpty calls → session_at (after_all (new limits) calls).sessions n ≡ Some s
    → Begins (delivered_to n (new limits) (calls ++ leave_call n ∷ later)) (slice n (log_of (new limits) calls))
left_begins limits calls later n s empty here =
    subst (λ (xs : List Item). Begins xs (slice n (log_of (new limits) calls))) (sym no_more) (joined_begins limits calls n s empty here)
  where
    σ : State
    σ = after_all (new limits) calls

    gone : IsGone n (outcome_of σ (leave_call n)).state × (delivered_by n n (outcome_of σ (leave_call n)).reply ≡ [])
    gone = left σ n s here ((run_sound (new limits) calls (new_sound limits)).joined n s here)

    no_more : delivered_to n (new limits) (calls ++ leave_call n ∷ later) ≡ delivered_to n (new limits) calls
    no_more = taken-append n (new limits) calls (leave_call n ∷ later)
        ∙ ap (λ xs. delivered_to n (new limits) calls ++ xs) (λ i. gone.1 i ++ gone_takes n (outcome_of σ (leave_call n)).state later gone.0 i)
        ∙ append-nil (delivered_to n (new limits) calls)
