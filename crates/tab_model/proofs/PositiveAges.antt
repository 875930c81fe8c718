-- Ages are from 1 on: of open transactions, and of each commit in the log of a schedule.
use Rattle.std.proofs.Common.{◌≡◌, ℕ, ◌+◌, ◌<◌, List, [], ◌∷◌, ◌++◌, Bool, true, false, not, refl, sym, ◌∙◌, subst, arith, Option, Some, None}
use Rattle.std.specs.Prelude.{◌==◌, if◌then◌else◌, map}
use Rattle.tab_term.specs.declared.term.Term.{Term}
use Rattle.tab_model.specs.declared.data.Operation.{Operation}
use Rattle.tab_model.specs.declared.data.Move.{Move}
use Rattle.tab_model.specs.declared.data.Move.TheVariants.{Do, Open, Close, Undo}
use Rattle.tab_model.specs.declared.data.Reply.{Reply}
use Rattle.tab_model.specs.declared.data.Reply.TheVariants as reply
use Rattle.tab_model.specs.declared.data.Item.{Item}
use Rattle.tab_model.specs.declared.data.Level.{Level}
use Rattle.tab_model.specs.declared.data.Limits.{Limits}
use Rattle.tab_model.specs.declared.data.Schema.{Schema}
use Rattle.tab_model.specs.declared.data.Entry.{Entry}
use Rattle.tab_model.specs.declared.data.Entry.TheVariants.{Subscribed, Unsubscribed}
use Rattle.tab_model.specs.declared.data.Command.{Command}
use Rattle.tab_model.specs.declared.data.Command.TheVariants as command
use Rattle.tab_model.specs.Ages.{Answer, Granted, Wait, Die}
use Rattle.tab_model.specs.Schemas.{removed_table}
use Rattle.tab_model.specs.Alone.{reply_to}
use Rattle.tab_model.specs.Since.{HasAge, AllAged}
use Rattle.tab_model.specs.State.{Transaction, Watch, Session, Queued, State, new, session_at, mid_of}
use Rattle.tab_model.specs.Reached.{IsAged, AreAged}
use Rattle.tab_model.specs.declared.ask.Ask.TheVariants.{Join, Leave, Retry, Take, Do as DoCommand}
use Rattle.tab_model.specs.Outcome.{Ask, Outcome, outcome, with_transaction, with_changed, without_session, ends_transaction, by_lock_answer, operate, retry_in, retry, begin, one_shot, abort, after_put, batch_to, end_to, without_deleted, commit, events_now, schema, put_marker, give, step_of_joined, fresh, step_of_stranger, step_of}
use Rattle.tab_model.proofs.StepCases.{after_move, within_limit, try_again, open_level_1, open_child, commit_at, schema_if, subscribe_if, unsubscribe_if, command_if, join_if}
use Rattle.tab_model.specs.Run.{Call, outcome_of, entries, log_of}
use Rattle.tab_model.proofs.SoundSteps.{given_same, unwatched_same}

pub record Ripe (σ : State) : Type 0 where
  pub next : 0 < σ.next_age
  pub sessions : AreAged σ.sessions

abbrev pub AgedEntry : Option Entry → Type 0
AgedEntry None = Unit {0}
AgedEntry (Some e) = HasAge e

pub record Ripens (o : Outcome) : Type 0 where
  pub state : Ripe o.state
  pub entry : AgedEntry o.entry

aged_change : (sessions : List Session) (s : Session) → AreAged sessions → IsAged s.transaction → AreAged (with_changed sessions s)
aged_change [] s h a = tt
aged_change (x ∷ xs) s h a = cases (x.number == s.number) (aged_change xs s h.1 a)
  where
    cases : (b : Bool) → AreAged (with_changed xs s) → AreAged (if b then s ∷ xs else x ∷ with_changed xs s)
    cases true r = (a, h.1)
    cases false r = (h.0, r)

aged_without : (sessions : List Session) (n : ℕ) → AreAged sessions → AreAged (without_session sessions n)
aged_without [] n h = tt
aged_without (x ∷ xs) n h = cases (x.number == n) (aged_without xs n h.1)
  where
    cases : (b : Bool) → AreAged (without_session xs n) → AreAged (if not b then x ∷ without_session xs n else without_session xs n)
    cases true r = r
    cases false r = (h.0, r)

aged_push : (sessions : List Session) (s : Session) → AreAged sessions → IsAged s.transaction → AreAged (sessions ++ s ∷ [])
aged_push [] s h a = (a, tt)
aged_push (x ∷ xs) s h a = (h.0, aged_push xs s h.1 a)

aged_map : (f : Session → Session) → ((s : Session) → (f s).transaction ≡ s.transaction) → (sessions : List Session) → AreAged sessions → AreAged (map f sessions)
aged_map f e [] h = tt
aged_map f e (x ∷ xs) h = (subst (λ (o : Option Transaction). IsAged o) (sym (e x)) h.0, aged_map f e xs h.1)

aged_at : (sessions : List Session) (n : ℕ) (s : Session) → AreAged sessions → session_at sessions n ≡ Some s → IsAged s.transaction
aged_at [] n s h e = cc
aged_at (x ∷ xs) n s h e = cases (x.number == n) e (λ f. aged_at xs n s h.1 f)
  where
    cases : (b : Bool) → (if b then Some x else session_at xs n) ≡ Some s → (session_at xs n ≡ Some s → IsAged s.transaction) → IsAged s.transaction
    cases true f r = let same : x ≡ s = cc in subst (λ (z : Session). IsAged z.transaction) same h.0
    cases false f r = r f

aged_move : (t : Transaction) (x : Move) (r : Option Reply) (b : Bool) → 0 < t.age → IsAged (after_move t x r b)
aged_move t x r true a = tt
aged_move t x r false a = a

module _ (σ : State) (ripe : Ripe σ) (s : Session) where
  same : (r : Reply) → Ripens (record { state = σ; reply = r; entry = None })
  same r = record { state = ripe; entry = tt }

  -- the asker's session is another
  session_is : (o : Outcome) (x : Session) → IsAged x.transaction → o.state.sessions ≡ with_changed σ.sessions x → o.state.next_age ≡ σ.next_age → AgedEntry o.entry → Ripens o
  session_is o x a e n y = record {
    state = record { next = subst (λ (k : ℕ). 0 < k) (sym n) ripe.next; sessions = subst (λ (xs : List Session). AreAged xs) (sym e) (aged_change σ.sessions x ripe.sessions a) };
    entry = y;
  }

  made_ripe : (o : Outcome) (t : Transaction) (x : Move) (r : Option Reply) (b : Bool) → 0 < t.age → o.state.sessions ≡ with_changed σ.sessions (with_transaction s (after_move t x r b)) → o.state.next_age ≡ σ.next_age → AgedEntry o.entry → Ripens o
  made_ripe o t x r b a = session_is o (with_transaction s (after_move t x r b)) (aged_move t x r b a)

  operate_ripe : (o : Operation) (x : Option Transaction) → IsAged x → Ripens (operate σ s o x)
  operate_ripe o None a = same reply.NoTransaction
  operate_ripe o (Some t) a = by_room _
    where
      by_answer : (d : Answer) → Ripens (by_lock_answer σ s t o d)
      by_answer Granted = made_ripe (by_lock_answer σ s t o Granted) t (Do o) _ _ a refl refl tt
      by_answer Wait = record { state = record { next = ripe.next; sessions = ripe.sessions }; entry = tt }
      by_answer Die = session_is (by_lock_answer σ s t o Die) _ a refl refl tt

      by_room : (b : Bool) → Ripens (within_limit σ s t o b)
      by_room false = same _
      by_room true = by_answer _

  retry_ripe : (q : Option Queued) → IsAged s.transaction → Ripens (retry σ s q)
  retry_ripe None a = same reply.NotWaiting
  retry_ripe (Some q) a = by_transaction s.transaction a
    where
      by_turn : (t : Transaction) (b : Bool) → 0 < t.age → Ripens (try_again σ s t q.operation b)
      by_turn t false a = same reply.Waiting
      by_turn t true a = made_ripe (try_again σ s t q.operation true) t (Do q.operation) _ _ a refl refl tt

      by_transaction : (x : Option Transaction) → IsAged x → Ripens (retry_in σ s q.operation x)
      by_transaction None a = same reply.NotWaiting
      by_transaction (Some t) a = by_turn t _ a

  opened_ripe : (b : Bool) → Ripens (open_level_1 σ s b)
  opened_ripe false = same _
  opened_ripe true = record { state = record { next = more_than σ.next_age ripe.next; sessions = aged_change σ.sessions _ ripe.sessions ripe.next }; entry = tt }
    where
      more_than : (k : ℕ) → 0 < k → 0 < k + 1
      more_than k h = omega arith

  begin_ripe : (x : Option Transaction) → IsAged x → Ripens (begin σ s x)
  begin_ripe None a = opened_ripe _
  begin_ripe (Some t) a = by_limits _ _
    where
      by_limits : (b c : Bool) → Ripens (open_child σ s t b c)
      by_limits false c = same _
      by_limits true false = same _
      by_limits true true = made_ripe (open_child σ s t true true) t Open (reply_to (mid_of σ t) Open) (ends_transaction (mid_of σ t) Open) a refl refl tt

  one_shot_ripe : (x : Option Transaction) → Ripens (one_shot σ s x)
  one_shot_ripe None = opened_ripe _
  one_shot_ripe (Some t) = same reply.InTransaction

  abort_ripe : (r : Term) (x : Option Transaction) → IsAged x → Ripens (abort σ s r x)
  abort_ripe r None a = same reply.NoTransaction
  abort_ripe r (Some t) a = made_ripe (abort σ s r (Some t)) t Undo _ _ a refl refl tt

  commit_ripe : (over : List ℕ) (x : Option Transaction) → IsAged x → Ripens (commit σ over s x)
  commit_ripe over None a = same reply.NoTransaction
  commit_ripe over (Some t) a = by_level _
    where
      by_level : (b : Bool) → Ripens (commit_at σ over s t b)
      by_level false = made_ripe (commit_at σ over s t false) t Close (reply_to (mid_of σ t) Close) (ends_transaction (mid_of σ t) Close) a refl refl tt
      by_level true = record {
        state = record {
          next = ripe.next;
          sessions = aged_map (λ x. after_put (σ.commits + 1) over (batch_to (σ.commits + 1) (events_now σ t) x) x) (λ x. (given_same (σ.commits + 1) over (batch_to (σ.commits + 1) (events_now σ t) x) x).1)
              (with_changed σ.sessions (with_transaction s None)) (aged_change σ.sessions (with_transaction s None) ripe.sessions tt);
        };
        entry = a;
      }

  schema_ripe : (over : List ℕ) (c : Schema) (x : Option Transaction) → Ripens (schema σ over c x)
  schema_ripe over c (Some t) = same reply.InTransaction
  schema_ripe over c None = by_refusal _ _ _
    where
      by_refusal : (r : Option Reply) (busy room : Bool) → Ripens (schema_if σ over c r busy room)
      by_refusal (Some r) busy room = same r
      by_refusal None true room = same _
      by_refusal None false false = same _
      by_refusal None false true = record {
        state = record {
          next = ripe.next;
          sessions = aged_map (λ x. after_put (σ.commits + 1) over (end_to (removed_table c) x) (without_deleted (removed_table c) x))
              (λ x. (given_same (σ.commits + 1) over (end_to (removed_table c) x) (without_deleted (removed_table c) x)).1 ∙ (unwatched_same (removed_table c) x).1) σ.sessions ripe.sessions;
        };
        entry = tt;
      }

  marked_ripe : (full : Bool) (ws : List Watch) (x : Item) (e : Entry) → IsAged s.transaction → HasAge e → Ripens (put_marker σ full s ws x e)
  marked_ripe true ws x e a h = session_is (put_marker σ true s ws x e) _ a refl refl tt
  marked_ripe false ws x e a h = session_is (put_marker σ false s ws x e) _ a refl refl h

  subscribe_ripe : (over : List ℕ) (t : List ℕ) (l : Level) (dump : Bool) (r : Option Reply) → IsAged s.transaction → Ripens (subscribe_if σ over s t l dump r)
  subscribe_ripe over t l dump (Some r) a = same r
  subscribe_ripe over t l dump None a = marked_ripe _ _ _ (Subscribed s.number t l dump) a tt

  unsubscribe_ripe : (over : List ℕ) (t : List ℕ) (b : Bool) → IsAged s.transaction → Ripens (unsubscribe_if σ over s t b)
  unsubscribe_ripe over t false a = same _
  unsubscribe_ripe over t true a = marked_ripe _ _ _ (Unsubscribed s.number t) a tt

  command_ripe : (over : List ℕ) (c : Command) (b : Bool) → IsAged s.transaction → Ripens (command_if σ over s c b)
  command_ripe over c true a = same reply.WaitingNow
  command_ripe over (command.Schema c) false a = schema_ripe over c s.transaction
  command_ripe over (command.TableInfo t i) false a = same _
  command_ripe over command.Begin false a = begin_ripe s.transaction a
  command_ripe over command.Commit false a = commit_ripe over s.transaction a
  command_ripe over (command.Abort r) false a = abort_ripe r s.transaction a
  command_ripe over (command.Do o) false a = operate_ripe o s.transaction a
  command_ripe over (command.Subscribe t l dump) false a = subscribe_ripe over t l dump _ a
  command_ripe over (command.Unsubscribe t l) false a = unsubscribe_ripe over t _ a
  command_ripe over (command.OneShot parts retries) false a = one_shot_ripe s.transaction

  give_ripe : (xs : List Item) (l : Option ℕ) → IsAged s.transaction → Ripens (give σ s xs l)
  give_ripe (x ∷ xs) l a = session_is (give σ s (x ∷ xs) l) _ a refl refl tt
  give_ripe [] None a = same reply.Empty
  give_ripe [] (Some n) a = session_is (give σ s [] (Some n)) _ a refl refl tt

  seated_ripe : (over : List ℕ) (x : Ask) → IsAged s.transaction → Ripens (step_of_joined σ over s x)
  seated_ripe over (Join b) a = same reply.BadSession
  seated_ripe over Leave a = record { state = record { next = ripe.next; sessions = aged_without σ.sessions s.number ripe.sessions }; entry = tt }
  seated_ripe over Retry a = retry_ripe _ a
  seated_ripe over Take a = give_ripe _ _ a
  seated_ripe over (DoCommand c) a = command_ripe over c _ a

unseated_ripe : (σ : State) (n : ℕ) (x : Ask) → Ripe σ → Ripens (step_of_stranger σ n x)
unseated_ripe σ n (Join b) ripe = cases _ _
  where
    cases : (x y : Bool) → Ripens (join_if σ n b x y)
    cases false y = record { state = ripe; entry = tt }
    cases true false = record { state = ripe; entry = tt }
    cases true true = record { state = record { next = ripe.next; sessions = aged_push σ.sessions (fresh n b) ripe.sessions tt }; entry = tt }
unseated_ripe σ n Leave ripe = record { state = ripe; entry = tt }
unseated_ripe σ n Retry ripe = record { state = ripe; entry = tt }
unseated_ripe σ n Take ripe = record { state = ripe; entry = tt }
unseated_ripe σ n (DoCommand c) ripe = record { state = ripe; entry = tt }

pub step_ripe : (σ : State) (over : List ℕ) (n : ℕ) (x : Ask) → Ripe σ → Ripens (outcome σ over n x)
unfolding outcome
step_ripe σ over n x ripe = cases (session_at σ.sessions n) refl
  where
    cases : (o : Option Session) → session_at σ.sessions n ≡ o → Ripens (step_of σ over n x o)
    cases None e = unseated_ripe σ n x ripe
    cases (Some s) e = seated_ripe σ ripe s over x (aged_at σ.sessions n s ripe.sessions e)

pub aged_more : (xs : List Entry) (o : Option Entry) → AllAged xs → AgedEntry o → AllAged (xs ++ entries o)
aged_more [] None h a = tt
aged_more [] (Some e) h a = (a, tt)
aged_more (x ∷ xs) o h a = (h.0, aged_more xs o h.1 a)

aged_on : (o : Option Entry) (es : List Entry) → AgedEntry o → AllAged es → AllAged (entries o ++ es)
aged_on None es h r = r
aged_on (Some e) es h r = (h, r)

run_aged : (σ : State) (calls : List Call) → Ripe σ → AllAged (log_of σ calls)
run_aged σ [] ripe = tt
run_aged σ (c ∷ calls) ripe =
    let one = step_ripe σ c.over c.session c.ask ripe in
    aged_on (outcome_of σ c).entry (log_of (outcome_of σ c).state calls) one.entry (run_aged (outcome_of σ c).state calls one.state)

pub schedule_aged : (limits : Limits) (calls : List Call) → AllAged (log_of (new limits) calls)
schedule_aged limits calls = run_aged (new limits) calls (record { next = omega arith; sessions = tt })
