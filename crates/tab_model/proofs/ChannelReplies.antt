-- Who is given an item by a step stays joined. A session with a channel's post is given none: its items are taken at the other end.
use Rattle.std.proofs.Common.{◌≡◌, ℕ, List, [], ◌∷◌, Bool, true, false, refl, sym, ap, ◌∙◌, Option, Some, None}
use Rattle.std.specs.Prelude.{◌==◌, if◌then◌else◌, nat_lt, length}
use Rattle.tab_term.specs.declared.term.Term.{Term}
use Rattle.tab_model.specs.declared.data.Operation.{Operation}
use Rattle.tab_model.specs.declared.data.Move.TheVariants.{Do}
use Rattle.tab_model.specs.declared.data.Item.{Item}
use Rattle.tab_model.specs.declared.data.Level.{Level}
use Rattle.tab_model.specs.declared.data.Entry.{Entry}
use Rattle.tab_model.specs.declared.data.Schema.{Schema}
use Rattle.tab_model.specs.declared.data.Command.{Command}
use Rattle.tab_model.specs.declared.data.Command.TheVariants as command
use Rattle.tab_model.specs.declared.data.Reply.{Reply}
use Rattle.tab_model.specs.declared.data.Reply.TheVariants as reply
use Rattle.tab_model.specs.Catalogs.{find}
use Rattle.tab_model.specs.Ages.{Answer, Granted, Wait, Die}
use Rattle.tab_model.specs.Schemas.{schema_refusal}
use Rattle.tab_model.specs.State.{Transaction, Watch, Session, Queued, State, session_at, level_in, mid_of}
use Rattle.tab_model.specs.declared.ask.Ask.TheVariants.{Join, Leave, Retry, Take, Do as DoCommand}
use Rattle.tab_model.specs.Outcome.{Ask, Outcome, outcome, with_changed, by_lock_answer, operate, retry_in, retry, begin, one_shot, abort, commit, schema, is_at, put_marker, subscribe_refusal, do_command, give, items_to_take, step_of_joined, step_of_stranger, step_of}
use Rattle.tab_model.proofs.StepCases.{within_limit, try_again, open_level_1, open_child, commit_at, schema_if, subscribe_if, unsubscribe_if, command_if, join_if}
use Rattle.tab_model.specs.Run.{item_of}
use Rattle.tab_model.specs.Standing.{AreChannels}
use Rattle.tab_model.proofs.SessionLists.{found, itself, session_at-change}
use Rattle.tab_model.proofs.PostsStay.{IsChannel, found_has}
use Rattle.tab_model.proofs.LoggedSteps.{item_in, said_item, info_item, refusal_item, sub_item}

-- a session that is changed is there
changed_there : (sessions : List Session) (x s : Session) (n : ℕ) → session_at sessions n ≡ Some s → x.number ≡ n → session_at (with_changed sessions x) n ≡ None → ⊥
changed_there sessions x s n here num none = by (n == x.number) (ap (λ k. n == k) num ∙ itself n) (sym (session_at-change sessions x s n (ap (session_at sessions) num ∙ here)) ∙ none)
  where
    by : (b : Bool) → b ≡ true → (if b then Some x else session_at sessions n) ≡ None → ⊥
    by true e h = cc
    by false e h = cc

abbrev GivesNone : Outcome → Type 0
GivesNone o = item_of o.reply ≡ []

module _ (σ : State) (s : Session) where
  decided_gives : (t : Transaction) (o : Operation) (a : Answer) → GivesNone (by_lock_answer σ s t o a)
  decided_gives t o Granted = said_item (mid_of σ t) (Do o) reply.Done refl
  decided_gives t o Wait = refl
  decided_gives t o Die = refl

  within_gives : (t : Transaction) (o : Operation) (b : Bool) → GivesNone (within_limit σ s t o b)
  within_gives t o false = refl
  within_gives t o true = decided_gives t o _

  operate_gives : (o : Operation) (x : Option Transaction) → GivesNone (operate σ s o x)
  operate_gives o None = refl
  operate_gives o (Some t) = within_gives t o _

  retried_gives : (t : Transaction) (o : Operation) (b : Bool) → GivesNone (try_again σ s t o b)
  retried_gives t o false = refl
  retried_gives t o true = said_item (mid_of σ t) (Do o) reply.Done refl

  retry_in_gives : (o : Operation) (x : Option Transaction) → GivesNone (retry_in σ s o x)
  retry_in_gives o None = refl
  retry_in_gives o (Some t) = retried_gives t o _

  retry_gives : (q : Option Queued) → GivesNone (retry σ s q)
  retry_gives None = refl
  retry_gives (Some q) = retry_in_gives q.operation s.transaction

  opened_gives : (b : Bool) → GivesNone (open_level_1 σ s b)
  opened_gives false = refl
  opened_gives true = refl

  nested_gives : (t : Transaction) (a b : Bool) → GivesNone (open_child σ s t a b)
  nested_gives t false b = refl
  nested_gives t true false = refl
  nested_gives t true true = refl

  begin_gives : (x : Option Transaction) → GivesNone (begin σ s x)
  begin_gives None = opened_gives _
  begin_gives (Some t) = nested_gives t _ _

  one_shot_gives : (x : Option Transaction) → GivesNone (one_shot σ s x)
  one_shot_gives None = opened_gives _
  one_shot_gives (Some t) = refl

  abort_gives : (r : Term) (x : Option Transaction) → GivesNone (abort σ s r x)
  abort_gives r None = refl
  abort_gives r (Some t) = refl

  commit_at_gives : (over : List ℕ) (t : Transaction) (b : Bool) → GivesNone (commit_at σ over s t b)
  commit_at_gives over t false = refl
  commit_at_gives over t true = refl

  commit_gives : (over : List ℕ) (x : Option Transaction) → GivesNone (commit σ over s x)
  commit_gives over None = refl
  commit_gives over (Some t) = commit_at_gives over t _

  schema_if_gives : (over : List ℕ) (c : Schema) (r : Option Reply) (busy room : Bool) → item_in r ≡ [] → GivesNone (schema_if σ over c r busy room)
  schema_if_gives over c (Some r) busy room h = h
  schema_if_gives over c None true room h = refl
  schema_if_gives over c None false false h = refl
  schema_if_gives over c None false true h = refl

  schema_gives : (over : List ℕ) (c : Schema) (x : Option Transaction) → GivesNone (schema σ over c x)
  schema_gives over c (Some t) = refl
  schema_gives over c None = schema_if_gives over c (schema_refusal σ.tables c) _ _ (refusal_item σ.tables c)

  marked_gives : (full : Bool) (ws : List Watch) (x : Item) (e : Entry) → GivesNone (put_marker σ full s ws x e)
  marked_gives true ws x e = refl
  marked_gives false ws x e = refl

  subscribe_gives : (over : List ℕ) (t : List ℕ) (l : Level) (dump : Bool) (r : Option Reply) → item_in r ≡ [] → GivesNone (subscribe_if σ over s t l dump r)
  subscribe_gives over t l dump (Some r) h = h
  subscribe_gives over t l dump None h = marked_gives _ _ _ _

  unsubscribe_gives : (over : List ℕ) (t : List ℕ) (b : Bool) → GivesNone (unsubscribe_if σ over s t b)
  unsubscribe_gives over t false = refl
  unsubscribe_gives over t true = marked_gives _ _ _ _

  do_gives : (over : List ℕ) (c : Command) → GivesNone (do_command σ over s c)
  do_gives over (command.Schema c) = schema_gives over c s.transaction
  do_gives over (command.TableInfo t i) = info_item t i (find σ.tables t)
  do_gives over command.Begin = begin_gives s.transaction
  do_gives over command.Commit = commit_gives over s.transaction
  do_gives over (command.Abort r) = abort_gives r s.transaction
  do_gives over (command.Do o) = operate_gives o s.transaction
  do_gives over (command.Subscribe t l dump) = subscribe_gives over t l dump (subscribe_refusal σ s t) (sub_item σ s t)
  do_gives over (command.Unsubscribe t l) = unsubscribe_gives over t (is_at (level_in s.watching t) l)
  do_gives over (command.OneShot parts retries) = one_shot_gives s.transaction

  command_gives : (over : List ℕ) (c : Command) (b : Bool) → GivesNone (command_if σ over s c b)
  command_gives over c true = refl
  command_gives over c false = do_gives over c

  take_gives : (c : Option ℕ) → c ≡ None → GivesNone (give σ s (items_to_take s.outbox c) s.overflow)
  take_gives (Some k) e = cc
  take_gives None e = by s.overflow
    where
      by : (o : Option ℕ) → GivesNone (give σ s [] o)
      by None = refl
      by (Some n) = refl

  seated_gives : (over : List ℕ) (a : Ask) → s.outbox.capacity ≡ None → GivesNone (step_of_joined σ over s a)
  seated_gives over (Join b) h = refl
  seated_gives over Leave h = refl
  seated_gives over Retry h = retry_gives _
  seated_gives over Take h = take_gives s.outbox.capacity h
  seated_gives over (DoCommand c) h = command_gives over c _

unseated_gives : (σ : State) (n : ℕ) (a : Ask) → GivesNone (step_of_stranger σ n a)
unseated_gives σ n (Join b) = by (nat_lt σ.greatest n) (nat_lt (length σ.sessions) σ.limits.sessions)
  where
    by : (x y : Bool) → GivesNone (join_if σ n b x y)
    by false y = refl
    by true false = refl
    by true true = refl
unseated_gives σ n Leave = refl
unseated_gives σ n Retry = refl
unseated_gives σ n Take = refl
unseated_gives σ n (DoCommand c) = refl

pub no_item : (σ : State) (over : List ℕ) (n : ℕ) (a : Ask) → AreChannels σ → item_of (outcome σ over n a).reply ≡ []
unfolding outcome
no_item σ over n a channels = by (session_at σ.sessions n) refl
  where
    by : (o : Option Session) → session_at σ.sessions n ≡ o → GivesNone (step_of σ over n a o)
    by None e = unseated_gives σ n a
    by (Some s) e = seated_gives σ s over a (found_has IsChannel σ.sessions n s channels e)

-- who is given an item stays joined
pub item_stays : (σ : State) (over : List ℕ) (n : ℕ) (a : Ask) → session_at (outcome σ over n a).state.sessions n ≡ None → item_of (outcome σ over n a).reply ≡ []
unfolding outcome
item_stays σ over n a gone = by (session_at σ.sessions n) refl gone
  where
    given : (s : Session) (xs : List Item) (l : Option ℕ) → session_at σ.sessions n ≡ Some s → session_at (give σ s xs l).state.sessions n ≡ None → GivesNone (give σ s xs l)
    given s (x ∷ xs) l e g = absurd (changed_there σ.sessions _ s n e (found σ.sessions s n e) g)
    given s [] None e g = refl
    given s [] (Some k) e g = refl

    by_ask : (s : Session) (a : Ask) → session_at σ.sessions n ≡ Some s → session_at (step_of_joined σ over s a).state.sessions n ≡ None → GivesNone (step_of_joined σ over s a)
    by_ask s (Join b) e g = refl
    by_ask s Leave e g = refl
    by_ask s Retry e g = retry_gives σ s _
    by_ask s Take e g = given s _ _ e g
    by_ask s (DoCommand c) e g = command_gives σ s over c _

    by : (o : Option Session) → session_at σ.sessions n ≡ o → session_at (step_of σ over n a o).state.sessions n ≡ None → GivesNone (step_of σ over n a o)
    by None e g = unseated_gives σ n a
    by (Some s) e g = by_ask s a e g
