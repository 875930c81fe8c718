-- Which steps may give an entry.
use Rattle.std.proofs.Common.{◌≡◌, ◌↔◌, ℕ, suc, List, [], ◌∷◌, Bool, true, false, refl, sym, ap, ◌∙◌, arith, Option, Some, None}
use Rattle.std.specs.Prelude.{◌^◌, ◌-◌, ◌==◌, min, nat_lt, is_some, length}
use Rattle.std.proofs.lemmas.Bool.Decides.{nat_tests}
use Rattle.tab_model.specs.declared.data.Level.{Level}
use Rattle.tab_model.specs.declared.data.Entry.{Entry}
use Rattle.tab_model.specs.declared.data.Schema.{Schema}
use Rattle.tab_model.specs.declared.data.Operation.{Operation}
use Rattle.tab_model.specs.declared.data.Command.{Command}
use Rattle.tab_model.specs.declared.data.Command.TheVariants as command
use Rattle.tab_model.specs.Ages.{Answer, Granted, Wait, Die, decide, can_retry}
use Rattle.tab_model.specs.Locks.{needs}
use Rattle.tab_model.specs.State.{Transaction, Session, Queued, State, session_at, transaction_in, transaction_at, ages_of, count_moves, mid_of}
use Rattle.tab_model.specs.declared.ask.Ask.TheVariants.{Join, Leave, Retry, Take, Do as DoCommand}
use Rattle.tab_model.specs.Outcome.{Ask, Outcome, outcome, is_empty, by_lock_answer, operate, retry_in, retry, begin, one_shot, abort, commit, do_command, give, step_of_joined, step_of_stranger, step_of}
use Rattle.tab_model.proofs.StepCases.{within_limit, try_again, open_level_1, open_child, commit_at, command_if, join_if}
use Rattle.tab_model.specs.Catalogs.{Catalog}
use Rattle.tab_model.specs.Standing.{EndsTransaction, levels_in, levels_of, is_joined, may_enter_command, may_enter_session, may_enter}

abbrev EntersNone : Outcome → Type 0
EntersNone o = o.entry ≡ None

module _ (σ : State) (s : Session) where
  within_enters : (o : Operation) (t : Transaction) (b : Bool) → EntersNone (within_limit σ s t o b)
  within_enters o t false = refl
  within_enters o t true = by (decide (ages_of σ) (t.age, needs o))
    where
      by : (a : Answer) → EntersNone (by_lock_answer σ s t o a)
      by Granted = refl
      by Wait = refl
      by Die = refl

  operate_enters : (o : Operation) (x : Option Transaction) → EntersNone (operate σ s o x)
  operate_enters o None = refl
  operate_enters o (Some t) = within_enters o t (nat_lt (count_moves t.moves) σ.limits.operations)

  retry_in_enters : (o : Operation) (x : Option Transaction) → EntersNone (retry_in σ s o x)
  retry_in_enters o None = refl
  retry_in_enters o (Some t) = by (can_retry (ages_of σ) (t.age, needs o))
    where
      by : (b : Bool) → EntersNone (try_again σ s t o b)
      by false = refl
      by true = refl

  retry_enters : (q : Option Queued) → EntersNone (retry σ s q)
  retry_enters None = refl
  retry_enters (Some q) = retry_in_enters q.operation s.transaction

  opened_enters : (b : Bool) → EntersNone (open_level_1 σ s b)
  opened_enters false = refl
  opened_enters true = refl

  begin_enters : (x : Option Transaction) → EntersNone (begin σ s x)
  begin_enters None = opened_enters _
  begin_enters (Some t) = by _ _
    where
      by : (a b : Bool) → EntersNone (open_child σ s t a b)
      by false b = refl
      by true false = refl
      by true true = refl

  one_shot_enters : (x : Option Transaction) → EntersNone (one_shot σ s x)
  one_shot_enters None = opened_enters _
  one_shot_enters (Some t) = refl

  abort_enters : (r : Rattle.tab_term.specs.declared.term.Term.Term) (x : Option Transaction) → EntersNone (abort σ s r x)
  abort_enters r None = refl
  abort_enters r (Some t) = refl

  -- a commit where not exactly one level is open
  commit_enters : (over : List ℕ) (x : Option Transaction) → (levels_in σ x == 1) ≡ false → EntersNone (commit σ over s x)
  commit_enters over None h = refl
  commit_enters over (Some t) h = by (mid_of σ t).saved h
    where
      by : (saved : List Rattle.tab_model.specs.Catalogs.Catalog) → (suc (length saved) == 1) ≡ false → EntersNone (commit_at σ over s t (is_empty saved))
      by [] h = cc
      by (x ∷ xs) h = refl

  do_enters : (over : List ℕ) (n : ℕ) (c : Command) → levels_of σ n ≡ levels_in σ s.transaction → may_enter_command σ n c ≡ false → EntersNone (do_command σ over s c)
  do_enters over n (command.Schema c) e h = cc
  do_enters over n (command.TableInfo t i) e h = refl
  do_enters over n command.Begin e h = begin_enters s.transaction
  do_enters over n command.Commit e h = commit_enters over s.transaction (ap (λ k. k == 1) (sym e) ∙ h)
  do_enters over n (command.Abort r) e h = abort_enters r s.transaction
  do_enters over n (command.Do o) e h = operate_enters o s.transaction
  do_enters over n (command.Subscribe t l dump) e h = cc
  do_enters over n (command.Unsubscribe t l) e h = cc
  do_enters over n (command.OneShot parts retries) e h = one_shot_enters s.transaction

  command_enters : (over : List ℕ) (n : ℕ) (c : Command) (b : Bool) → levels_of σ n ≡ levels_in σ s.transaction → may_enter_command σ n c ≡ false → EntersNone (command_if σ over s c b)
  command_enters over n c true e h = refl
  command_enters over n c false e h = do_enters over n c e h

  take_enters : (items : List Rattle.tab_model.specs.declared.data.Item.Item) (l : Option ℕ) → EntersNone (give σ s items l)
  take_enters (x ∷ xs) l = refl
  take_enters [] None = refl
  take_enters [] (Some n) = refl

  seated_enters : (over : List ℕ) (n : ℕ) (a : Ask) → levels_of σ n ≡ levels_in σ s.transaction → may_enter_session σ n a true ≡ false → EntersNone (step_of_joined σ over s a)
  seated_enters over n (Join b) e h = refl
  seated_enters over n Leave e h = refl
  seated_enters over n Retry e h = retry_enters _
  seated_enters over n Take e h = take_enters _ _
  seated_enters over n (DoCommand c) e h = command_enters over n c _ e h

unseated_enters : (σ : State) (n : ℕ) (a : Ask) → EntersNone (step_of_stranger σ n a)
unseated_enters σ n (Join b) = by (nat_lt σ.greatest n) (nat_lt (length σ.sessions) σ.limits.sessions)
  where
    by : (x y : Bool) → EntersNone (join_if σ n b x y)
    by false y = refl
    by true false = refl
    by true true = refl
unseated_enters σ n Leave = refl
unseated_enters σ n Retry = refl
unseated_enters σ n Take = refl
unseated_enters σ n (DoCommand c) = refl

-- of any other step there is none
pub enters_none : (σ : State) (over : List ℕ) (n : ℕ) (a : Ask) → may_enter σ n a ≡ false → (outcome σ over n a).entry ≡ None
unfolding outcome
enters_none σ over n a h = by (session_at σ.sessions n) refl
  where
    by : (o : Option Session) → session_at σ.sessions n ≡ o → EntersNone (step_of σ over n a o)
    by None e = unseated_enters σ n a
    by (Some s) e = seated_enters σ s over n a (ap (λ o. levels_in σ (transaction_in o)) e) (sym (ap (λ o. may_enter_session σ n a (is_some o)) e) ∙ h)

pub enters_only : (σ : State) (over : List ℕ) (n : ℕ) (a : Ask) (e : Entry) → (outcome σ over n a).entry ≡ Some e → may_enter σ n a ≡ true
enters_only σ over n a e h = by (may_enter σ n a) refl
  where
    by : (b : Bool) → may_enter σ n a ≡ b → b ≡ true
    by true f = refl
    by false f = let none : None ≡ Some e = sym (enters_none σ over n a f) ∙ h in cc

-- ---- how a program decides it

one_left : (k : ℕ) → (min k (2 ^ 64 - 1) == 1) ≡ (k == 1)
one_left k = grind (arith, nat_tests)

pub commit_may : (σ : State) (n : ℕ) → (min (levels_of σ n) (2 ^ 64 - 1) == 1) ≡ may_enter σ n (DoCommand command.Commit)
commit_may σ n = one_left (levels_of σ n) ∙ by (session_at σ.sessions n) refl
  where
    by : (o : Option Session) → session_at σ.sessions n ≡ o → (levels_of σ n == 1) ≡ may_enter_session σ n (DoCommand command.Commit) (is_some o)
    by None e = ap (λ x. levels_in σ (transaction_in x) == 1) e
    by (Some s) e = refl

pub schema_may : (σ : State) (n : ℕ) (c : Schema) → is_joined σ n ≡ may_enter σ n (DoCommand (command.Schema c))
schema_may σ n c = by (is_joined σ n)
  where
    by : (b : Bool) → b ≡ may_enter_session σ n (DoCommand (command.Schema c)) b
    by true = refl
    by false = refl

pub subscribe_may : (σ : State) (n : ℕ) (t : List ℕ) (l : Level) (dump : Bool) → is_joined σ n ≡ may_enter σ n (DoCommand (command.Subscribe t l dump))
subscribe_may σ n t l dump = by (is_joined σ n)
  where
    by : (b : Bool) → b ≡ may_enter_session σ n (DoCommand (command.Subscribe t l dump)) b
    by true = refl
    by false = refl

pub unsubscribe_may : (σ : State) (n : ℕ) (t : List ℕ) (l : Level) → is_joined σ n ≡ may_enter σ n (DoCommand (command.Unsubscribe t l))
unsubscribe_may σ n t l = by (is_joined σ n)
  where
    by : (b : Bool) → b ≡ may_enter_session σ n (DoCommand (command.Unsubscribe t l)) b
    by true = refl
    by false = refl

-- the others never
pub session_never : (σ : State) (n : ℕ) (a : Ask) → ((b : Bool) → may_enter_session σ n a b ≡ false) → may_enter σ n a ≡ false
session_never σ n a h = h (is_joined σ n)

pub never_of : (σ : State) (n : ℕ) (a : Ask) → may_enter_session σ n a true ≡ false → may_enter_session σ n a false ≡ false → may_enter σ n a ≡ false
never_of σ n a h k = session_never σ n a by
  where
    by : (b : Bool) → may_enter_session σ n a b ≡ false
    by true = h
    by false = k

-- a commit may where it would end its transaction, and only there
one_level : (k : ℕ) → (suc k == 1) ≡ true → k ≡ 0
one_level k h = grind (arith, nat_tests)

none_saved : (ws : List Catalog) → length ws ≡ 0 → ws ≡ []
none_saved [] h = refl
none_saved (w ∷ ws) h = absurd (omega (arith, h))

pub commit_ends : (σ : State) (n : ℕ) → (may_enter σ n (DoCommand command.Commit) ≡ true) ↔ EndsTransaction σ n
commit_ends σ n = (λ h. to (session_at σ.sessions n) refl h, from)
  where
    open_in : (t : Option Transaction) → transaction_at σ n ≡ t → (levels_in σ t == 1) ≡ true → EndsTransaction σ n
    open_in None e h = cc
    open_in (Some t) e h = record { transaction = t; opened = e; outermost = none_saved (mid_of σ t).saved (one_level (length (mid_of σ t).saved) h) }

    to : (o : Option Session) → session_at σ.sessions n ≡ o → may_enter_session σ n (DoCommand command.Commit) (is_some o) ≡ true → EndsTransaction σ n
    to None e h = cc
    to (Some s) e h = open_in (transaction_at σ n) refl h

    joined : (o : Option Session) (t : Transaction) → transaction_in o ≡ Some t → is_some o ≡ true
    joined None t e = cc
    joined (Some s) t e = refl

    from : EndsTransaction σ n → may_enter σ n (DoCommand command.Commit) ≡ true
    from x = ap (may_enter_session σ n (DoCommand command.Commit)) (joined (session_at σ.sessions n) x.transaction x.opened)
        ∙ ap (λ (t : Option Transaction). levels_in σ t == 1) x.opened ∙ ap (λ (ws : List Catalog). suc (length ws) == 1) x.outermost
