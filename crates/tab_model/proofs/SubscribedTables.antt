-- Each subscription is made on a table that stands; so the changes since give the table now.
use Rattle.std.proofs.Common.{◌≡◌, ℕ, List, [], ◌∷◌, ◌++◌, Bool, true, false, not, refl, sym, ap, ◌∙◌, subst, Option, Some, None}
use Rattle.std.specs.Prelude.{is_some}
use Rattle.tab_term.specs.declared.term.Term.{Term}
use Rattle.tab_model.specs.declared.data.Operation.{Operation}
use Rattle.tab_model.specs.declared.data.Item.{Item}
use Rattle.tab_model.specs.declared.data.Reply.{Reply}
use Rattle.tab_model.specs.declared.data.Level.{Level}
use Rattle.tab_model.specs.declared.data.Schema.{Schema}
use Rattle.tab_model.specs.declared.data.Entry.{Entry}
use Rattle.tab_model.specs.declared.data.Entry.TheVariants.{Subscribed, Unsubscribed}
use Rattle.tab_model.specs.declared.data.Command.{Command}
use Rattle.tab_model.specs.declared.data.Command.TheVariants as command
use Rattle.tab_model.specs.Tables.{rows_after}
use Rattle.tab_model.specs.Catalogs.{Catalog, Table, find, rows_in, rows_of}
use Rattle.tab_model.specs.Ages.{Answer, Granted, Wait, Die}
use Rattle.tab_model.specs.Log.{catalog_after, serial, serial_from}
use Rattle.tab_model.specs.Since.{changes_on, IsInForceSince, WasInForce, AllWereInForce, AllAged, RowsSince}
use Rattle.tab_model.specs.State.{Transaction, Watch, Session, Queued, State, session_at, level_in}
use Rattle.tab_model.specs.declared.ask.Ask.TheVariants.{Join, Leave, Retry, Take, Do as DoCommand}
use Rattle.tab_model.specs.Outcome.{Ask, outcome, by_lock_answer, operate, retry_in, retry, begin, one_shot, abort, commit, schema, put_marker, subscribe_refusal, give, step_of_joined, step_of_stranger, step_of}
use Rattle.tab_model.proofs.StepCases.{within_limit, try_again, open_level_1, open_child, commit_at, schema_if, subscribe_refusal_if, subscribe_if, unsubscribe_if, command_if, join_if}
use Rattle.tab_model.specs.Run.{entries}
use Rattle.tab_model.proofs.EventsGiveTheRows.{since_applies, dump_applies}
use Rattle.tab_model.proofs.InForce.{in_force_stands}
use Rattle.tab_model.proofs.ItemsTellTheChanges.{items_tell}
use Rattle.tab_model.proofs.LoggedLemmas.{IsLogged}

abbrev pub Stood : Catalog → Option Entry → Type 0
Stood w None = Unit {0}
Stood w (Some e) = WasInForce w e

module _ (σ : State) (s : Session) where
  operate_stood : (o : Operation) (x : Option Transaction) → Stood σ.tables (operate σ s o x).entry
  operate_stood o None = tt
  operate_stood o (Some t) = by_room _
    where
      by_answer : (a : Answer) → Stood σ.tables (by_lock_answer σ s t o a).entry
      by_answer Granted = tt
      by_answer Wait = tt
      by_answer Die = tt

      by_room : (b : Bool) → Stood σ.tables (within_limit σ s t o b).entry
      by_room false = tt
      by_room true = by_answer _

  retry_stood : (q : Option Queued) → Stood σ.tables (retry σ s q).entry
  retry_stood None = tt
  retry_stood (Some q) = by_transaction s.transaction
    where
      by_turn : (t : Transaction) (b : Bool) → Stood σ.tables (try_again σ s t q.operation b).entry
      by_turn t false = tt
      by_turn t true = tt

      by_transaction : (x : Option Transaction) → Stood σ.tables (retry_in σ s q.operation x).entry
      by_transaction None = tt
      by_transaction (Some t) = by_turn t _

  opened_stood : (b : Bool) → Stood σ.tables (open_level_1 σ s b).entry
  opened_stood false = tt
  opened_stood true = tt

  begin_stood : (x : Option Transaction) → Stood σ.tables (begin σ s x).entry
  begin_stood None = opened_stood _
  begin_stood (Some t) = by_limits _ _
    where
      by_limits : (a b : Bool) → Stood σ.tables (open_child σ s t a b).entry
      by_limits false b = tt
      by_limits true false = tt
      by_limits true true = tt

  one_shot_stood : (x : Option Transaction) → Stood σ.tables (one_shot σ s x).entry
  one_shot_stood None = opened_stood _
  one_shot_stood (Some t) = tt

  abort_stood : (r : Term) (x : Option Transaction) → Stood σ.tables (abort σ s r x).entry
  abort_stood r None = tt
  abort_stood r (Some t) = tt

  commit_stood : (over : List ℕ) (x : Option Transaction) → Stood σ.tables (commit σ over s x).entry
  commit_stood over None = tt
  commit_stood over (Some t) = by_level _
    where
      by_level : (b : Bool) → Stood σ.tables (commit_at σ over s t b).entry
      by_level false = tt
      by_level true = tt

  schema_stood : (over : List ℕ) (c : Schema) (x : Option Transaction) → Stood σ.tables (schema σ over c x).entry
  schema_stood over c (Some t) = tt
  schema_stood over c None = by_refusal _ _ _
    where
      by_refusal : (r : Option Reply) (busy room : Bool) → Stood σ.tables (schema_if σ over c r busy room).entry
      by_refusal (Some r) busy room = tt
      by_refusal None true room = tt
      by_refusal None false false = tt
      by_refusal None false true = tt

  -- who isn't refused subscribes to a table that stands
  unrefused : (t : List ℕ) → subscribe_refusal σ s t ≡ None → is_some (find σ.tables t) ≡ true
  unrefused t h = cases (is_some s.overflow) (is_some (find σ.tables t)) (is_some (level_in s.watching t)) h
    where
      cases : (a b c : Bool) → (subscribe_refusal_if t a (not b) c) ≡ None → b ≡ true
      cases a true c h = refl
      cases true false c h = cc
      cases false false c h = cc

  subscribe_stood : (over : List ℕ) (t : List ℕ) (l : Level) (dump : Bool) (r : Option Reply) → subscribe_refusal σ s t ≡ r → Stood σ.tables (subscribe_if σ over s t l dump r).entry
  subscribe_stood over t l dump (Some r) h = tt
  subscribe_stood over t l dump None h = by_room _
    where
      by_room : (full : Bool) → Stood σ.tables (put_marker σ full s (record { table = t; level = l } ∷ s.watching) (Rattle.tab_model.specs.declared.data.Item.TheVariants.Began t l (Rattle.tab_model.specs.Slices.dump_of σ.tables t dump)) (Subscribed s.number t l dump)).entry
      by_room true = tt
      by_room false = unrefused t h

  unsubscribe_stood : (over : List ℕ) (t : List ℕ) (b : Bool) → Stood σ.tables (unsubscribe_if σ over s t b).entry
  unsubscribe_stood over t false = tt
  unsubscribe_stood over t true = by_room _ _ _
    where
      by_room : (full : Bool) (ws : List Watch) (x : Item) → Stood σ.tables (put_marker σ full s ws x (Unsubscribed s.number t)).entry
      by_room true ws x = tt
      by_room false ws x = tt

  command_stood : (over : List ℕ) (c : Command) (b : Bool) → Stood σ.tables (command_if σ over s c b).entry
  command_stood over c true = tt
  command_stood over (command.Schema c) false = schema_stood over c s.transaction
  command_stood over (command.TableInfo t i) false = tt
  command_stood over command.Begin false = begin_stood s.transaction
  command_stood over command.Commit false = commit_stood over s.transaction
  command_stood over (command.Abort r) false = abort_stood r s.transaction
  command_stood over (command.Do o) false = operate_stood o s.transaction
  command_stood over (command.Subscribe t l dump) false = subscribe_stood over t l dump (subscribe_refusal σ s t) refl
  command_stood over (command.Unsubscribe t l) false = unsubscribe_stood over t _
  command_stood over (command.OneShot parts retries) false = one_shot_stood s.transaction

  give_stood : (xs : List Item) (l : Option ℕ) → Stood σ.tables (give σ s xs l).entry
  give_stood (x ∷ xs) l = tt
  give_stood [] None = tt
  give_stood [] (Some n) = tt

  seated_stood : (over : List ℕ) (a : Ask) → Stood σ.tables (step_of_joined σ over s a).entry
  seated_stood over (Join b) = tt
  seated_stood over Leave = tt
  seated_stood over Retry = retry_stood _
  seated_stood over Take = give_stood _ _
  seated_stood over (DoCommand c) = command_stood over c _

unseated_stood : (σ : State) (n : ℕ) (a : Ask) → Stood σ.tables (step_of_stranger σ n a).entry
unseated_stood σ n (Join b) = cases _ _
  where
    cases : (x y : Bool) → Stood σ.tables (join_if σ n b x y).entry
    cases false y = tt
    cases true false = tt
    cases true true = tt
unseated_stood σ n Leave = tt
unseated_stood σ n Retry = tt
unseated_stood σ n Take = tt
unseated_stood σ n (DoCommand c) = tt

pub step_stood : (σ : State) (over : List ℕ) (n : ℕ) (a : Ask) → Stood σ.tables (outcome σ over n a).entry
unfolding outcome
step_stood σ over n a = cases (session_at σ.sessions n)
  where
    cases : (o : Option Session) → Stood σ.tables (step_of σ over n a o).entry
    cases None = unseated_stood σ n a
    cases (Some s) = seated_stood σ s over a

-- a step's entry is put behind a log
pub stood_more : (w : Catalog) (xs : List Entry) (o : Option Entry) → AllWereInForce w xs → Stood (serial_from w xs) o → AllWereInForce w (xs ++ entries o)
stood_more w [] None h r = tt
stood_more w [] (Some e) h r = (r, tt)
stood_more w (x ∷ xs) o h r = (h.0, stood_more (catalog_after w x) xs o h.1 r)

stood-rest : (w : Catalog) (xs ys : List Entry) → AllWereInForce w (xs ++ ys) → AllWereInForce (serial_from w xs) ys
stood-rest w [] ys h = h
stood-rest w (x ∷ xs) ys h = stood-rest (catalog_after w x) xs ys h.1

-- the changes since a subscription that stands give the table now
module _ (σ : State) (log : List Entry) (tk : ℕ → List Item) (logged : IsLogged σ log tk) (stood : AllWereInForce [] log) (aged : AllAged log) where
  pub rows_since : (n : ℕ) (s : Session) (t : List ℕ) (l : Level) → session_at σ.sessions n ≡ Some s → level_in s.watching t ≡ Some l → RowsSince n t l log (rows_of σ.tables t)
  rows_since n s t l here watched = by_table (find (serial sub.earlier) t) refl there
    where
      sub : IsInForceSince n t l log
      sub = in_force_stands n t l log (sym ((logged.sessions n s here).watching t) ∙ watched)

      all : AllWereInForce [] (sub.earlier ++ Subscribed n t l sub.dump ∷ sub.since)
      all = subst (λ (es : List Entry). AllWereInForce [] es) sub.is stood

      there : is_some (find (serial sub.earlier) t) ≡ true
      there = (stood-rest [] sub.earlier (Subscribed n t l sub.dump ∷ sub.since) all).0

      serial_rows : rows_of σ.tables t ≡ rows_of (serial log) t
      serial_rows = ap (λ w. rows_of w t) logged.tables

      now : (x : Table) → find (serial sub.earlier) t ≡ Some x → rows_of σ.tables t ≡ rows_after x.def.kind x.rows (changes_on t sub.since)
      now x e = serial_rows ∙ since_applies n t l log x logged.legal sub e ∙ ap (λ (o : Option Table). rows_after x.def.kind (rows_in o) (changes_on t sub.since)) e

      by_table : (o : Option Table) → find (serial sub.earlier) t ≡ o → is_some o ≡ true → RowsSince n t l log (rows_of σ.tables t)
      by_table None e h = cc
      by_table (Some x) e h = record {
        subscription = sub;
        table = x;
        stood = e;
        now = now x e;
        told = now x e ∙ ap (rows_after x.def.kind x.rows) (sym (items_tell n t l log logged.legal aged sub));
        dumped = λ records d. serial_rows ∙ dump_applies n t l log x records logged.legal sub e d;
      }
