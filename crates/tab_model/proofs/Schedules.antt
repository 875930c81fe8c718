-- Any list of steps: what its last state keeps, and what its log says of it.
use Rattle.std.proofs.Common.{◌≡◌, ℕ, List, [], ◌∷◌, ◌++◌, refl, sym, subst, append-nil, append_assoc, Some}
use Rattle.tab_model.specs.declared.data.Item.{Item}
use Rattle.tab_model.specs.declared.data.Entry.{Entry}
use Rattle.tab_model.specs.declared.data.Level.{Level}
use Rattle.tab_model.specs.declared.data.Limits.{Limits}
use Rattle.tab_model.specs.Catalogs.{rows_of}
use Rattle.tab_model.specs.Alone.{start, replies}
use Rattle.tab_model.specs.Log.{serial, IsLegal}
use Rattle.tab_model.specs.Slices.{slice}
use Rattle.tab_model.specs.Since.{AllWereInForce, RowsSince}
use Rattle.tab_model.specs.State.{Session, State, new, session_at, age_at, moves_at, replies_at, level_in, IsSound}
use Rattle.tab_model.specs.Outcome.{Outcome}
use Rattle.tab_model.specs.Run.{Call, outcome_of, after_all, entries, log_of, delivered_by, delivered_to, AllJoinEmpty, IsTied}
use Rattle.tab_model.proofs.TiedSteps.{new_tied, step_tied}
use Rattle.tab_model.proofs.SoundSteps.{step_sound}

pub new_sound : (limits : Limits) → IsSound (new limits)
new_sound limits = record {
  told = λ n. refl;
  apart = λ m n d. refl;
  ages = λ m n t u e f g. cc;
  taken = λ n t e. cc;
  joined = λ n s e. cc;
  distinct = tt;
  ordered = λ n t e. cc;
}

pub run_sound : (σ : State) (calls : List Call) → IsSound σ → IsSound (after_all σ calls)
run_sound σ [] sound = sound
run_sound σ (c ∷ calls) sound = run_sound (outcome_of σ c).state calls (step_sound σ c.over c.session c.ask sound)

-- the log and the items taken go on
pub run_tied : (σ : State) (log : List Entry) (taken : ℕ → List Item) (calls : List Call) → IsSound σ → AllJoinEmpty calls → IsTied σ log taken → IsTied (after_all σ calls) (log ++ log_of σ calls) (λ m. taken m ++ delivered_to m σ calls)
run_tied σ log taken [] sound empty t = subst (λ (l : List Entry). IsTied σ l (λ m. taken m ++ [])) (sym (append-nil log)) (subst (λ (f : ℕ → List Item). IsTied σ log f) (λ i m. sym (append-nil (taken m)) i) t)
run_tied σ log taken (c ∷ calls) sound empty t =
    let o : Outcome = outcome_of σ c in
    let before = step_tied σ log taken c.over c.session c.ask sound empty.0 t in
    let all = run_tied o.state (log ++ entries o.entry) (λ m. taken m ++ delivered_by m c.session o.reply) calls (step_sound σ c.over c.session c.ask sound) empty.1 before in
    subst (λ (l : List Entry). IsTied (after_all o.state calls) l (λ m. taken m ++ delivered_to m σ (c ∷ calls))) (append_assoc log (entries o.entry) (log_of o.state calls))
    (subst (λ (f : ℕ → List Item). IsTied (after_all o.state calls) ((log ++ entries o.entry) ++ log_of o.state calls) f) (λ i m. append_assoc (taken m) (delivered_by m c.session o.reply) (delivered_to m o.state calls) i) all)

pub tied : (limits : Limits) (calls : List Call) → AllJoinEmpty calls → IsTied (after_all (new limits) calls) (log_of (new limits) calls) (λ m. delivered_to m (new limits) calls)
tied limits calls empty = run_tied (new limits) [] (λ m. []) calls (new_sound limits) empty (new_tied limits)

pub schedule_legal : (limits : Limits) (calls : List Call) → AllJoinEmpty calls → IsLegal [] 0 (log_of (new limits) calls)
schedule_legal limits calls empty = (tied limits calls empty).legal

pub schedule_tables : (limits : Limits) (calls : List Call) → AllJoinEmpty calls → (after_all (new limits) calls).tables ≡ serial (log_of (new limits) calls)
schedule_tables limits calls empty = (tied limits calls empty).tables

pub schedule_told : (limits : Limits) (calls : List Call) (n : ℕ) → replies (start (after_all (new limits) calls).tables (age_at (after_all (new limits) calls) n)) (moves_at (after_all (new limits) calls) n) ≡ replies_at (after_all (new limits) calls) n
schedule_told limits calls n = (run_sound (new limits) calls (new_sound limits)).told n

pub schedule_rows : (limits : Limits) (calls : List Call) (n : ℕ) (s : Session) → AllJoinEmpty calls → session_at (after_all (new limits) calls).sessions n ≡ Some s → delivered_to n (new limits) calls ++ s.outbox.items ≡ slice n (log_of (new limits) calls)
schedule_rows limits calls n s empty here = ((tied limits calls empty).sessions n s here).items

pub schedule_stood : (limits : Limits) (calls : List Call) → AllJoinEmpty calls → AllWereInForce [] (log_of (new limits) calls)
schedule_stood limits calls empty = (tied limits calls empty).stood

pub schedule_applied : (limits : Limits) (calls : List Call) (n : ℕ) (s : Session) (t : List ℕ) (l : Level) → AllJoinEmpty calls → session_at (after_all (new limits) calls).sessions n ≡ Some s → level_in s.watching t ≡ Some l
    → RowsSince n t l (log_of (new limits) calls) (rows_of (after_all (new limits) calls).tables t)
schedule_applied limits calls n s t l empty = (tied limits calls empty).since n s t l
