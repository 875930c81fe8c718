-- A run goes on by one step; and whatever log led to its first state goes on with the run's.
use Rattle.std.proofs.Common.{◌≡◌, ℕ, List, [], ◌∷◌, ◌++◌, refl, sym, ap, subst, ◌∙◌, inl, inr, append_assoc, append-nil, true}
use Rattle.std.specs.Prelude.{Bool, false, ◌==◌, if◌then◌else◌, Result, Ok, Err, IfOk}
use Rattle.std.specs.declared.alloc.AllocError.{AllocError}
use Rattle.tab_model.specs.declared.data.Entry.{Entry}
use Rattle.tab_model.specs.declared.data.Item.{Item}
use Rattle.tab_model.specs.declared.data.Reply.{Reply}
use Rattle.tab_model.specs.State.{State, IsSound}
use Rattle.tab_model.specs.Reached.{IsRising}
use Rattle.tab_model.specs.Outcome.{Ask, outcome}
use Rattle.tab_model.specs.Run.{entries, delivered_by, JoinsEmpty, IsTied, item_of}
use Rattle.tab_model.proofs.SoundSteps.{step_sound}
use Rattle.tab_model.proofs.ReachedWaits.{step_rising}
use Rattle.tab_model.proofs.TiedSteps.{step_tied}
use Rattle.tab_model.specs.declared.ask.Ask.{Ask as AskWith}
use Rattle.tab_core.specs.declared.step.Stepped.{Stepped}
use Rattle.tab_model.specs.State.{Outbox}
use Rattle.tab_core.specs.Runs.{ask_of, asks_of, AllJoinEmpty, StepsTo, StepsOrNoMemory, RunsTo, taken_in}

-- the run so far, in a form that the rest completes
pub record IsRunning {P : Type 0} (f : P → Outbox) (first now : State) (all rest : List (ℕ × AskWith P)) (told : List Reply) : Type 0 where
  pub log : List Entry
  pub onward : (rs : List Reply) (more : List Entry) (τ : State) → RunsTo now (asks_of f rest) rs more τ → RunsTo first (asks_of f all) (told ++ rs) (log ++ more) τ

pub starts : {P : Type 0} (f : P → Outbox) (σ : State) (steps : List (ℕ × AskWith P)) → IsRunning f σ σ steps steps []
starts f σ steps = record { log = []; onward = λ rs more τ r. r }

pub takes_of : (σ μ : State) (n : ℕ) (a : Ask) (s : Stepped) → StepsTo σ n a s μ → StepsOrNoMemory σ (n, a) s.reply (entries s.entry) μ
takes_of σ μ n a s (over, allowed, m) = inl (over, allowed, ap (λ o. o.state) m, ap (λ o. o.reply) m, ap (λ o. entries o.entry) m)

pub goes_on : {P : Type 0} (f : P → Outbox) (first σ μ : State) (all rest : List (ℕ × AskWith P)) (s : ℕ × AskWith P) (told : List Reply) (r : Reply) (es : List Entry) → StepsOrNoMemory σ (s.0, ask_of f s.1) r es μ → IsRunning f first σ all (s ∷ rest) told → IsRunning f first μ all rest (told ++ r ∷ [])
goes_on f first σ μ all rest s told r es t h = record {
  log = h.log ++ es;
  onward = λ rs more τ ran. subst (λ (xs : List Reply). RunsTo first (asks_of f all) xs ((h.log ++ es) ++ more) τ) (sym (append_assoc told (r ∷ []) rs))
      (subst (λ (l : List Entry). RunsTo first (asks_of f all) (told ++ r ∷ rs) l τ) (sym (append_assoc h.log es more)) (h.onward (r ∷ rs) (es ++ more) τ (μ, es, more, t, ran, refl)));
}

pub ends_with : {P : Type 0} (f : P → Outbox) (first σ : State) (all : List (ℕ × AskWith P)) (told : List Reply) → IsRunning f first σ all [] told → (log : List Entry) × RunsTo first (asks_of f all) told log σ
ends_with f first σ all told h = (
  h.log,
  subst (λ (xs : List Reply). RunsTo first (asks_of f all) xs h.log σ) (append-nil told)
      (subst (λ (l : List Entry). RunsTo first (asks_of f all) (told ++ []) l σ) (append-nil h.log) (h.onward [] [] σ (refl, refl))),
)

-- a reply without an item gives none to take
no_item : (m n : ℕ) (r : Reply) → item_of r ≡ [] → [] ≡ delivered_by m n r
no_item m n r e = cases (m == n)
  where
    cases : (b : Bool) → [] ≡ (if b then item_of r else [])
    cases true = sym e
    cases false = refl

-- where nothing more happens, a history stays
rests_tied : (σ τ : State) (log : List Entry) (taken : ℕ → List Item) → τ ≡ σ → IsTied σ log taken → IsTied τ (log ++ []) (λ m. taken m ++ [])
rests_tied σ τ log taken same tied = subst (λ (x : State). IsTied x (log ++ []) (λ m. taken m ++ [])) (sym same)
    (subst (λ (l : List Entry). IsTied σ l (λ m. taken m ++ [])) (sym (append-nil log)) (subst (λ (f : ℕ → List Item). IsTied σ log f) (λ i m. sym (append-nil (taken m)) i) tied))

-- and where an answer that changes nothing gives nothing to take
quiet_tied : (σ μ : State) (n : ℕ) (r : Reply) (log : List Entry) (taken : ℕ → List Item) → μ ≡ σ → item_of r ≡ [] → IsTied σ log taken → IsTied μ (log ++ []) (λ m. taken m ++ delivered_by m n r)
quiet_tied σ μ n r log taken same e tied =
    subst (λ (f : ℕ → List Item). IsTied μ (log ++ []) f) (λ i m. taken m ++ no_item m n r e i) (rests_tied σ μ log taken same tied)

-- what one step leaves
step_takes : (σ μ : State) (a : ℕ × Ask) (r : Reply) (es log : List Entry) (taken : ℕ → List Item) → StepsOrNoMemory σ a r es μ → JoinsEmpty a.1 → IsSound σ → IsTied σ log taken → IsSound μ × IsTied μ (log ++ es) (λ m. taken m ++ delivered_by m a.0 r)
step_takes σ μ a r es log taken (inl (over, allowed, st, rp, en)) empty sound tied = (
  subst IsSound st (step_sound σ over a.0 a.1 sound),
  subst (λ (x : State). IsTied x (log ++ es) (λ m. taken m ++ delivered_by m a.0 r)) st
      (subst (λ (l : List Entry). IsTied (outcome σ over a.0 a.1).state (log ++ l) (λ m. taken m ++ delivered_by m a.0 r)) en
      (subst (λ (q : Reply). IsTied (outcome σ over a.0 a.1).state (log ++ entries (outcome σ over a.0 a.1).entry) (λ m. taken m ++ delivered_by m a.0 q)) rp
      (step_tied σ log taken over a.0 a.1 sound empty tied))),
)
step_takes σ μ a r es log taken (inr (takes, rp, en, st)) empty sound tied = (
  subst IsSound (sym st) sound,
  subst (λ (l : List Entry). IsTied μ (log ++ l) (λ m. taken m ++ delivered_by m a.0 r)) (sym en) (quiet_tied σ μ a.0 r log taken st (ap item_of rp) tied),
)

-- whatever history led to the state before a step goes on with the step's entry and what it took
pub step_goes_on : (σ μ : State) (n : ℕ) (a : Ask) (r : Result Stepped AllocError) → IfOk r (λ s. StepsTo σ n a s μ) → IsSound σ
    → IfOk r (λ s. JoinsEmpty a → (log : List Entry) (taken : ℕ → List Item) → IsTied σ log taken → IsTied μ (log ++ entries s.entry) (λ m. taken m ++ delivered_by m n s.reply))
step_goes_on σ μ n a (Ok s) made sound = λ empty log taken tied. (step_takes σ μ (n, a) s.reply (entries s.entry) log taken (takes_of σ μ n a s made) empty sound tied).1
step_goes_on σ μ n a (Err e) made sound = tt

-- what every reached state has
step_keeps : (σ μ : State) (a : ℕ × Ask) (r : Reply) (es : List Entry) → StepsOrNoMemory σ a r es μ → IsSound σ → IsRising σ → IsSound μ × IsRising μ
step_keeps σ μ a r es (inl (over, allowed, st, rp, en)) sound rising = (subst IsSound st (step_sound σ over a.0 a.1 sound), subst IsRising st (step_rising σ over a.0 a.1 sound rising))
step_keeps σ μ a r es (inr (takes, rp, en, st)) sound rising = (subst IsSound (sym st) sound, subst IsRising (sym st) rising)

pub run_keeps : (σ τ : State) (asks : List (ℕ × Ask)) (rs : List Reply) (run : List Entry) → RunsTo σ asks rs run τ → IsSound σ → IsRising σ → IsSound τ × IsRising τ
run_keeps σ τ [] [] run ran sound rising = (subst IsSound ran.1 sound, subst IsRising ran.1 rising)
run_keeps σ τ (a ∷ asks) [] run ran sound rising = absurd ran
run_keeps σ τ [] (r ∷ rs) run ran sound rising = absurd ran
run_keeps σ τ (a ∷ asks) (r ∷ rs) run (μ, es, rest, t, ran, is) sound rising = let one = step_keeps σ μ a r es t sound rising in run_keeps μ τ asks rs rest ran one.0 one.1

-- whatever history led to the first state goes on to the last
pub history_goes_on : (σ τ : State) (asks : List (ℕ × Ask)) (rs : List Reply) (run : List Entry) → RunsTo σ asks rs run τ → AllJoinEmpty asks → IsSound σ → (log : List Entry) (taken : ℕ → List Item) → IsTied σ log taken
    → IsTied τ (log ++ run) (λ m. taken m ++ taken_in m asks rs)
history_goes_on σ τ [] [] run ran empty sound log taken tied =
    subst (λ (l : List Entry). IsTied τ (log ++ l) (λ m. taken m ++ [])) (sym ran.0) (rests_tied σ τ log taken (sym ran.1) tied)
history_goes_on σ τ (a ∷ asks) [] run ran empty sound log taken tied = absurd ran
history_goes_on σ τ [] (r ∷ rs) run ran empty sound log taken tied = absurd ran
history_goes_on σ τ (a ∷ asks) (r ∷ rs) run (μ, es, rest, t, ran, is) empty sound log taken tied =
    let one = step_takes σ μ a r es log taken t empty.0 sound tied in
    let all = history_goes_on μ τ asks rs rest ran empty.1 one.0 (log ++ es) (λ m. taken m ++ delivered_by m a.0 r) one.1 in
    subst (λ (l : List Entry). IsTied τ l (λ m. taken m ++ taken_in m (a ∷ asks) (r ∷ rs))) (append_assoc log es rest ∙ ap (λ l. log ++ l) (sym is))
    (subst (λ (f : ℕ → List Item). IsTied τ ((log ++ es) ++ rest) f) (λ i m. append_assoc (taken m) (delivered_by m a.0 r) (taken_in m asks rs) i) all)
