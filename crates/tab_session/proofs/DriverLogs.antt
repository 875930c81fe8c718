-- What the calls of a one-shot's driver put into the log: the commits of their session, each as its transaction is told alone.
use Rattle.std.proofs.Common.{◌≡◌, ℕ, suc, ◌+◌, List, [], ◌∷◌, ◌++◌, Bool, true, false, length, refl, sym, ap, subst, ◌∙◌, inl, inr, arith, ◌⊎◌, Option, Some, None}
use Rattle.tab_term.specs.declared.term.Term.{Term}
use Rattle.tab_model.specs.declared.data.Operation.{Operation}
use Rattle.tab_model.specs.declared.data.Command.{Command}
use Rattle.tab_model.specs.declared.data.Command.TheVariants as command
use Rattle.tab_model.specs.declared.data.Entry.{Entry}
use Rattle.tab_model.specs.declared.data.Entry.TheVariants.{Committed}
use Rattle.tab_model.specs.Catalogs.{Catalog}
use Rattle.tab_model.specs.Ages.{Answer, Granted, Wait, Die}
use Rattle.tab_model.specs.Alone.{start, after, replies}
use Rattle.tab_model.specs.State.{Transaction, Session, State, session_at, transaction_at, transaction_in, mid_of, age_in, moves_in, replies_in, IsSound}
use Rattle.tab_model.specs.declared.ask.Ask.TheVariants.{Do as DoCommand}
use Rattle.tab_model.specs.Outcome.{Outcome, outcome, by_lock_answer, operate, begin, one_shot, abort, commit, do_command, step_of}
use Rattle.tab_model.proofs.StepCases.{within_limit, open_level_1, open_child, commit_at, command_if}
use Rattle.tab_model.specs.Run.{entries}
use Rattle.tab_model.proofs.SessionLists.{found}
use Rattle.tab_model.proofs.SoundSteps.{step_sound}
use Rattle.tab_oneshot.specs.Calls.{Call, Asked, Waited, Again}
use Rattle.tab_oneshot.proofs.LastReplies.{is_handed, AllHanded}
use Rattle.tab_session.specs.OneSessions.{Ran}
use Rattle.tab_session.specs.Accounts.{IsCommitOf, IsOneCommit, of_calls}

-- ---- one step

abbrev Quiet : State → Outcome → Type 0
Quiet σ o = (o.entry ≡ None) × (o.state.tables ≡ σ.tables) × (o.state.commits ≡ σ.commits)

-- a commit of the session's transaction
record Enters (σ : State) (over : List ℕ) (n : ℕ) (o : Outcome) : Type 0 where
  pub transaction : Transaction
  pub opened : transaction_at σ n ≡ Some transaction
  pub entry : o.entry ≡ Some (Committed (σ.commits + 1) n transaction.age transaction.moves transaction.told over)
  pub tables : o.state.tables ≡ (mid_of σ transaction).now
  pub commits : o.state.commits ≡ suc σ.commits

abbrev Does : State → List ℕ → ℕ → Outcome → Type 0
Does σ over n o = Quiet σ o ⊎ Enters σ over n o

module _ (σ : State) (over : List ℕ) (n : ℕ) (s : Session) (here : session_at σ.sessions n ≡ Some s) where
  opens : (b : Bool) → Quiet σ (open_level_1 σ s b)
  opens false = (refl, refl, refl)
  opens true = (refl, refl, refl)

  nests : (t : Transaction) (a b : Bool) → Quiet σ (open_child σ s t a b)
  nests t false b = (refl, refl, refl)
  nests t true false = (refl, refl, refl)
  nests t true true = (refl, refl, refl)

  begins : (o : Option Transaction) → Quiet σ (begin σ s o)
  begins None = opens _
  begins (Some t) = nests t _ _

  takes : (o : Option Transaction) → Quiet σ (one_shot σ s o)
  takes None = opens _
  takes (Some t) = (refl, refl, refl)

  aborts : (r : Term) (o : Option Transaction) → Quiet σ (abort σ s r o)
  aborts r None = (refl, refl, refl)
  aborts r (Some t) = (refl, refl, refl)

  decides : (t : Transaction) (o : Operation) (a : Answer) → Quiet σ (by_lock_answer σ s t o a)
  decides t o Granted = (refl, refl, refl)
  decides t o Wait = (refl, refl, refl)
  decides t o Die = (refl, refl, refl)

  limits : (t : Transaction) (o : Operation) (b : Bool) → Quiet σ (within_limit σ s t o b)
  limits t o false = (refl, refl, refl)
  limits t o true = decides t o _

  operates : (x : Operation) (o : Option Transaction) → Quiet σ (operate σ s x o)
  operates x None = (refl, refl, refl)
  operates x (Some t) = limits t x _

  commits_at : (t : Transaction) (b : Bool) → s.transaction ≡ Some t → Does σ over n (commit_at σ over s t b)
  commits_at t false e = inl (refl, refl, refl)
  commits_at t true e = inr (record {
    transaction = t;
    opened = ap transaction_in here ∙ e;
    entry = ap (λ (j : ℕ). Some (Committed (σ.commits + 1) j t.age t.moves t.told over)) (found σ.sessions s n here);
    tables = refl;
    commits = omega arith;
  })

  commits : (o : Option Transaction) → s.transaction ≡ o → Does σ over n (commit σ over s o)
  commits None e = inl (refl, refl, refl)
  commits (Some t) e = commits_at t _ e

  does : (c : Command) → is_handed c ≡ true → Does σ over n (do_command σ over s c)
  does command.Begin h = inl (begins s.transaction)
  does command.Commit h = commits s.transaction refl
  does (command.Abort r) h = inl (aborts r s.transaction)
  does (command.Do o) h = inl (operates o s.transaction)
  does (command.OneShot parts retries) h = inl (takes s.transaction)
  does c h = cc

  commands : (c : Command) (b : Bool) → is_handed c ≡ true → Does σ over n (command_if σ over s c b)
  commands c true h = inl (refl, refl, refl)
  commands c false h = does c h

steps : (σ : State) (over : List ℕ) (n : ℕ) (c : Command) → is_handed c ≡ true → Does σ over n (outcome σ over n (DoCommand c))
unfolding outcome
steps σ over n c h = cases (session_at σ.sessions n) refl
  where
    cases : (x : Option Session) → session_at σ.sessions n ≡ x → Does σ over n (step_of σ over n (DoCommand c) x)
    cases None e = inl (refl, refl, refl)
    cases (Some s) e = commands σ over n s e c _ h

-- ---- calls

-- each entry is a commit of the session on what the one before it left, and the state is what the last left
abbrev Logs : ℕ → Catalog → ℕ → List Entry → State → Type 0
Logs n w k [] μ = (μ.tables ≡ w) × (μ.commits ≡ k)
Logs n w k (e ∷ es) μ = (c : IsCommitOf n w k e) × Logs n (after (start w c.age) c.moves).now (suc k) es μ

module _ (n : ℕ) (σ μ : State) (over : List ℕ) (log : List Entry) (sound : IsSound σ) where
  after_step : (o : Outcome) → Does σ over n o → Logs n o.state.tables o.state.commits log μ → Logs n σ.tables σ.commits (entries o.entry ++ log) μ
  after_step o (inl (none_entered, same, as_many)) h =
      subst (λ (x : Option Entry). Logs n σ.tables σ.commits (entries x ++ log) μ) (sym none_entered)
      (subst (λ (w : Catalog). Logs n w σ.commits log μ) same (subst (λ (k : ℕ). Logs n o.state.tables k log μ) as_many h))
  after_step o (inr e) h =
      subst (λ (x : Option Entry). Logs n σ.tables σ.commits (entries x ++ log) μ) (sym e.entry) (
        record {
          age = e.transaction.age;
          moves = e.transaction.moves;
          told = e.transaction.told;
          over = over;
          is = ap (λ (j : ℕ). Committed j n e.transaction.age e.transaction.moves e.transaction.told over) (omega arith);
          alone = subst (λ (x : Option Transaction). replies (start σ.tables (age_in x)) (moves_in x) ≡ replies_in x) e.opened (sound.told n);
        },
        subst (λ (w : Catalog). Logs n w (suc σ.commits) log μ) e.tables (subst (λ (k : ℕ). Logs n o.state.tables k log μ) e.commits h),
      )

logged : (n : ℕ) (σ μ : State) (calls : List Call) → IsSound σ → AllHanded calls → (ran : Ran n σ calls μ) → Logs n σ.tables σ.commits (of_calls n σ calls μ ran).log μ
logged n σ μ [] sound h ran = (ap (λ (τ : State). τ.tables) ran, ap (λ (τ : State). τ.commits) ran)
logged n σ μ (Asked c r ∷ calls) sound (h, hs) (ρ, inl made, ran) =
    after_step n σ μ made.over _ sound (record { state = ρ; reply = r; entry = made.entry }) (subst (Does σ made.over n) made.made (steps σ made.over n c h))
    (logged n ρ μ calls (subst IsSound (ap (λ (o : Outcome). o.state) made.made) (step_sound σ made.over n (DoCommand c) sound)) hs ran)
logged n σ μ (Asked c r ∷ calls) sound (h, hs) (ρ, inr (takes, none_told, same), ran) =
    subst (λ (τ : State). Logs n τ.tables τ.commits (of_calls n ρ calls μ ran).log μ) same (logged n ρ μ calls (subst IsSound (sym same) sound) hs ran)
logged n σ μ (Waited v ∷ calls) sound h (e, ran) = logged n σ μ calls sound h ran
logged n σ μ (Again ∷ calls) sound h ran = logged n σ μ calls sound h ran

counted : (n : ℕ) (w : Catalog) (k : ℕ) (log : List Entry) (μ : State) → Logs n w k log μ → μ.commits ≡ length log + k
counted n w k [] μ h = omega (arith, h.1)
counted n w k (e ∷ es) μ (c, h) = omega (arith, counted n (after (start w c.age) c.moves).now (suc k) es μ h)

-- ---- what the count of commits says of the log

one_entry : (n : ℕ) (σ μ : State) (log : List Entry) → Logs n σ.tables σ.commits log μ → μ.commits ≡ suc σ.commits → IsOneCommit σ n log μ
one_entry n σ μ [] h e = absurd (omega (arith, h.1, e))
one_entry n σ μ (x ∷ []) (c, h) e = record { entry = x; is = refl; commit = c; leaves = sym h.0 }
one_entry n σ μ (x ∷ y ∷ es) h e = absurd (omega (arith, counted n σ.tables σ.commits (x ∷ y ∷ es) μ h, e))

no_entry : (n : ℕ) (σ μ : State) (log : List Entry) → Logs n σ.tables σ.commits log μ → μ.commits ≡ σ.commits → log ≡ []
no_entry n σ μ [] h e = refl
no_entry n σ μ (x ∷ es) h e = absurd (omega (arith, counted n σ.tables σ.commits (x ∷ es) μ h, e))

pub logs_one : (n : ℕ) (σ μ : State) (calls : List Call) → IsSound σ → AllHanded calls → (ran : Ran n σ calls μ) → μ.commits ≡ suc σ.commits → IsOneCommit σ n (of_calls n σ calls μ ran).log μ
logs_one n σ μ calls sound h ran e = one_entry n σ μ _ (logged n σ μ calls sound h ran) e

pub logs_none : (n : ℕ) (σ μ : State) (calls : List Call) → IsSound σ → AllHanded calls → (ran : Ran n σ calls μ) → μ.commits ≡ σ.commits → (of_calls n σ calls μ ran).log ≡ []
logs_none n σ μ calls sound h ran e = no_entry n σ μ _ (logged n σ μ calls sound h ran) e
