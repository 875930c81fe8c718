-- What each command that a one-shot's driver hands in leaves of its session's transaction, told by the tables that its moves give.
use Rattle.std.proofs.Common.{◌≡◌, ℕ, suc, ◌+◌, List, [], ◌∷◌, Bool, true, false, ◌&&◌, refl, sym, ap, subst, ◌∙◌, inl, inr, arith, ◌⊎◌, Option, Some, None}
use Rattle.std.proofs.Math.Bool.{and-false}
use Rattle.std.specs.Prelude.{◌==◌, not, if◌then◌else◌, is_some}
use Rattle.tab_term.specs.declared.term.Term.{Term}
use Rattle.tab_model.specs.declared.data.Event.{Event}
use Rattle.tab_model.specs.declared.data.Operation.{Operation}
use Rattle.tab_model.specs.declared.data.Move.{Move}
use Rattle.tab_model.specs.declared.data.Move.TheVariants.{Do, Open, Close, Undo}
use Rattle.tab_model.specs.declared.data.Command.{Command}
use Rattle.tab_model.specs.declared.data.Command.TheVariants as command
use Rattle.tab_model.specs.declared.data.Part.{Part}
use Rattle.tab_model.specs.declared.data.Reply.{Reply}
use Rattle.tab_model.specs.declared.data.Reply.TheVariants as reply
use Rattle.tab_model.specs.Catalogs.{Catalog, find}
use Rattle.tab_model.specs.Operations.{table_of, failure, answer, effect}
use Rattle.tab_model.specs.Ages.{Answer, Granted, Wait, Die}
use Rattle.tab_model.specs.Alone.{Mid, next, back, back_to, reply_to, start}
use Rattle.tab_model.specs.State.{Transaction, Session, Queued, State, session_at, transaction_at, transaction_in, mid_of, is_waiting, request_in, without_request}
use Rattle.tab_model.specs.declared.ask.Ask.TheVariants.{Do as DoCommand}
use Rattle.tab_model.specs.Outcome.{Outcome, outcome, with_changed, with_transaction, with_queue, ends_transaction, make, is_empty, by_lock_answer, operate, begin, one_shot, abort, commit_now, commit, do_command, step_of, after_put, batch_to, events_now, begun_anew, with_move, is_abort, after_overflow, with_items}
use Rattle.tab_model.proofs.StepCases.{after_move, within_limit, open_level_1, open_child, commit_at, command_if}
use Rattle.tab_model.specs.Log.{has_session}
use Rattle.tab_model.proofs.SessionLists.{found, session_at-map, mapped}
use Rattle.tab_model.proofs.OperationAnswers.{answers}
use Rattle.tab_model.proofs.RefusalLaws.{after-more}
use Rattle.tab_oneshot.specs.declared.answer.Sort.{Sort}
use Rattle.tab_oneshot.specs.declared.answer.Sort.TheVariants as sort
use Rattle.tab_oneshot.specs.Attempts.{sort_of}
use Rattle.tab_session.specs.StepsMade.{StepMadeOrRefused}
use Rattle.tab_session.proofs.DriverSteps.{placed}

-- {atomic, Replies} is the driver's own
abbrev pub is_atomic : Reply → Bool
is_atomic (reply.AtomicTerms ts) = true
is_atomic r = false

-- ---- the queue

none_of : (qs : List Queued) (n : ℕ) → is_some (request_in (without_request qs n) n) ≡ false
none_of [] n = refl
none_of (q ∷ qs) n = cases (q.session == n) refl (none_of qs n)
  where
    cases : (b : Bool) → (q.session == n) ≡ b → is_some (request_in (without_request qs n) n) ≡ false → is_some (request_in (if not b then q ∷ without_request qs n else without_request qs n) n) ≡ false
    cases true e ih = ih
    cases false e ih = subst (λ (b : Bool). is_some (if b then Some q else request_in (without_request qs n) n) ≡ false) (sym e) ih

-- session n has a transaction of age a, or none, on tables w after k commits
module _ (n : ℕ) (w : Catalog) (k a : ℕ) where
  -- the transaction stands so, alone
  pub record Within (m : Mid) (σ : State) : Type 0 where
    pub transaction : Transaction
    pub opened : transaction_at σ n ≡ Some transaction
    pub age : transaction.age ≡ a
    pub mid : mid_of σ transaction ≡ m
    pub tables : σ.tables ≡ w
    pub commits : σ.commits ≡ k

  -- and has no operation queued
  pub record Inside (m : Mid) (σ : State) : Type 0 where
    pub stands : Within m σ
    pub free : is_waiting σ n ≡ false

  -- the transaction is no more, and the tables are as before it
  pub record Outside (σ : State) : Type 0 where
    pub none : transaction_at σ n ≡ None
    pub free : is_waiting σ n ≡ false
    pub tables : σ.tables ≡ w
    pub commits : σ.commits ≡ k

  -- the transaction is committed
  pub record Committed (v : Catalog) (σ : State) : Type 0 where
    pub none : transaction_at σ n ≡ None
    pub free : is_waiting σ n ≡ false
    pub tables : σ.tables ≡ v
    pub commits : σ.commits ≡ suc k

  -- the innermost level is ended
  abbrev pub Back : List Catalog → Mid → State → Type 0
  Back [] m μ = Outside μ
  Back (v ∷ vs) m μ = Inside (back_to m (v ∷ vs)) μ

  -- ---- what the answers say

  abbrev pub Did : Sort → Reply → Mid → Operation → State → Type 0
  Did sort.Answered x m o μ = (is_some (failure m.now o) ≡ false) × (x ≡ answer m.now o) × Inside (next m (Do o)) μ
  Did sort.Failed x m o μ = (is_some (failure m.now o) ≡ true) × (x ≡ answer m.now o) × Back m.saved m μ
  Did sort.Restarted x m o μ = Inside (start w a) μ
  Did sort.Refused x m o μ = Inside m μ
  Did sort.Waits x m o μ = Within m μ
  Did s x m o μ = ⊥

  abbrev pub Aborted : Sort → Reply → Mid → Term → State → Type 0
  Aborted sort.Aborted x m r μ = (x ≡ reply.UserAbort r) × Back m.saved m μ
  Aborted s x m r μ = ⊥

  abbrev pub Began : Sort → Mid → State → Type 0
  Began sort.Opened m μ = Inside (next m Open) μ
  Began sort.Refused m μ = Inside m μ
  Began s m μ = ⊥

  abbrev pub Closed : Sort → List Catalog → Mid → State → Type 0
  Closed sort.Joined (v ∷ vs) m μ = Inside (next m Close) μ
  Closed sort.Committed [] m μ = Committed m.now μ
  Closed sort.Refused vs m μ = Inside m μ
  Closed s vs m μ = ⊥

  abbrev pub Opened : Sort → Reply → State → Type 0
  Opened sort.Opened x μ = Inside (start w a) μ
  Opened s x μ = (is_atomic x ≡ false) × Outside μ

  -- the same of an outcome
  abbrev DidSo : Mid → Operation → Outcome → Type 0
  DidSo m o x = Did (sort_of x.reply) x.reply m o x.state

  abbrev AbortedSo : Mid → Term → Outcome → Type 0
  AbortedSo m r x = Aborted (sort_of x.reply) x.reply m r x.state

  abbrev BeganSo : Mid → Outcome → Type 0
  BeganSo m x = Began (sort_of x.reply) m x.state

  abbrev ClosedSo : Mid → Outcome → Type 0
  ClosedSo m x = Closed (sort_of x.reply) m.saved m x.state

  abbrev OpenedSo : Outcome → Type 0
  OpenedSo x = Opened (sort_of x.reply) x.reply x.state

  -- ---- moves

  module _ (σ : State) (s : Session) (t : Transaction) (here : session_at σ.sessions n ≡ Some s) (has : s.transaction ≡ Some t) (aged : t.age ≡ a) (tables : σ.tables ≡ w) (commits : σ.commits ≡ k) (free : is_waiting σ n ≡ false) where
    goes_on : (x : Move) (r : Reply) → ends_transaction (mid_of σ t) x ≡ false → Inside (next (mid_of σ t) x) (make σ s t x r).state
    goes_on x r e = record {
      stands = record {
        transaction = with_move t x (reply_to (mid_of σ t) x);
        opened = placed σ n s here _ ∙ ap (after_move t x (reply_to (mid_of σ t) x)) e;
        age = aged;
        mid = after-more (start σ.tables t.age) t.moves x;
        tables = tables;
        commits = commits;
      };
      free = free;
    }

    is_over : (x : Move) (r : Reply) → ends_transaction (mid_of σ t) x ≡ true → Outside (make σ s t x r).state
    is_over x r e = record { none = placed σ n s here _ ∙ ap (after_move t x (reply_to (mid_of σ t) x)) e; free = free; tables = tables; commits = commits }

    -- a move that goes back
    goes_back : (x : Move) (r : Reply) (ws : List Catalog) → (mid_of σ t).saved ≡ ws → next (mid_of σ t) x ≡ back (mid_of σ t) → ends_transaction (mid_of σ t) x ≡ is_empty (mid_of σ t).saved → Back ws (mid_of σ t) (make σ s t x r).state
    goes_back x r [] e f g = is_over x r (g ∙ ap is_empty e)
    goes_back x r (v ∷ vs) e f g = subst (λ (m : Mid). Inside m (make σ s t x r).state) (f ∙ ap (back_to (mid_of σ t)) e) (goes_on x r (g ∙ ap is_empty e))

    as_it_stands : Inside (mid_of σ t) σ
    as_it_stands = record { stands = record { transaction = t; opened = ap transaction_in here ∙ has; age = aged; mid = refl; tables = tables; commits = commits }; free = free }

    -- ---- operations

    abbrev Tells : Option Reply → Reply → Type 0
    Tells f r = (is_some f ≡ true) × (sort_of r ≡ sort.Failed) ⊎ (is_some f ≡ false) × (sort_of r ≡ sort.Answered)

    operated : (o : Operation) → DidSo (mid_of σ t) o (make σ s t (Do o) reply.Done)
    operated o = by_failure (answers Tells (record { no_table = λ u. inl (refl, refl); bad_type = λ u r. inl (refl, refl); no_index = λ u a. inl (refl, refl); found = λ rs. inr (refl, refl); done = inr (refl, refl) }) (find m.now (table_of o)) o)
      where
        m : Mid
        m = mid_of σ t

        μ : State
        μ = (make σ s t (Do o) reply.Done).state

        by_failure : Tells (failure m.now o) (answer m.now o) → DidSo m o (make σ s t (Do o) reply.Done)
        by_failure (inl (fails, is)) = subst (λ (q : Sort). Did q (answer m.now o) m o μ) (sym is)
            (fails, refl, goes_back (Do o) reply.Done m.saved refl (ap (λ b. if b then back m else record m { now = effect m.now o }) fails) (ap (λ b. b && is_empty m.saved) fails))
        by_failure (inr (fits, is)) = subst (λ (q : Sort). Did q (answer m.now o) m o μ) (sym is)
            (fits, refl, goes_on (Do o) reply.Done (ap (λ b. b && is_empty m.saved) fits))

    decides : (o : Operation) (d : Answer) → DidSo (mid_of σ t) o (by_lock_answer σ s t o d)
    decides o Granted = operated o
    decides o Wait = record { transaction = t; opened = ap transaction_in here ∙ has; age = aged; mid = refl; tables = tables; commits = commits }
    decides o Die = record {
      stands = record { transaction = begun_anew t; opened = placed σ n s here (Some (begun_anew t)); age = aged; mid = λ i. start (tables i) (aged i); tables = tables; commits = commits };
      free = free;
    }

    limited : (o : Operation) (b : Bool) → DidSo (mid_of σ t) o (within_limit σ s t o b)
    limited o false = as_it_stands
    limited o true = decides o _

    does : (over : List ℕ) (o : Operation) → DidSo (mid_of σ t) o (do_command σ over s (command.Do o))
    does over o = subst (λ (x : Option Transaction). DidSo (mid_of σ t) o (operate σ s o x)) (sym has) (limited o _)

    -- ---- ends and begins of levels

    nests : (b c : Bool) → BeganSo (mid_of σ t) (open_child σ s t b c)
    nests false c = as_it_stands
    nests true false = as_it_stands
    nests true true = goes_on Open reply.Done refl

    begins : (over : List ℕ) → BeganSo (mid_of σ t) (do_command σ over s command.Begin)
    begins over = subst (λ (x : Option Transaction). BeganSo (mid_of σ t) (begin σ s x)) (sym has) (nests _ _)

    -- what a commit puts into the posts leaves the transactions
    given_transaction : (over : List ℕ) (es : List Event) (x : Option Session) → transaction_in (mapped (λ y. after_put (σ.commits + 1) over (batch_to (σ.commits + 1) es y) y) x) ≡ transaction_in x
    unfolding mapped
    given_transaction over es None = refl
    given_transaction over es (Some x) = by (has_session over x.number)
      where
        by : (b : Bool) → (if b then after_overflow (σ.commits + 1) x else record x { outbox = with_items x.outbox (batch_to (σ.commits + 1) es x) }).transaction ≡ x.transaction
        by true = refl
        by false = refl

    given_number : (over : List ℕ) (es : List Event) (x : Session) → (after_put (σ.commits + 1) over (batch_to (σ.commits + 1) es x) x).number ≡ x.number
    given_number over es x = by (has_session over x.number)
      where
        by : (b : Bool) → (if b then after_overflow (σ.commits + 1) x else record x { outbox = with_items x.outbox (batch_to (σ.commits + 1) es x) }).number ≡ x.number
        by true = refl
        by false = refl

    commits_now : (over : List ℕ) (es : List Event) → Committed (mid_of σ t).now (commit_now σ over s t es).state
    commits_now over es = record {
      none = ap transaction_in (session_at-map (λ x. after_put (σ.commits + 1) over (batch_to (σ.commits + 1) es x) x) (given_number over es) (with_changed σ.sessions (with_transaction s None)) n)
          ∙ given_transaction over es (session_at (with_changed σ.sessions (with_transaction s None)) n) ∙ placed σ n s here None;
      free = free;
      tables = refl;
      commits = omega (arith, commits);
    }

    commits_at : (over : List ℕ) (ws : List Catalog) → (mid_of σ t).saved ≡ ws → ClosedSo (mid_of σ t) (commit_at σ over s t (is_empty ws))
    commits_at over [] e = subst (λ (vs : List Catalog). Closed sort.Committed vs (mid_of σ t) (commit_now σ over s t (events_now σ t)).state) (sym e) (commits_now over (events_now σ t))
    commits_at over (v ∷ vs) e = subst (λ (vs : List Catalog). Closed sort.Joined vs (mid_of σ t) (make σ s t Close reply.Done).state) (sym e) (goes_on Close reply.Done refl)

    closes : (over : List ℕ) → ClosedSo (mid_of σ t) (do_command σ over s command.Commit)
    closes over = subst (λ (x : Option Transaction). ClosedSo (mid_of σ t) (commit σ over s x)) (sym has) (commits_at over (mid_of σ t).saved refl)

  -- an abort drops a queued request
  undoes : (σ : State) (s : Session) (t : Transaction) (r : Term) → session_at σ.sessions n ≡ Some s → s.transaction ≡ Some t → t.age ≡ a → σ.tables ≡ w → σ.commits ≡ k → AbortedSo (mid_of σ t) r (abort σ s r (Some t))
  undoes σ s t r here has aged tables commits =
      (refl, goes_back (with_queue σ (without_request σ.queue s.number)) s t here has aged tables commits (subst (λ (j : ℕ). is_some (request_in (without_request σ.queue j) n) ≡ false) (sym (found σ.sessions s n here)) (none_of σ.queue n)) Undo (reply.UserAbort r) (mid_of σ t).saved refl refl refl)

  -- ---- outcomes

  sits : (x : Option Session) (t : Transaction) → transaction_in x ≡ Some t → (s : Session) × (x ≡ Some s) × (s.transaction ≡ Some t)
  sits None t e = cc
  sits (Some s) t e = (s, refl, e)

  -- a command that isn't refused since a request waits
  is_done : (σ : State) (over : List ℕ) (s : Session) (c : Command) → session_at σ.sessions n ≡ Some s → (is_waiting σ n && not (is_abort c)) ≡ false → outcome σ over n (DoCommand c) ≡ do_command σ over s c
  unfolding outcome
  is_done σ over s c here e = ap (step_of σ over n (DoCommand c)) here ∙ ap (command_if σ over s c) (ap (λ (j : ℕ). is_waiting σ j && not (is_abort c)) (found σ.sessions s n here) ∙ e)

  no_wait : (b c : Bool) → b ≡ false → (b && c) ≡ false
  no_wait true c e = cc
  no_wait false c e = refl

  module _ (σ : State) (over : List ℕ) (m : Mid) where
    -- a command that is handed in where nothing is queued does on the session's transaction, which stands at m, what it does on each that stands so
    step_so : (P : Mid → Outcome → Type 0) (c : Command) → ((s : Session) (t : Transaction) → session_at σ.sessions n ≡ Some s → s.transaction ≡ Some t → t.age ≡ a → σ.tables ≡ w → σ.commits ≡ k → P (mid_of σ t) (do_command σ over s c))
        → Inside m σ → P m (outcome σ over n (DoCommand c))
    step_so P c here i =
        let h = i.stands in
        let seated = sits (session_at σ.sessions n) h.transaction h.opened in
        subst (P m) (sym (is_done σ over seated.0 c seated.1 (no_wait _ _ i.free)))
        (subst (λ (p : Mid). P p (do_command σ over seated.0 c)) h.mid (here seated.0 h.transaction seated.1 seated.2 h.age h.tables h.commits))

    does_so : (o : Operation) → Inside m σ → DidSo m o (outcome σ over n (DoCommand (command.Do o)))
    does_so o i = step_so (λ p. DidSo p o) (command.Do o) (λ s t here has aged tables commits. does σ s t here has aged tables commits i.free over o) i

    begins_so : Inside m σ → BeganSo m (outcome σ over n (DoCommand command.Begin))
    begins_so i = step_so BeganSo command.Begin (λ s t here has aged tables commits. begins σ s t here has aged tables commits i.free over) i

    closes_so : Inside m σ → ClosedSo m (outcome σ over n (DoCommand command.Commit))
    closes_so i = step_so ClosedSo command.Commit (λ s t here has aged tables commits. closes σ s t here has aged tables commits i.free over) i

    aborts_so : (r : Term) → Within m σ → AbortedSo m r (outcome σ over n (DoCommand (command.Abort r)))
    aborts_so r h =
        let seated = sits (session_at σ.sessions n) h.transaction h.opened in
        subst (AbortedSo m r) (sym (is_done σ over seated.0 (command.Abort r) seated.1 (and-false (is_waiting σ n))))
        (subst (λ (p : Mid). AbortedSo p r (do_command σ over seated.0 (command.Abort r))) h.mid
        (subst (λ (x : Option Transaction). AbortedSo (mid_of σ h.transaction) r (abort σ seated.0 r x)) (sym seated.2) (undoes σ seated.0 h.transaction r seated.1 seated.2 h.age h.tables h.commits)))

  -- a one-shot is refused, or opens level 1
  opened_so : (σ : State) (over : List ℕ) (parts : List Part) (retries : ℕ) → Outside σ → σ.next_age ≡ a → OpenedSo (outcome σ over n (DoCommand (command.OneShot parts retries)))
  unfolding outcome
  opened_so σ over parts retries o is = cases (session_at σ.sessions n) refl o.none
    where
      by_room : (s : Session) (b : Bool) → session_at σ.sessions n ≡ Some s → OpenedSo (open_level_1 σ s b)
      by_room s false e = (refl, o)
      by_room s true e = record {
        stands = record { transaction = record { age = σ.next_age; moves = []; told = [] }; opened = placed σ n s e _; age = is; mid = λ i. start (o.tables i) (is i); tables = o.tables; commits = o.commits };
        free = o.free;
      }

      by_transaction : (s : Session) (x : Option Transaction) → session_at σ.sessions n ≡ Some s → x ≡ None → OpenedSo (one_shot σ s x)
      by_transaction s None e f = by_room s _ e
      by_transaction s (Some t) e f = cc

      by_wait : (s : Session) (b : Bool) → session_at σ.sessions n ≡ Some s → s.transaction ≡ None → OpenedSo (command_if σ over s (command.OneShot parts retries) b)
      by_wait s true e f = (refl, o)
      by_wait s false e f = by_transaction s s.transaction e f

      cases : (x : Option Session) → session_at σ.sessions n ≡ x → transaction_in x ≡ None → OpenedSo (step_of σ over n (DoCommand (command.OneShot parts retries)) x)
      cases None e f = (refl, o)
      cases (Some s) e f = by_wait s _ e f

  -- ---- steps that were made, or refused for memory

  pub did : (σ μ : State) (m : Mid) (o : Operation) (x : Reply) → Inside m σ → StepMadeOrRefused σ n (DoCommand (command.Do o)) x μ → Did (sort_of x) x m o μ
  did σ μ m o x i (inl make) = subst (DidSo m o) make.made (does_so σ make.over m o i)
  did σ μ m o x i (inr (takes, none, same)) = subst (λ (r : Reply). Did (sort_of r) r m o μ) (sym none) (subst (Inside m) (sym same) i)

  pub begun : (σ μ : State) (m : Mid) (x : Reply) → Inside m σ → StepMadeOrRefused σ n (DoCommand command.Begin) x μ → Began (sort_of x) m μ
  begun σ μ m x i (inl make) = subst (BeganSo m) make.made (begins_so σ make.over m i)
  begun σ μ m x i (inr (takes, none, same)) = subst (λ (r : Reply). Began (sort_of r) m μ) (sym none) (subst (Inside m) (sym same) i)

  pub closed : (σ μ : State) (m : Mid) (x : Reply) → Inside m σ → StepMadeOrRefused σ n (DoCommand command.Commit) x μ → Closed (sort_of x) m.saved m μ
  closed σ μ m x i (inl make) = subst (ClosedSo m) make.made (closes_so σ make.over m i)
  closed σ μ m x i (inr (takes, none, same)) = subst (λ (r : Reply). Closed (sort_of r) m.saved m μ) (sym none) (stays m.saved (subst (Inside m) (sym same) i))
    where
      stays : (vs : List Catalog) → Inside m μ → Closed sort.Refused vs m μ
      stays [] j = j
      stays (v ∷ vs) j = j

  -- an abort takes no memory
  pub aborted : (σ μ : State) (m : Mid) (r : Term) (x : Reply) → Within m σ → StepMadeOrRefused σ n (DoCommand (command.Abort r)) x μ → Aborted (sort_of x) x m r μ
  aborted σ μ m r x h (inl make) = subst (AbortedSo m r) make.made (aborts_so σ make.over m r h)
  aborted σ μ m r x h (inr (takes, none, same)) = cc

  pub opened : (σ μ : State) (parts : List Part) (retries : ℕ) (x : Reply) → Outside σ → σ.next_age ≡ a → StepMadeOrRefused σ n (DoCommand (command.OneShot parts retries)) x μ → Opened (sort_of x) x μ
  opened σ μ parts retries x o is (inl make) = subst OpenedSo make.made (opened_so σ make.over parts retries o is)
  opened σ μ parts retries x o is (inr (takes, none, same)) = subst (λ (r : Reply). Opened (sort_of r) r μ) (sym none) (refl, subst Outside (sym same) o)
