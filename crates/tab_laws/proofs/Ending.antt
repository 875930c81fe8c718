-- Retries and commits can end all transactions: each granted retry leaves a request less, and each whole commit an open transaction less.
use Rattle.std.proofs.Common.{◌≡◌, ℕ, zero, suc, ◌+◌, ◌<◌, ◌≤◌, List, [], ◌∷◌, Bool, true, false, ◌&&◌, not, refl, sym, ap, ◌∙◌, subst, arith, Option, Some, None, inl, inr, is_some, ◌==◌, if◌then◌else◌, map, length}
use Rattle.std.specs.List.{filter}
use Rattle.std.proofs.lemmas.Bool.{false≢true, and_from}
use Rattle.tab_model.specs.declared.ask.Ask.TheVariants.{Retry, Do as DoCommand}
use Rattle.tab_model.specs.declared.data.Command.TheVariants as command
use Rattle.tab_model.specs.declared.data.Limits.{Limits}
use Rattle.tab_model.specs.declared.data.Move.TheVariants.{Do, Close}
use Rattle.tab_model.specs.Catalogs.{Catalog}
use Rattle.tab_model.specs.Alone.{Mid, start, without_innermost, reply_to}
use Rattle.tab_model.specs.Locks.{needs}
use Rattle.tab_model.specs.Ages.{can_retry}
use Rattle.tab_model.specs.State.{Transaction, Session, Queued, State, new, session_at, transaction_in, transaction_at, request_in, without_request, is_waiting, ages_of, mid_of, HasAge, AreDistinct, IsSound}
use Rattle.tab_model.specs.Reached.{IsRising}
use Rattle.tab_model.specs.Outcome.{Outcome, outcome, is_empty, with_changed, with_transaction, with_queue, with_move, after_put, batch_to, commit, events_now, retry, retry_in, step_of, transaction_after}
use Rattle.tab_model.specs.Run.{put_ask, IsSublist, has_capacity, is_filled, is_full, IsSplitByOverflow, Allowed, Call, outcome_of, after_all}
use Rattle.tab_model.proofs.StepCases.{try_again, commit_at, command_if}
use Rattle.tab_model.proofs.SessionLists.{eq_true, found, itself, session_at-change}
use Rattle.tab_model.proofs.SoundSteps.{given_same, step_sound}
use Rattle.tab_model.proofs.Splits.{none_handed}
use Rattle.tab_model.proofs.RefusalLaws.{after-more}
use Rattle.tab_model.proofs.ReachedWaits.{step_rising, request_age}
use Rattle.tab_laws.specs.Progress.{RetryIsGranted, IsActive, CanGoOn}
use Rattle.tab_laws.specs.Endings.{is_retry_or_commit, IsIdle, CanEnd}
use Rattle.tab_laws.proofs.Following.{opened, leads_on}
use Rattle.tab_laws.proofs.Retrying.{reached_sound, reached_rising}

-- ---- posts that may refuse

sublist_more : (xs ys : List Session) (y : Session) → IsSublist xs ys → IsSublist xs (y ∷ ys)
sublist_more [] ys y h = tt
sublist_more (x ∷ xs) ys y h = inr h

sublist_filter : (p : Session → Bool) (ys : List Session) → IsSublist (filter p ys) ys
sublist_filter p [] = tt
sublist_filter p (y ∷ ys) = cases (p y) (sublist_filter p ys)
  where
    cases : (b : Bool) → IsSublist (filter p ys) ys → IsSublist (if b then y ∷ filter p ys else filter p ys) (y ∷ ys)
    cases true h = inl (refl, h)
    cases false h = sublist_more (filter p ys) ys y h

full_known : (s : Session) → is_full s ≡ true → has_capacity s ≡ true
full_known s h = cases s.outbox.capacity h
  where
    cases : (o : Option ℕ) → is_filled s.outbox.items o ≡ true → is_some o ≡ true
    cases None h = h
    cases (Some c) h = refl

all_known : (ys : List Session) → filter has_capacity (filter is_full ys) ≡ filter is_full ys
all_known [] = refl
all_known (y ∷ ys) = cases (is_full y) refl (all_known ys)
  where
    cases : (b : Bool) → is_full y ≡ b → filter has_capacity (filter is_full ys) ≡ filter is_full ys → filter has_capacity (if b then y ∷ filter is_full ys else filter is_full ys) ≡ (if b then y ∷ filter is_full ys else filter is_full ys)
    cases true e ih = ap (λ (b : Bool). if b then y ∷ filter has_capacity (filter is_full ys) else filter has_capacity (filter is_full ys)) (full_known y e) ∙ ap (λ (zs : List Session). y ∷ zs) ih
    cases false e ih = ih

-- exactly the full posts refuse
full_refuse : (handed : List Session) → IsSplitByOverflow handed (map (λ s. s.number) (filter is_full handed))
full_refuse handed = record { refusers = filter is_full handed; numbers = refl; among = sublist_filter is_full handed; full = all_known handed }

-- ---- how many transactions are open, and how many requests are queued

abbrev opens : Option Transaction → ℕ
opens None = 0
opens (Some t) = 1

abbrev opens_in : List Session → ℕ
opens_in [] = 0
opens_in (s ∷ sessions) = opens s.transaction + opens_in sessions

abbrev count_of : State → ℕ
count_of σ = length σ.queue + opens_in σ.sessions

opens_one : (o : Option Transaction) → opens o ≤ 1
opens_one None = omega arith
opens_one (Some t) = omega arith

changed_opens : (sessions : List Session) (s x : Session) → session_at sessions x.number ≡ Some s → opens_in (with_changed sessions x) + opens s.transaction ≡ opens_in sessions + opens x.transaction
changed_opens [] s x h = cc
changed_opens (y ∷ sessions) s x h = cases (y.number == x.number) h (changed_opens sessions s x)
  where
    cases : (b : Bool) → (if b then Some y else session_at sessions x.number) ≡ Some s
        → (session_at sessions x.number ≡ Some s → opens_in (with_changed sessions x) + opens s.transaction ≡ opens_in sessions + opens x.transaction)
        → opens_in (if b then x ∷ sessions else y ∷ with_changed sessions x) + opens s.transaction ≡ opens_in (y ∷ sessions) + opens x.transaction
    cases true e ih =
        let same : y ≡ s = cc in
        let k : opens y.transaction ≡ opens s.transaction = ap (λ (z : Session). opens z.transaction) same in
        omega (arith, k)
    cases false e ih = let k = ih e in omega (arith, k)

mapped_opens : (f : Session → Session) → ((s : Session) → (f s).transaction ≡ s.transaction) → (sessions : List Session) → opens_in (map f sessions) ≡ opens_in sessions
mapped_opens f h [] = refl
mapped_opens f h (s ∷ sessions) = λ i. opens (h s i) + mapped_opens f h sessions i

kept_requests : (qs : List Queued) (n : ℕ) → length (without_request qs n) ≤ length qs
kept_requests [] n = omega arith
kept_requests (q ∷ qs) n = cases (q.session == n) (kept_requests qs n)
  where
    cases : (b : Bool) → length (without_request qs n) ≤ length qs → length (if not b then q ∷ without_request qs n else without_request qs n) ≤ length (q ∷ qs)
    cases true h = omega (arith, h)
    cases false h = omega (arith, h)

fewer_requests : (qs : List Queued) (n : ℕ) (p : Queued) → request_in qs n ≡ Some p → length (without_request qs n) < length qs
fewer_requests [] n p h = cc
fewer_requests (q ∷ qs) n p h = cases (q.session == n) h (fewer_requests qs n p)
  where
    cases : (b : Bool) → (if b then Some q else request_in qs n) ≡ Some p → (request_in qs n ≡ Some p → length (without_request qs n) < length qs)
        → length (if not b then q ∷ without_request qs n else without_request qs n) < length (q ∷ qs)
    cases true e ih = let k = kept_requests qs n in omega (arith, k)
    cases false e ih = let k = ih e in omega (arith, k)

-- ---- a session's step

-- a session with an open transaction
record Sits (σ : State) (n : ℕ) : Type 0 where
  slot : Session
  transaction : Transaction
  here : session_at σ.sessions n ≡ Some slot
  mine : slot.transaction ≡ Some transaction

sits : (σ : State) (n : ℕ) → is_some (transaction_at σ n) ≡ true → Sits σ n
sits σ n h = by_session (session_at σ.sessions n) refl h
  where
    by_transaction : (s : Session) → session_at σ.sessions n ≡ Some s → (o : Option Transaction) → s.transaction ≡ o → is_some o ≡ true → Sits σ n
    by_transaction s e None f k = absurd (false≢true k)
    by_transaction s e (Some t) f k = record { slot = s; transaction = t; here = e; mine = f }

    by_session : (o : Option Session) → session_at σ.sessions n ≡ o → is_some (transaction_in o) ≡ true → Sits σ n
    by_session None e k = absurd (false≢true k)
    by_session (Some s) e k = by_transaction s e s.transaction refl k

module _ (σ : State) (s : Session) (here : session_at σ.sessions s.number ≡ Some s) (t : Transaction) (mine : s.transaction ≡ Some t) where
  commit_is : (over : List ℕ) → is_waiting σ s.number ≡ false → outcome σ over s.number (DoCommand command.Commit) ≡ commit_at σ over s t (is_empty (mid_of σ t).saved)
  unfolding outcome
  commit_is over free = ap (step_of σ over s.number (DoCommand command.Commit)) here ∙ ap (λ (b : Bool). command_if σ over s command.Commit (b && true)) free ∙ ap (commit σ over s) mine

  retry_is : (q : Queued) → request_in σ.queue s.number ≡ Some q → can_retry (ages_of σ) (t.age, needs q.operation) ≡ true → outcome σ [] s.number Retry ≡ try_again σ s t q.operation true
  unfolding outcome
  retry_is q asked may = ap (step_of σ [] s.number Retry) here ∙ ap (retry σ s) asked ∙ ap (retry_in σ s q.operation) mine ∙ ap (try_again σ s t q.operation) may

  own : opens s.transaction ≡ 1
  own = ap opens mine

  committed_count : (over : List ℕ) → count_of (commit_at σ over s t true).state < count_of σ
  committed_count over =
      let put = mapped_opens (λ x. after_put (σ.commits + 1) over (batch_to (σ.commits + 1) (events_now σ t) x) x) (λ x. (given_same (σ.commits + 1) over (batch_to (σ.commits + 1) (events_now σ t) x) x).1) (with_changed σ.sessions (with_transaction s None)) in
      let k = changed_opens σ.sessions s (with_transaction s None) here in
      omega (arith, put, k, own)

  closed_count : (over : List ℕ) → count_of (commit_at σ over s t false).state ≡ count_of σ
  closed_count over = let k = changed_opens σ.sessions s (with_transaction s (transaction_after σ t Close)) here in omega (arith, k, own)

  retried_count : (q : Queued) → request_in σ.queue s.number ≡ Some q → count_of (try_again σ s t q.operation true).state < count_of σ
  retried_count q asked =
      let x : Option Transaction = transaction_after (with_queue σ (without_request σ.queue s.number)) t (Do q.operation) in
      let k = changed_opens σ.sessions s (with_transaction s x) here in
      let j = fewer_requests σ.queue s.number q asked in
      let i = opens_one x in
      omega (arith, i, j, k, own)

  -- a child's commit leaves a level less
  closed_saved : (over : List ℕ) → (mid_of (commit_at σ over s t false).state (with_move t Close (reply_to (mid_of σ t) Close))).saved ≡ without_innermost (mid_of σ t).saved
  closed_saved over = ap (λ (m : Mid). m.saved) (after-more (start σ.tables t.age) t.moves Close)

  closed_here : (over : List ℕ) → session_at (commit_at σ over s t false).state.sessions s.number ≡ Some (with_transaction s (transaction_after σ t Close))
  closed_here over = session_at-change σ.sessions (with_transaction s (transaction_after σ t Close)) s s.number here
      ∙ ap (λ (b : Bool). if b then Some (with_transaction s (transaction_after σ t Close)) else session_at σ.sessions s.number) (itself s.number)

-- ---- runs

before_run : (σ : State) (c : Call) → is_retry_or_commit c.ask ≡ true → Allowed σ c.over c.session c.ask → CanEnd (outcome_of σ c).state → CanEnd σ
before_run σ c k a e = record { steps = c ∷ e.steps; kinds = and_from _ _ k e.kinds; allowed = (a, e.allowed); ended = e.ended }

-- ---- nothing is queued and nothing is open

counts_own : (sessions : List Session) (n : ℕ) → opens (transaction_in (session_at sessions n)) ≤ opens_in sessions
counts_own [] n = omega arith
counts_own (s ∷ sessions) n = cases (s.number == n) (counts_own sessions n)
  where
    cases : (b : Bool) → opens (transaction_in (session_at sessions n)) ≤ opens_in sessions → opens (transaction_in (if b then Some s else session_at sessions n)) ≤ opens s.transaction + opens_in sessions
    cases true h = omega arith
    cases false h = omega (arith, h)

none_where : (o : Option Transaction) → opens o ≤ 0 → o ≡ None
none_where None h = refl
none_where (Some t) h = let no : ⊥ = omega (arith, h) in absurd no

idle : (σ : State) → σ.queue ≡ [] → opens_in σ.sessions ≡ 0 → IsIdle σ
idle σ q h = record {
  none_waits = λ n. ap (λ (qs : List Queued). is_some (request_in qs n)) q;
  none_open = λ n. let k = counts_own σ.sessions n in none_where (transaction_at σ n) (omega (arith, k, h));
}

-- or some session has an open transaction
some_open : (sessions : List Session) → AreDistinct sessions → 0 < opens_in sessions → (n : ℕ) × (is_some (transaction_in (session_at sessions n)) ≡ true)
some_open [] d h = let no : ⊥ = omega (arith, h) in absurd no
some_open (s ∷ sessions) d h = cases s.transaction refl (some_open sessions d.1)
  where
    further : (n : ℕ) (b : Bool) → (s.number == n) ≡ b → is_some (transaction_in (session_at sessions n)) ≡ true → is_some (transaction_in (if b then Some s else session_at sessions n)) ≡ true
    further n false e k = k
    further n true e k = absurd (false≢true (ap (λ (o : Option Session). is_some (transaction_in o)) (sym d.0 ∙ ap (session_at sessions) (eq_true s.number n e)) ∙ k))

    cases : (o : Option Transaction) → s.transaction ≡ o → (0 < opens_in sessions → (n : ℕ) × (is_some (transaction_in (session_at sessions n)) ≡ true))
        → (n : ℕ) × (is_some (transaction_in (session_at (s ∷ sessions) n)) ≡ true)
    cases (Some t) e ih = (s.number, ap (λ (b : Bool). is_some (transaction_in (if b then Some s else session_at sessions s.number))) (itself s.number) ∙ ap is_some e)
    cases None e ih =
        let k : opens s.transaction ≡ 0 = ap opens e in
        let m = ih (omega (arith, h, k)) in
        (m.0, further m.0 (s.number == m.0) refl m.1)

-- ---- all end

-- from each state with at most so many open transactions and requests
abbrev Ends : ℕ → Type 0
Ends k = (σ : State) → IsSound σ → IsRising σ → count_of σ ≤ k → CanEnd σ

module _ (k : ℕ) (ih : Ends k) where
  abbrev commit_call : State → ℕ → Call
  commit_call σ m = record { session = m; ask = DoCommand command.Commit; over = map (λ s. s.number) (filter is_full (put_ask σ (DoCommand command.Commit) (session_at σ.sessions m))) }

  -- a session commits its levels, one after another
  commits : (j : ℕ) (σ : State) → IsSound σ → IsRising σ → count_of σ ≤ suc k → (s : Session) → session_at σ.sessions s.number ≡ Some s → (t : Transaction) → s.transaction ≡ Some t
      → is_waiting σ s.number ≡ false → (vs : List Catalog) → (mid_of σ t).saved ≡ vs → length vs ≤ j → CanEnd σ
  commits j σ sound rise room s here t mine free [] e h =
      before_run σ (commit_call σ s.number) refl (full_refuse _)
      (ih _ (step_sound σ _ _ _ sound) (step_rising σ _ _ _ sound rise) (omega (arith, room, less)))
    where
      less : count_of (outcome_of σ (commit_call σ s.number)).state < count_of σ
      less = subst (λ (o : Outcome). count_of o.state < count_of σ)
          (sym (commit_is σ s here t mine (commit_call σ s.number).over free ∙ ap (λ (xs : List Catalog). commit_at σ (commit_call σ s.number).over s t (is_empty xs)) e)) (committed_count σ s here t mine (commit_call σ s.number).over)
  commits zero σ sound rise room s here t mine free (v ∷ vs) e h = let no : ⊥ = omega (arith, h) in absurd no
  commits (suc j) σ sound rise room s here t mine free (v ∷ vs) e h =
      before_run σ (commit_call σ s.number) refl (full_refuse _)
      (subst (λ (o : Outcome). CanEnd o.state) (sym closed)
      (commits j (commit_at σ over s t false).state
      (subst (λ (o : Outcome). IsSound o.state) closed (step_sound σ over s.number (DoCommand command.Commit) sound))
      (subst (λ (o : Outcome). IsRising o.state) closed (step_rising σ over s.number (DoCommand command.Commit) sound rise))
      (omega (arith, room, closed_count σ s here t mine over))
      (with_transaction s (transaction_after σ t Close)) (closed_here σ s here t mine over) _ refl free vs
      (closed_saved σ s here t mine over ∙ ap without_innermost e) (omega (arith, h))))
    where
      over : List ℕ
      over = (commit_call σ s.number).over

      closed : outcome_of σ (commit_call σ s.number) ≡ commit_at σ (commit_call σ s.number).over s t false
      closed = commit_is σ s here t mine (commit_call σ s.number).over free ∙ ap (λ (xs : List Catalog). commit_at σ (commit_call σ s.number).over s t (is_empty xs)) e

  retried : (σ : State) → IsSound σ → IsRising σ → count_of σ ≤ suc k → (s : Session) → session_at σ.sessions s.number ≡ Some s → (t : Transaction) → s.transaction ≡ Some t
      → (q : Queued) → request_in σ.queue s.number ≡ Some q → can_retry (ages_of σ) (t.age, needs q.operation) ≡ true → CanEnd σ
  retried σ sound rise room s here t mine q asked may =
      before_run σ (record { session = s.number; ask = Retry; over = [] }) refl none_handed
      (ih _ (step_sound σ [] s.number Retry sound) (step_rising σ [] s.number Retry sound rise) (omega (arith, room, less)))
    where
      less : count_of (outcome σ [] s.number Retry).state < count_of σ
      less = subst (λ (o : Outcome). count_of o.state < count_of σ) (sym (retry_is σ s here t mine q asked may)) (retried_count σ s here t mine q asked)

  retries : (σ : State) → IsSound σ → IsRising σ → count_of σ ≤ suc k → (m : ℕ) → RetryIsGranted σ m → CanEnd σ
  retries σ sound rise room m g = by_sits (sits σ m (opened (transaction_at σ m) g.request.age aged))
    where
      aged : HasAge (transaction_at σ m) g.request.age
      aged = request_age (transaction_at σ) m σ.queue g.request rise.owners g.is

      by_sits : Sits σ m → CanEnd σ
      by_sits w =
          let number : m ≡ w.slot.number = sym (found σ.sessions w.slot m w.here) in
          let age : w.transaction.age ≡ g.request.age = subst (λ (o : Option Transaction). HasAge o g.request.age) (ap transaction_in w.here ∙ w.mine) aged in
          retried σ sound rise room w.slot (subst (λ (i : ℕ). session_at σ.sessions i ≡ Some w.slot) number w.here) w.transaction w.mine
          g.request (subst (λ (i : ℕ). request_in σ.queue i ≡ Some g.request) number g.is)
          (ap (λ (a : ℕ). can_retry (ages_of σ) (a, needs g.request.operation)) age ∙ g.granted)

  active : (σ : State) → IsSound σ → IsRising σ → count_of σ ≤ suc k → (m : ℕ) → IsActive σ m → CanEnd σ
  active σ sound rise room m a =
      let w = sits σ m a.is_open in
      let number : m ≡ w.slot.number = sym (found σ.sessions w.slot m w.here) in
      commits (length (mid_of σ w.transaction).saved) σ sound rise room w.slot (subst (λ (i : ℕ). session_at σ.sessions i ≡ Some w.slot) number w.here) w.transaction w.mine
      (subst (λ (i : ℕ). is_waiting σ i ≡ false) number a.is_free) (mid_of σ w.transaction).saved refl (omega arith)

  ends_more : Ends (suc k)
  ends_more σ sound rise room = by_queue σ.queue refl (opens_in σ.sessions) refl
    where
      goes_on : (m : ℕ) → CanGoOn σ m → CanEnd σ
      goes_on m (inl g) = retries σ sound rise room m g
      goes_on m (inr a) = active σ sound rise room m a.0

      by_queue : (qs : List Queued) → σ.queue ≡ qs → (i : ℕ) → opens_in σ.sessions ≡ i → CanEnd σ
      by_queue [] e zero h = record { steps = []; kinds = refl; allowed = tt; ended = idle σ e h }
      by_queue [] e (suc i) h =
          let m = some_open σ.sessions sound.distinct (omega (arith, h)) in
          active σ sound rise room m.0 (record { is_open = m.1; is_free = ap (λ (qs : List Queued). is_some (request_in qs m.0)) e })
      by_queue (q ∷ qs) e i h =
          let waiting : is_waiting σ q.session ≡ true = ap (λ (ps : List Queued). is_some (request_in ps q.session)) e ∙ ap (λ (b : Bool). is_some (if b then Some q else request_in qs q.session)) (itself q.session) in
          let l = leads_on σ q.session sound rise waiting in
          goes_on l.session l.goes_on

ends_now : Ends zero
ends_now σ sound rise room = record { steps = []; kinds = refl; allowed = tt; ended = idle σ (none σ.queue (omega (arith, room))) (omega (arith, room)) }
  where
    none : (qs : List Queued) → length qs ≤ 0 → qs ≡ []
    none [] l = refl
    none (q ∷ qs) l = let no : ⊥ = omega (arith, l) in absurd no

ends : (k : ℕ) → Ends k
ends zero = ends_now
ends (suc k) = ends_more k (ends k)

pub can_end : (σ : State) → IsSound σ → IsRising σ → CanEnd σ
can_end σ sound rise = ends (count_of σ) σ sound rise (omega arith)

-- the same of every reached state
pub reached_can_end : (limits : Limits) (calls : List Call) → CanEnd (after_all (new limits) calls)
reached_can_end limits calls = can_end (after_all (new limits) calls) (reached_sound limits calls) (reached_rising limits calls)
