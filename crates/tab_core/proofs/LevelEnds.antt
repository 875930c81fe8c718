-- The ends of levels and sessions: an abort, a child's commit, a restart, a leave.
use Rattle.std.proofs.Common.{zero, ◌||◌, inl, inr, ◌≡◌, ◌≢◌, ℕ, suc, ◌+◌, ◌<◌, ◌≤◌, List, [], ◌∷◌, ◌++◌, Bool, true, false, ◌&&◌, not, refl, sym, ap, ◌∙◌, subst, arith, length, Option, Some, None, get_or, set}
use Rattle.std.specs.Prelude.{◌==◌, ◌⊎◌, nat_le, nat_lt, if◌then◌else◌, is_some, map, option_map}
use Rattle.std.specs.List.{list_any, filter}
use Rattle.std.proofs.lemmas.List.Sums.{count_by-le-length, length-filter}
use Rattle.tab_term.specs.declared.term.Term.{Term}
use Rattle.tab_locks.specs.Members.{SameMembers}
use Rattle.tab_model.specs.declared.data.Command.TheVariants as command
use Rattle.tab_model.specs.declared.data.Move.{Move}
use Rattle.tab_model.specs.declared.data.Move.TheVariants.{Do, Open, Close, Undo}
use Rattle.tab_model.specs.declared.data.Reply.{Reply}
use Rattle.tab_model.specs.declared.data.Reply.TheVariants as reply
use Rattle.tab_model.specs.Ages.{Ages, without}
use Rattle.tab_model.specs.Alone.{Mid, start, after, next, back, back_to, reply_to}
use Rattle.tab_model.specs.declared.data.Operation.{Operation}
use Rattle.tab_model.specs.Operations.{failure, effect}
use Rattle.tab_model.specs.Locks.{locks_of}
use Rattle.tab_model.specs.Catalogs.{Catalog, Table}
use Rattle.tab_model.specs.State as plain
use Rattle.tab_model.specs.State.{Session, State, without_request, is_waiting, locks_held_by, locks_held_in, locks_queued_in, mid_of, count_moves}
use Rattle.tab_model.specs.declared.ask.Ask.TheVariants.{Do as DoCommand, Leave}
use Rattle.tab_model.specs.Outcome.{outcome, step_without_entry, abort, is_empty, make, with_queue, without_session, commit, begin, with_changed}
use Rattle.tab_model.proofs.StepCases.{command_if, commit_at, open_child, open_level_1}
use Rattle.tab_model.proofs.StepsBySession.{lock_of_move, locks-more}
use Rattle.tab_txstore.specs.Stores.{no_store, store_next, committed_for, Fits}
use Rattle.tab_txstore.proofs.FitsLemmas.{fits_new, fits_next}
use Rattle.tab_core.specs.declared.transaction.Transaction as kept
use Rattle.tab_core.specs.declared.queue.Request as request
use Rattle.tab_core.specs.Works.{with_store, forgotten_if, joined, UndoesIf, Undoes, NestsIf, NestsTo}
use Rattle.tab_core.specs.Kept.{opens, count_open, Agree, IsKept}
use Rattle.tab_core.proofs.HeldLocks.{split, held_gone, same_without}
use Rattle.tab_core.proofs.Places.{without_filtered, without_set, at_filtered, counts_fewer}
use Rattle.tab_core.proofs.Keeping as keep
use Rattle.tab_core.proofs.Keeping.{ended, with_transaction, the_session, none_waits, state_after, IsNext, Leaves, leaves, kept_same, kept_step, state_next}
use Rattle.tab_core.proofs.Numbers.{le_true}
use Rattle.tab_model.specs.declared.data.Limit.TheVariants as limit
use Rattle.tab_core.proofs.Moving.{empty_counts, moved, moved_if, moves, without_twice}
use Rattle.tab_subs.specs.Subscribers.{IsHeldAt, at, nobody}
use Rattle.tab_core.specs.Joined.{Subscriber}
use Rattle.tab_core.specs.Parts.{Parts, queued_of, session_of, state_of, transaction_in, transaction_of}

-- an age is kept through all moves
age_stays : (m : Mid) (xs : List Move) → (after m xs).age ≡ m.age
age_stays m [] = refl
age_stays m (x ∷ xs) = age_stays (next m x) xs ∙ one x
  where
    gone_back : (ws : List Catalog) → (back_to m ws).age ≡ m.age
    gone_back [] = refl
    gone_back (w ∷ ws) = refl

    if_failed : (b : Bool) (o : Operation) → Mid.age (if b then back m else record m { now = effect m.now o }) ≡ m.age
    if_failed true o = gone_back m.saved
    if_failed false o = refl

    one : (y : Move) → (next m y).age ≡ m.age
    one (Do o) = if_failed (is_some (failure m.now o)) o
    one Open = refl
    one Close = refl
    one Undo = gone_back m.saved

tid_told : (w : Catalog) (age : ℕ) (xs : List Move) → reply_to (after (start w age) xs) Open ≡ Some (reply.Tid age)
tid_told w age xs = ap (λ a. Some (reply.Tid a)) (age_stays (start w age) xs)

and_false : (b : Bool) → (b && false) ≡ false
and_false true = refl
and_false false = refl

pub nothing_to_abort : (m : Parts) (n i : ℕ) → IsKept m → IsHeldAt m.sessions n i → (r : Term) → (the_session m n i).transaction ≡ None → outcome (state_of m) [] n (DoCommand (command.Abort r)) ≡ step_without_entry (state_of m) reply.NoTransaction
nothing_to_abort m n i k there r none =
    keep.sits (state_of m) n (session_of (the_session m n i)) (DoCommand (command.Abort r)) (keep.here m n i k there)
    ∙ ap (command_if (state_of m) [] (session_of (the_session m n i)) (command.Abort r)) (and_false (is_waiting (state_of m) (the_session m n i).number))
    ∙ ap (abort (state_of m) (session_of (the_session m n i)) r) (ap (option_map transaction_of) none)

module _ (m : Parts) (n i : ℕ) (k : IsKept m) (there : IsHeldAt m.sessions n i) (t : kept.Transaction) (open_t : (the_session m n i).transaction ≡ Some t) where
  abbrev s : Subscriber
  s = the_session m n i

  abbrev σ : State
  σ = state_of m

  -- whether level 1 ends
  pub outermost : is_empty (mid_of σ (transaction_of t)).saved ≡ (length t.store.levels.saved == 0)
  outermost = empty_counts (mid_of σ (transaction_of t)).saved ∙ ap (λ d. d == 0) (keep.depth m n i k there t open_t)

  -- a move without a lock: the session after it agrees with all else
  pub level_agrees : (x : Move) (committed : Option Table) (r : Option Reply) → committed ≡ committed_for m.catalog x → lock_of_move x ≡ [] → (m' : Parts) → m'.catalog ≡ m.catalog → m'.sessions ≡ set m.sessions i (moved s t (store_next committed t.store x r)) → m'.limits ≡ m.limits → m'.begun ≡ m.begun → m'.commits ≡ m.commits
      → m'.ages.held ≡ m.ages.held → m'.ages.queue ≡ locks_queued_in (map queued_of m'.queue.items) → Agree m'
  level_agrees x committed r is_committed lockless m' catalog sessions limits begun commits held queue =
      keep.session_agrees m n i k there (moved s t (store_next committed t.store x r)) refl m' catalog sessions limits
      (subst (SameMembers (locks_held_in (map session_of (set m.sessions i (moved s t (store_next committed t.store x r)))))) (sym held) (keep.same_locks m n i k there (moved s t (store_next committed t.store x r)) refl locks)) queue own
      (let a = k.agree.ages in omega (arith, a, begun))
      (let c = keep.counts' m n i k there (moved s t (store_next committed t.store x r)) refl in let d = k.agree.counted in let e : opens s.transaction ≡ 1 = ap opens open_t in omega (arith, c, d, e, begun, commits))
    where
      locks : locks_held_by (Some (transaction_of (with_store t (store_next committed t.store x r)))) ≡ locks_held_by (session_of s).transaction
      locks = ap (plain.with_age t.age) (locks-more t.store.moves x ∙ ap (λ ls. locks_of t.store.moves ++ ls) lockless ∙ Rattle.std.proofs.Common.append-nil (locks_of t.store.moves)) ∙ ap locks_held_by (ap (option_map transaction_of) (sym open_t))

      own : (u : kept.Transaction) → Some (with_store t (store_next committed t.store x r)) ≡ Some u → Fits u.store m.catalog
      own u h = let same : with_store t (store_next committed t.store x r) ≡ u = cc in
          subst (λ (v : kept.Transaction). Fits v.store m.catalog) same (subst (λ l. Fits (store_next l t.store x r) m.catalog) (sym is_committed) (fits_next t.store m.catalog x r (keep.fit m n i k there t open_t)))

  -- the transaction is over, or empty again: it holds no locks
  pub over_agrees : (s' : Subscriber) → s'.number ≡ s.number → locks_held_by (session_of s').transaction ≡ [] → ((u : kept.Transaction) → s'.transaction ≡ Some u → Fits u.store m.catalog) → opens s'.transaction ≤ 1
      → (m' : Parts) → m'.catalog ≡ m.catalog → m'.sessions ≡ set m.sessions i s' → m'.limits ≡ m.limits → m'.begun ≡ m.begun → m'.commits ≡ m.commits
      → m'.ages.held ≡ without t.age m.ages.held → m'.ages.queue ≡ locks_queued_in (map queued_of m'.queue.items) → Agree m'
  over_agrees s' number none own few m' catalog sessions limits begun commits held queue =
      keep.session_agrees m n i k there s' number m' catalog sessions limits
      (subst (SameMembers (locks_held_in (map session_of (set m.sessions i s')))) (sym held) (keep.no_locks m n i k there s' number t open_t none)) queue own
      (let a = k.agree.ages in omega (arith, a, begun))
      (let c = keep.counts' m n i k there s' number in let d = k.agree.counted in let e : opens s.transaction ≡ 1 = ap opens open_t in omega (arith, c, d, e, few, begun, commits))

  -- ---- an abort
  pub aborts : (r : Term) (new : Option kept.Transaction) (g' : Ages) (qs : List request.Request) → Undoes t m.ages new g' → qs ≡ filter (λ q. not (q.session == n)) m.queue.items
      → outcome σ [] n (DoCommand (command.Abort r)) ≡ step_without_entry (state_after m (set m.sessions i (with_transaction s new)) qs) (reply.UserAbort r)
  aborts r new g' qs u is =
      keep.sits σ n (session_of s) (DoCommand (command.Abort r)) (keep.here m n i k there)
      ∙ ap (command_if σ [] (session_of s) (command.Abort r)) (and_false (is_waiting σ s.number))
      ∙ ap (abort σ (session_of s) r) (ap (option_map transaction_of) open_t)
      ∙ ap (λ qq. make (with_queue σ qq) (session_of s) (transaction_of t) Undo (reply.UserAbort r)) (ap (without_request (map queued_of m.queue.items)) (keep.is m n i k there) ∙ sym (ap (map queued_of) is ∙ keep.queued_filtered n m.queue.items))
      ∙ moves m n i k there t open_t qs None Undo None (reply.UserAbort r) (length t.store.levels.saved == 0) refl outermost
      ∙ by (length t.store.levels.saved == 0) u
    where
      by : (b : Bool) → UndoesIf b t m.ages new g' → step_without_entry (state_after m (set m.sessions i (moved_if b s t (store_next None t.store Undo None))) qs) (reply.UserAbort r) ≡ step_without_entry (state_after m (set m.sessions i (with_transaction s new)) qs) (reply.UserAbort r)
      by true v = ap (λ x. step_without_entry (state_after m (set m.sessions i (with_transaction s x)) qs) (reply.UserAbort r)) (sym v.0)
      by false v = ap (λ x. step_without_entry (state_after m (set m.sessions i (with_transaction s x)) qs) (reply.UserAbort r)) (sym v.0)

  pub abort_agrees : (new : Option kept.Transaction) (g' : Ages) → Undoes t m.ages new g' → (m' : Parts) → m'.catalog ≡ m.catalog → m'.sessions ≡ set m.sessions i (with_transaction s new) → m'.limits ≡ m.limits → m'.begun ≡ m.begun → m'.commits ≡ m.commits
      → m'.ages ≡ g' → m'.queue.items ≡ filter (λ q. not (q.session == n)) m.queue.items → Agree m'
  abort_agrees new g' u m' catalog sessions limits begun commits ages is = by (length t.store.levels.saved == 0) u
    where
      dropped : without t.age m.ages.queue ≡ locks_queued_in (map queued_of m'.queue.items)
      dropped = keep.dropped m n i k there t open_t ∙ ap (λ qs. locks_queued_in (map queued_of qs)) (sym is)

      by : (b : Bool) → UndoesIf b t m.ages new g' → Agree m'
      by true v = over_agrees (ended s) refl refl (λ x h. cc) (omega arith) m' catalog (sessions ∙ ap (λ x. set m.sessions i (with_transaction s x)) v.0) limits begun commits (ap (λ (g : Ages). g.held) ages ∙ v.1)
          (ap (λ (g : Ages). g.queue) ages ∙ v.2 ∙ without_twice t.age m.ages.queue ∙ dropped)
      by false v = level_agrees Undo None None refl refl m' catalog (sessions ∙ ap (λ x. set m.sessions i (with_transaction s x)) v.0) limits begun commits (ap (λ (g : Ages). g.held) (ages ∙ v.1)) (ap (λ (g : Ages). g.queue) (ages ∙ v.1) ∙ dropped)

  pub abort_exit : (r : Term) (new : Option kept.Transaction) (g' : Ages) (m' : Parts) → Undoes t m.ages new g' → IsNext m m' (set m.sessions i (with_transaction s new)) (filter (λ q. not (q.session == n)) m.queue.items) → m'.ages ≡ g' → Leaves m m' n (DoCommand (command.Abort r)) (reply.UserAbort r)
  abort_exit r new g' m' u nx ages =
      leaves m m' (set m.sessions i (with_transaction s new)) (filter (λ q. not (q.session == n)) m.queue.items) n (DoCommand (command.Abort r)) (reply.UserAbort r) k nx (aborts r new g' (filter (λ q. not (q.session == n)) m.queue.items) u refl)
      (abort_agrees new g' u m' nx.catalog nx.sessions nx.limits nx.begun nx.commits ages nx.queue)

  -- ---- a child's commit
  pub joins : is_waiting σ n ≡ false → (length t.store.levels.saved == 0) ≡ false → outcome σ [] n (DoCommand command.Commit) ≡ step_without_entry (state_after m (set m.sessions i (moved s t (store_next None t.store Close (Some reply.AtomicOk)))) m.queue.items) reply.AtomicOk
  joins idle deep =
      keep.asks m n i k there command.Commit idle
      ∙ ap (commit σ [] (session_of s)) (ap (option_map transaction_of) open_t)
      ∙ ap (commit_at σ [] (session_of s) (transaction_of t)) (outermost ∙ deep)
      ∙ moves m n i k there t open_t m.queue.items None Close (Some reply.AtomicOk) reply.Done false refl refl

  -- ---- a child's begin
  pub nests : is_waiting σ n ≡ false → (o : Option kept.Transaction) (r : Reply) → NestsTo m.limits t o r → outcome σ [] n (DoCommand command.Begin) ≡ step_without_entry (state_after m (set m.sessions i (with_transaction s o)) m.queue.items) r
  nests idle o r nested =
      keep.asks m n i k there command.Begin idle
      ∙ ap (begin σ (session_of s)) (ap (option_map transaction_of) open_t)
      ∙ ap (λ d. open_child σ (session_of s) (transaction_of t) (nat_lt (suc d) m.limits.nesting) (nat_lt (count_moves t.store.moves) m.limits.operations)) (keep.depth m n i k there t open_t)
      ∙ at_transaction o refl nested
    where
      same_sessions : o ≡ Some t → set m.sessions i (with_transaction s o) ≡ m.sessions
      same_sessions h = ap (λ x. set m.sessions i (with_transaction s x)) (h ∙ sym open_t) ∙ keep.unchanged m n i k there

      by : (a b : Bool) (new : kept.Transaction) → o ≡ Some new → NestsIf t a b new r → open_child σ (session_of s) (transaction_of t) a b ≡ step_without_entry (state_after m (set m.sessions i (with_transaction s o)) m.queue.items) r
      by true true new e v =
          moves m n i k there t open_t m.queue.items None Open (Some (reply.Tid t.age)) reply.Done false (tid_told m.catalog t.age t.store.moves) refl
          ∙ (λ j. step_without_entry (state_after m (set m.sessions i (with_transaction s (sym (e ∙ ap Some v.0) j))) m.queue.items) (sym v.1 j))
      by true false new e v = λ j. step_without_entry (state_after m (sym (same_sessions (e ∙ ap Some v.0)) j) m.queue.items) (sym v.1 j)
      by false b new e v = λ j. step_without_entry (state_after m (sym (same_sessions (e ∙ ap Some v.0)) j) m.queue.items) (sym v.1 j)

      at_transaction : (x : Option kept.Transaction) → o ≡ x → NestsTo m.limits t x r
          → open_child σ (session_of s) (transaction_of t) (nat_lt (suc (length t.store.levels.saved)) m.limits.nesting) (nat_lt (count_moves t.store.moves) m.limits.operations) ≡ step_without_entry (state_after m (set m.sessions i (with_transaction s o)) m.queue.items) r
      at_transaction None e v = absurd v
      at_transaction (Some new) e v = by (nat_lt (suc (length t.store.levels.saved)) m.limits.nesting) (nat_lt (count_moves t.store.moves) m.limits.operations) new e v

  pub session_stays : (m' : Parts) → m'.sessions ≡ set m.sessions i s → m'.catalog ≡ m.catalog → m'.limits ≡ m.limits → m'.begun ≡ m.begun → m'.commits ≡ m.commits → m'.ages ≡ m.ages → m'.queue ≡ m.queue → Agree m'
  session_stays m' sessions catalog limits begun commits ages queue =
      keep.session_agrees m n i k there s refl m' catalog sessions limits
      (subst (SameMembers (locks_held_in (map session_of (set m.sessions i s)))) (sym (ap (λ (g : Ages). g.held) ages)) (keep.same_locks m n i k there s refl refl))
      (ap (λ (g : Ages). g.queue) ages ∙ k.agree.queue ∙ ap (λ (qs : Rattle.std.specs.Global.Vec request.Request). locks_queued_in (map queued_of qs.items)) (sym queue))
      (λ u h. let same : t ≡ u = one_some (sym open_t ∙ h) in subst (λ (v : kept.Transaction). Fits v.store m.catalog) same (keep.fit m n i k there t open_t))
      (let a = k.agree.ages in omega (arith, a, begun))
      (let c = keep.counts' m n i k there s refl in let d = k.agree.counted in omega (arith, c, d, begun, commits))
    where
      one_some : {u : kept.Transaction} → Some t ≡ Some u → t ≡ u
      one_some h = cc

  pub nest_agrees : (o : Option kept.Transaction) (r : Reply) → NestsTo m.limits t o r → (m' : Parts) → m'.catalog ≡ m.catalog → m'.sessions ≡ set m.sessions i (with_transaction s o) → m'.limits ≡ m.limits → m'.begun ≡ m.begun → m'.commits ≡ m.commits
      → m'.ages ≡ m.ages → m'.queue ≡ m.queue → Agree m'
  nest_agrees o r nested m' catalog sessions limits begun commits ages queue = at_transaction o refl nested
    where
      queue_is : m'.ages.queue ≡ locks_queued_in (map queued_of m'.queue.items)
      queue_is = ap (λ (g : Ages). g.queue) ages ∙ k.agree.queue ∙ ap (λ (qs : Rattle.std.specs.Global.Vec request.Request). locks_queued_in (map queued_of qs.items)) (sym queue)

      locks : (committed : Option Table) → locks_held_by (Some (transaction_of (with_store t (store_next committed t.store Open (Some (reply.Tid t.age)))))) ≡ locks_held_by (Some (transaction_of t))
      locks committed = ap (plain.with_age t.age) (locks-more t.store.moves Open ∙ Rattle.std.proofs.Common.append-nil (locks_of t.store.moves))

      as_before : o ≡ s.transaction → Agree m'
      as_before e = session_stays m' (sessions ∙ ap (λ x. set m.sessions i (with_transaction s x)) e) catalog limits begun commits ages queue

      by : (a b : Bool) (new : kept.Transaction) → o ≡ Some new → NestsIf t a b new r → Agree m'
      by true true new e v = level_agrees Open None (Some (reply.Tid t.age)) refl refl m' catalog
          (sessions ∙ ap (λ x. set m.sessions i (with_transaction s x)) (e ∙ ap Some v.0)) limits begun commits (ap (λ (g : Ages). g.held) ages) queue_is
      by true false new e v = as_before (e ∙ ap Some v.0 ∙ sym open_t)
      by false b new e v = as_before (e ∙ ap Some v.0 ∙ sym open_t)

      at_transaction : (x : Option kept.Transaction) → o ≡ x → NestsTo m.limits t x r → Agree m'
      at_transaction None e v = absurd v
      at_transaction (Some new) e v = by (nat_lt (suc (length t.store.levels.saved)) m.limits.nesting) (nat_lt (count_moves t.store.moves) m.limits.operations) new e v

  pub join_exit : (o : Option kept.Transaction) (m' : Parts) → is_waiting σ n ≡ false → (length t.store.levels.saved == 0) ≡ false → o ≡ joined s.transaction → IsNext m m' (set m.sessions i (with_transaction s o)) m.queue.items → m'.ages ≡ m.ages → Leaves m m' n (DoCommand command.Commit) reply.AtomicOk
  join_exit o m' idle deep is nx ages =
      let e : o ≡ Some (with_store t (store_next None t.store Close (Some reply.AtomicOk))) = is ∙ ap joined open_t in
      leaves m m' (set m.sessions i (with_transaction s o)) m.queue.items n (DoCommand command.Commit) reply.AtomicOk k nx
      (joins idle deep ∙ ap (λ z. step_without_entry (state_after m (set m.sessions i (with_transaction s z)) m.queue.items) reply.AtomicOk) (sym e))
      (level_agrees Close None (Some reply.AtomicOk) refl refl m' nx.catalog (nx.sessions ∙ ap (λ x. set m.sessions i (with_transaction s x)) e) nx.limits nx.begun nx.commits (ap (λ (g : Ages). g.held) ages)
      (ap (λ (g : Ages). g.queue) ages ∙ k.agree.queue ∙ ap (λ qs. locks_queued_in (map queued_of qs)) (sym nx.queue)))

  pub nest_exit : (o : Option kept.Transaction) (r : Reply) (m' : Parts) → is_waiting σ n ≡ false → NestsTo m.limits t o r → IsNext m m' (set m.sessions i (with_transaction s o)) m.queue.items → m'.ages ≡ m.ages → m'.queue ≡ m.queue → Leaves m m' n (DoCommand command.Begin) r
  nest_exit o r m' idle nested nx ages queue =
      leaves m m' (set m.sessions i (with_transaction s o)) m.queue.items n (DoCommand command.Begin) r k nx (nests idle o r nested)
      (nest_agrees o r nested m' nx.catalog nx.sessions nx.limits nx.begun nx.commits ages queue)

  pub nest_refused : (o : Option kept.Transaction) (m' : Parts) → o ≡ s.transaction → IsNext m m' (set m.sessions i (with_transaction s o)) m.queue.items → m'.ages ≡ m.ages → m'.queue ≡ m.queue → (state_of m' ≡ state_of m) × IsKept m'
  nest_refused o m' same nx ages queue =
      let before : state_of m' ≡ state_of m = sym (state_next m m' (set m.sessions i (with_transaction s o)) m.queue.items nx) ∙ ap (λ ss. state_after m ss m.queue.items) (ap (λ x. set m.sessions i (with_transaction s x)) same ∙ keep.unchanged m n i k there) in
      (before, kept_same m m' k (session_stays m' (nx.sessions ∙ ap (λ x. set m.sessions i (with_transaction s x)) same) nx.catalog nx.limits nx.begun nx.commits ages queue) before)

-- ---- level 1 begins

module _ (m : Parts) (n i : ℕ) (k : IsKept m) (there : IsHeldAt m.sessions n i) (closed : (the_session m n i).transaction ≡ None) (idle : is_waiting (state_of m) n ≡ false) where
  abbrev sitting : Subscriber
  sitting = the_session m n i

  begins_if : (b : Bool) → nat_le (m.begun + 1) m.limits.ages ≡ b → outcome (state_of m) [] n (DoCommand command.Begin) ≡ open_level_1 (state_of m) (session_of sitting) b
  begins_if b h = keep.asks m n i k there command.Begin idle ∙ ap (begin (state_of m) (session_of sitting)) (ap (option_map transaction_of) closed) ∙ ap (open_level_1 (state_of m) (session_of sitting)) h

  pub no_more_ages : nat_le (m.begun + 1) m.limits.ages ≡ false → outcome (state_of m) [] n (DoCommand command.Begin) ≡ step_without_entry (state_of m) (reply.SystemLimit limit.Ages)
  no_more_ages h = begins_if false h

  pub commits_nothing : outcome (state_of m) [] n (DoCommand command.Commit) ≡ step_without_entry (state_of m) reply.NoTransaction
  commits_nothing = keep.asks m n i k there command.Commit idle ∙ ap (commit (state_of m) [] (session_of sitting)) (ap (option_map transaction_of) closed)

  -- the machine with the new transaction in the session
  abbrev pub begun_at : Subscriber
  begun_at = with_transaction sitting (Some (record { age = m.begun + 1; store = no_store }))

  pub begin_exit : (m' : Parts) → nat_le (m.begun + 1) m.limits.ages ≡ true → m'.catalog ≡ m.catalog → m'.sessions ≡ set m.sessions i begun_at → m'.queue ≡ m.queue → m'.limits ≡ m.limits → m'.begun ≡ m.begun + 1 → m'.commits ≡ m.commits → m'.greatest ≡ m.greatest → m'.ages ≡ m.ages
      → Leaves m m' n (DoCommand command.Begin) (reply.Tid (m.begun + 1))
  begin_exit m' room catalog sessions queue limits begun commits greatest ages =
      let e = begins_if true room ∙ (λ j. let τ : State = record { tables = sym catalog j; sessions = changed j; queue = map queued_of (queue_items j); next_age = sym begun j + 1; commits = sym commits j; greatest = sym greatest j; limits = sym limits j } in step_without_entry τ (reply.Tid (m.begun + 1))) in
      (e, kept_step m m' n (DoCommand command.Begin) (reply.Tid (m.begun + 1)) None k agrees e)
    where
      queue_items : m.queue.items ≡ m'.queue.items
      queue_items = ap (λ (qs : Rattle.std.specs.Global.Vec request.Request). qs.items) (sym queue)

      changed : with_changed (map session_of m.sessions) (session_of begun_at) ≡ map session_of m'.sessions
      changed = sym (keep.seats' m n i k there begun_at refl) ∙ ap (map session_of) (sym sessions)

      none_held : locks_held_by (session_of begun_at).transaction ≡ locks_held_by (session_of sitting).transaction
      none_held = ap (λ o. locks_held_by (option_map transaction_of o)) (sym closed)

      new_fits : (u : kept.Transaction) → begun_at.transaction ≡ Some u → Fits u.store m.catalog
      new_fits u h = let same : (let z : kept.Transaction = record { age = m.begun + 1; store = no_store } in z) ≡ u = cc in subst (λ (v : kept.Transaction). Fits v.store m.catalog) same (fits_new m.catalog)

      within : m.begun + 1 ≤ m.limits.ages
      within = le_true (m.begun + 1) m.limits.ages room

      agrees : Agree m'
      agrees = keep.session_agrees m n i k there begun_at refl m' catalog sessions limits
          (subst (SameMembers (locks_held_in (map session_of (set m.sessions i begun_at)))) (sym (ap (λ (g : Ages). g.held) ages)) (keep.same_locks m n i k there begun_at refl none_held))
          (ap (λ (g : Ages). g.queue) ages ∙ k.agree.queue ∙ ap (λ (qs : Rattle.std.specs.Global.Vec request.Request). locks_queued_in (map queued_of qs.items)) (sym queue))
          new_fits
          (omega (arith, within, begun))
          (let c = keep.counts' m n i k there begun_at refl in let d = k.agree.counted in let f : opens sitting.transaction ≡ 0 = ap opens closed in omega (arith, c, d, f, begun, commits))

-- ---- a session leaves, with its transaction, if there is one

open_left : (t : Option kept.Transaction) → (t ≡ None) ⊎ ((x : kept.Transaction) × (t ≡ Some x))
open_left None = inl refl
open_left (Some x) = inr (x, refl)

pub leave_exit : (m : Parts) (n i : ℕ) → IsKept m → IsHeldAt m.sessions n i → (m' : Parts) → m'.catalog ≡ m.catalog → m'.limits ≡ m.limits → m'.begun ≡ m.begun → m'.commits ≡ m.commits → m'.greatest ≡ m.greatest
    → m'.sessions ≡ filter (λ x. not (x.number == n)) (set m.sessions i (ended (the_session m n i))) → m'.queue.items ≡ filter (λ q. not (q.session == n)) m.queue.items → m'.ages ≡ forgotten_if m.ages (the_session m n i).transaction
    → Leaves m m' n Leave reply.Done
leave_exit m n i k there m' catalog limits begun commits greatest sessions queue ages =
    let e = keep.sits (state_of m) n (session_of (the_session m n i)) Leave (keep.here m n i k there)
    ∙ (λ j. let τ : State = record { tables = sym catalog j; sessions = sessions_are j; queue = queue_is j; next_age = sym begun j + 1; commits = sym commits j; greatest = sym greatest j; limits = sym limits j } in step_without_entry τ reply.Done) in
    (e, kept_step m m' n Leave reply.Done None k agrees e)
  where
    is : (the_session m n i).number ≡ n
    is = keep.is m n i k there

    gone : filter (λ x. not (x.number == n)) (set m.sessions i (ended (the_session m n i))) ≡ filter (λ x. not (x.number == n)) m.sessions
    gone = without_set n m.sessions i (ended (the_session m n i)) nobody there.within (there.number nobody) is

    sessions_here : m'.sessions ≡ filter (λ x. not (x.number == n)) m.sessions
    sessions_here = sessions ∙ gone

    sessions_are : without_session (map session_of m.sessions) (the_session m n i).number ≡ map session_of m'.sessions
    sessions_are = ap (without_session (map session_of m.sessions)) is ∙ sym (without_filtered n m.sessions) ∙ ap (map session_of) (sym sessions_here)

    queue_is : without_request (map queued_of m.queue.items) (the_session m n i).number ≡ map queued_of m'.queue.items
    queue_is = ap (without_request (map queued_of m.queue.items)) is ∙ sym (keep.queued_filtered n m.queue.items) ∙ ap (map queued_of) (sym queue)

    -- no transaction: no locks, and no request
    closed_held : (the_session m n i).transaction ≡ None → SameMembers (locks_held_in (map session_of m'.sessions)) m'.ages.held
    closed_held none p =
        ap (λ (g : Ages). list_any p g.held) (ages ∙ ap (forgotten_if m.ages) none) ∙ k.agree.held p
        ∙ split p (map session_of m.sessions) n (session_of (the_session m n i)) k.sound.distinct (keep.here m n i k there) is
        ∙ ap (λ o. list_any p (locks_held_by (option_map transaction_of o)) || list_any p (locks_held_in (without_session (map session_of m.sessions) n))) none
        ∙ ap (λ ss. list_any p (locks_held_in ss)) (sym (without_filtered n m.sessions) ∙ ap (map session_of) (sym sessions_here))

    closed_queue : (the_session m n i).transaction ≡ None → m'.ages.queue ≡ locks_queued_in (map queued_of m'.queue.items)
    closed_queue none =
        ap (λ (g : Ages). g.queue) (ages ∙ ap (forgotten_if m.ages) none) ∙ k.agree.queue
        ∙ ap locks_queued_in (sym (none_waits (plain.transaction_at (state_of m)) n (map queued_of m.queue.items) (ap plain.transaction_in (keep.here m n i k there) ∙ ap (option_map transaction_of) none) k.owners) ∙ sym (keep.queued_filtered n m.queue.items) ∙ ap (map queued_of) (sym queue))

    open_held : (t : kept.Transaction) → (the_session m n i).transaction ≡ Some t → SameMembers (locks_held_in (map session_of m'.sessions)) m'.ages.held
    open_held t open_t p =
        ap (λ (g : Ages). list_any p g.held) (ages ∙ ap (forgotten_if m.ages) open_t)
        ∙ same_without t.age (locks_held_in (map session_of m.sessions)) m.ages.held k.agree.held p
        ∙ sym (held_gone (state_of m) n (session_of (the_session m n i)) (transaction_of t) k.sound (keep.here m n i k there) is (ap (option_map transaction_of) open_t) p)
        ∙ ap (λ ss. list_any p (locks_held_in ss)) (sym (without_filtered n m.sessions) ∙ ap (map session_of) (sym sessions_here))

    open_queue : (t : kept.Transaction) → (the_session m n i).transaction ≡ Some t → m'.ages.queue ≡ locks_queued_in (map queued_of m'.queue.items)
    open_queue t open_t = ap (λ (g : Ages). g.queue) (ages ∙ ap (forgotten_if m.ages) open_t) ∙ keep.dropped m n i k there t open_t ∙ ap (λ qs. locks_queued_in (map queued_of qs)) (sym queue)

    with : SameMembers (locks_held_in (map session_of m'.sessions)) m'.ages.held → m'.ages.queue ≡ locks_queued_in (map queued_of m'.queue.items) → Agree m'
    with held requests = record {
      held = held;
      queue = requests;
      fits = λ q t h. subst (Fits t.store) (sym catalog) (k.agree.fits q t (still q t (ap (λ ss. transaction_in (at ss q)) (sym sessions_here) ∙ h)));
      ages = subst (λ (l : Rattle.tab_model.specs.declared.data.Limits.Limits). m'.begun ≤ l.ages) (sym limits) (let a = k.agree.ages in omega (arith, a, begun));
      counted = subst (λ ss. m'.commits + count_open ss ≤ m'.begun) (sym sessions_here) (let d = k.agree.counted in let f = counts_fewer n m.sessions in omega (arith, d, f, begun, commits));
      word = subst (λ (l : Rattle.tab_model.specs.declared.data.Limits.Limits). l.ages < 18446744073709551616) (sym limits) k.agree.word;
      sessions = subst (λ (l : Rattle.tab_model.specs.declared.data.Limits.Limits). l.sessions ≤ 64) (sym limits) k.agree.sessions;
      room = subst (λ ss. length ss ≤ 64) (sym sessions_here) (let f = count_by-le-length (λ x. not (x.number == n)) m.sessions in let g = length-filter (λ x. not (x.number == n)) m.sessions in let r = k.agree.room in omega (arith, f, g, r));
    }
      where
        still : (q : ℕ) (t : kept.Transaction) → transaction_in (at (filter (λ x. not (x.number == n)) m.sessions) q) ≡ Some t → transaction_in (at m.sessions q) ≡ Some t
        still q t h = by (q == n) (sym (ap transaction_in (at_filtered n q m.sessions)) ∙ h)
          where
            by : (b : Bool) → transaction_in (if b then None else at m.sessions q) ≡ Some t → transaction_in (at m.sessions q) ≡ Some t
            by true g = cc
            by false g = g

    agrees : Agree m'
    agrees = by (open_left (the_session m n i).transaction)
      where
        by : (((the_session m n i).transaction ≡ None) ⊎ ((x : kept.Transaction) × ((the_session m n i).transaction ≡ Some x))) → Agree m'
        by (inl none) = with (closed_held none) (closed_queue none)
        by (inr x) = with (open_held x.0 x.1) (open_queue x.0 x.1)
