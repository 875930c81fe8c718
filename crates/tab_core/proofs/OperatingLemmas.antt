-- Operations and retries: the lock is decided, and then the work is done, queued, or given up.
use Rattle.std.proofs.Common.{◌≡◌, ℕ, ◌≤◌, List, [], ◌∷◌, ◌++◌, Bool, true, false, not, refl, sym, ap, ◌∙◌, subst, arith, Option, Some, None, set}
use Rattle.std.specs.Prelude.{◌==◌, nat_lt, if◌then◌else◌, map, option_map, IfSome}
use Rattle.std.specs.List.{filter}
use Rattle.tab_locks.specs.Members.{SameMembers}
use Rattle.tab_locks.specs.Placed.{placed, without_last}
use Rattle.tab_model.specs.declared.data.Command.TheVariants as command
use Rattle.tab_model.specs.declared.data.Limit.TheVariants as limit
use Rattle.tab_model.specs.declared.data.Move.TheVariants.{Do}
use Rattle.tab_model.specs.declared.data.Operation.{Operation}
use Rattle.tab_model.specs.declared.data.Reply.TheVariants as reply
use Rattle.tab_model.specs.Ages.{Owned, Ages, Answer, Granted, Wait, Die, without, forget, decide, can_retry, request_of}
use Rattle.tab_model.specs.Locks.{needs}
use Rattle.tab_model.specs.Operations.{table_of}
use Rattle.tab_model.specs.Catalogs.{find}
use Rattle.tab_model.specs.State as plain
use Rattle.tab_model.specs.State.{State, Queued, request_in, without_request, is_waiting, locks_held_in, locks_queued_in, ages_of, count_moves}
use Rattle.tab_model.specs.declared.ask.Ask.TheVariants.{Do as DoCommand, Retry}
use Rattle.tab_model.specs.Outcome.{Outcome, outcome, step_without_entry, operate, by_lock_answer, retry, retry_in, make, with_queue}
use Rattle.tab_model.proofs.StepCases.{within_limit, try_again}
use Rattle.tab_model.proofs.ReachedWaits.{queued_in-push, request_match, match_of, request_age}
use Rattle.tab_txstore.specs.Stores.{store_next, no_store, Fits}
use Rattle.tab_txstore.proofs.FitsLemmas.{fits_new}
use Rattle.tab_waitdie.specs.declared.ages.LockDecision as waitdie
use Rattle.tab_waitdie.specs.Decisions as waitdie_of
use Rattle.tab_core.specs.declared.transaction.Transaction as kept
use Rattle.tab_core.specs.declared.queue.Request as request
use Rattle.tab_core.specs.declared.operating.Worked.{Worked}
use Rattle.tab_core.specs.Works.{Works}
use Rattle.tab_core.specs.Works as works
use Rattle.tab_core.specs.Kept.{opens, Agree, IsKept}
use Rattle.tab_core.proofs.HeldLocks.{decides, retries}
use Rattle.tab_core.proofs.Keeping as keep
use Rattle.tab_core.proofs.Keeping.{with_transaction, the_session, state_after, IsNext, Leaves, leaves, kept_same, state_next}
use Rattle.tab_core.proofs.Moving as moving
use Rattle.tab_core.proofs.Moving.{moved, moved_if, without_twice}
use Rattle.tab_core.proofs.LevelEnds.{over_agrees}
use Rattle.tab_subs.specs.Subscribers.{IsHeldAt}
use Rattle.tab_core.specs.Joined.{Subscriber}
use Rattle.tab_core.specs.Parts.{Parts, queued_of, session_of, state_of, transaction_of}

queued_push : (qs : List request.Request) (q : request.Request) → map queued_of (qs ++ q ∷ []) ≡ map queued_of qs ++ queued_of q ∷ []
queued_push [] q = refl
queued_push (p ∷ qs) q = ap (λ xs. queued_of p ∷ xs) (queued_push qs q)

-- what the lock table answered, of the lock that the operation needs
pub decides_as : (g : Ages) (age : ℕ) (l : Rattle.tab_model.specs.Locks.Lock) (o : Operation) (a b : waitdie.LockDecision) → waitdie_of.answer_of a ≡ decide g (age, l) → a ≡ b → l ≡ needs o → decide g (age, needs o) ≡ waitdie_of.answer_of b
decides_as g age l o a b h e is = ap (λ x. decide g (age, x)) (sym is) ∙ sym h ∙ ap waitdie_of.answer_of e

pub ages_after : (g g' : Ages) (age : ℕ) (l : Rattle.tab_model.specs.Locks.Lock) (o : Operation) (a b : waitdie.LockDecision) → g' ≡ waitdie_of.after_answer g (age, l) a → a ≡ b → l ≡ needs o → g' ≡ waitdie_of.after_answer g (age, needs o) b
ages_after g g' age l o a b h e is = h ∙ ap (waitdie_of.after_answer g (age, l)) e ∙ ap (λ x. waitdie_of.after_answer g (age, x) b) is

pub given_back : (g g' : Ages) (age : ℕ) (r : Owned) → without_last age g'.held ≡ g.held → g' ≡ record { held = placed r g.held; queue = g.queue } → (let z : Ages = record { held = without_last age g'.held; queue = g'.queue } in z) ≡ g
given_back g g' age r h e = λ j. record { held = h j; queue = Ages.queue (e j) }

-- a lock given back, at the session of its transaction
pub undone : (t : kept.Transaction) (o v : Option kept.Transaction) (g g' : Ages) → o ≡ Some t
    → IfSome o (λ u. (v ≡ o) × (g' ≡ record { held = without_last u.age g.held; queue = g.queue })) → (v ≡ o) × (g' ≡ record { held = without_last t.age g.held; queue = g.queue })
undone t o v g g' h x = keep.if_some (λ u. (v ≡ o) × (let z : Ages = record { held = without_last u.age g.held; queue = g.queue } in g' ≡ z)) o t h x

module _ (m : Parts) (n i : ℕ) (k : IsKept m) (there : IsHeldAt m.sessions n i) where
  abbrev s : Subscriber
  s = the_session m n i

  abbrev σ : State
  σ = state_of m

  pub no_transaction : (o : Operation) → is_waiting σ n ≡ false → s.transaction ≡ None → outcome σ [] n (DoCommand (command.Do o)) ≡ step_without_entry σ reply.NoTransaction
  no_transaction o idle none = keep.asks m n i k there (command.Do o) idle ∙ ap (operate σ (session_of s) o) (ap (option_map transaction_of) none)

  module _ (t : kept.Transaction) (open_t : s.transaction ≡ Some t) where
    abbrev tr : plain.Transaction
    tr = transaction_of t

    pub at_within : (o : Operation) (b : Bool) → is_waiting σ n ≡ false → nat_lt (count_moves t.store.moves) m.limits.operations ≡ b → outcome σ [] n (DoCommand (command.Do o)) ≡ within_limit σ (session_of s) tr o b
    at_within o b idle room =
        keep.asks m n i k there (command.Do o) idle ∙ ap (operate σ (session_of s) o) (ap (option_map transaction_of) open_t) ∙ ap (within_limit σ (session_of s) tr o) room

    pub too_many : (o : Operation) → is_waiting σ n ≡ false → nat_lt (count_moves t.store.moves) m.limits.operations ≡ false → outcome σ [] n (DoCommand (command.Do o)) ≡ step_without_entry σ (reply.SystemLimit limit.Operations)
    too_many o idle room = at_within o false idle room

    answers : (r : Owned) → decide (ages_of σ) r ≡ decide m.ages r
    answers r = sym (ap (λ (q : List Owned). let g : Ages = record { held = m.ages.held; queue = q } in decide g r) k.agree.queue ∙ decides (locks_held_in (map session_of m.sessions)) m.ages.held (locks_queued_in (map queued_of m.queue.items)) r k.agree.held)

    pub asks_lock : (o : Operation) (a : Answer) → is_waiting σ n ≡ false → nat_lt (count_moves t.store.moves) m.limits.operations ≡ true → decide m.ages (t.age, needs o) ≡ a → outcome σ [] n (DoCommand (command.Do o)) ≡ by_lock_answer σ (session_of s) tr o a
    asks_lock o a idle room h = at_within o true idle room ∙ ap (by_lock_answer σ (session_of s) tr o) (answers (t.age, needs o) ∙ h)

    -- ---- granted
    pub granted : (o : Operation) (x : Worked) (new : kept.Transaction) (w : Works m.catalog t o x new) → is_waiting σ n ≡ false → nat_lt (count_moves t.store.moves) m.limits.operations ≡ true → decide m.ages (t.age, needs o) ≡ Granted
        → outcome σ [] n (DoCommand (command.Do o)) ≡ step_without_entry (state_after m (set m.sessions i (moving.after_work m n i k there t open_t o x new w)) m.queue.items) x.reply
    granted o x new w idle room h =
        asks_lock o Granted idle room h
        ∙ moving.moves m n i k there t open_t m.queue.items (find m.catalog (table_of o)) (Do o) (Some x.reply) reply.Done x.over (moving.answered m n i k there t open_t o x new w) (moving.over_is m n i k there t open_t o x new w)

    -- ---- waits
    pub waits : (o : Operation) (q : request.Request) → q ≡ record { session = n; age = t.age; operation = o } → is_waiting σ n ≡ false → nat_lt (count_moves t.store.moves) m.limits.operations ≡ true → decide m.ages (t.age, needs o) ≡ Wait
        → outcome σ [] n (DoCommand (command.Do o)) ≡ step_without_entry (state_after m m.sessions (m.queue.items ++ q ∷ [])) reply.Waiting
    waits o q is idle room h =
        asks_lock o Wait idle room h
        ∙ ap (λ qs. step_without_entry (with_queue σ qs) reply.Waiting)
        (ap (λ c. let y : Queued = record { session = c; age = t.age; operation = o } in map queued_of m.queue.items ++ y ∷ []) (keep.is m n i k there)
        ∙ ap (λ c. map queued_of m.queue.items ++ queued_of c ∷ []) (sym is) ∙ sym (queued_push m.queue.items q))

    pub wait_agrees : (o : Operation) (q : request.Request) → q ≡ record { session = n; age = t.age; operation = o } → (m' : Parts) → m'.catalog ≡ m.catalog → m'.sessions ≡ m.sessions → m'.limits ≡ m.limits → m'.begun ≡ m.begun → m'.commits ≡ m.commits
        → m'.ages ≡ record { held = m.ages.held; queue = m.ages.queue ++ (t.age, needs o) ∷ [] } → m'.queue.items ≡ m.queue.items ++ q ∷ [] → Agree m'
    wait_agrees o q is m' catalog sessions limits begun commits ages queue =
        keep.session_agrees m n i k there s refl m' catalog (sessions ∙ sym (keep.unchanged m n i k there)) limits
        (subst (SameMembers (locks_held_in (map session_of (set m.sessions i s)))) (sym (ap (λ (g : Ages). g.held) ages)) (keep.same_locks m n i k there s refl refl))
        (ap (λ (g : Ages). g.queue) ages ∙ ap (λ xs. xs ++ (t.age, needs o) ∷ []) k.agree.queue ∙ sym (queued_in-push (map queued_of m.queue.items) (queued_of q) ∙ ap (λ (c : request.Request). locks_queued_in (map queued_of m.queue.items) ++ (c.age, needs c.operation) ∷ []) is)
        ∙ ap locks_queued_in (sym (queued_push m.queue.items q)) ∙ ap (λ xs. locks_queued_in (map queued_of xs)) (sym queue))
        (λ u h. let same : t ≡ u = some_is (sym open_t ∙ h) in subst (λ (v : kept.Transaction). Fits v.store m.catalog) same (keep.fit m n i k there t open_t))
        (let a = k.agree.ages in omega (arith, a, begun))
        (let c = keep.counts' m n i k there s refl in let d = k.agree.counted in omega (arith, c, d, begun, commits))
      where
        some_is : {u : kept.Transaction} → Some t ≡ Some u → t ≡ u
        some_is h = cc

    -- ---- dies
    pub dies : (o : Operation) → is_waiting σ n ≡ false → nat_lt (count_moves t.store.moves) m.limits.operations ≡ true → decide m.ages (t.age, needs o) ≡ Die
        → outcome σ [] n (DoCommand (command.Do o)) ≡ step_without_entry (state_after m (set m.sessions i (with_transaction s (works.restarted s.transaction))) m.queue.items) reply.Restart
    dies o idle room h =
        asks_lock o Die idle room h
        ∙ ap (λ x. step_without_entry (Rattle.tab_model.specs.Outcome.with_session σ (Rattle.tab_model.specs.Outcome.with_transaction (session_of s) x)) reply.Restart) (ap (option_map (λ v. transaction_of (works.with_store v no_store))) (sym open_t) ∙ mapped s.transaction)
        ∙ ap (λ ss. let τ : State = record (state_of m) { sessions = ss } in step_without_entry τ reply.Restart) (sym (keep.seats' m n i k there (with_transaction s (works.restarted s.transaction)) refl))
      where
        mapped : (x : Option kept.Transaction) → option_map (λ v. transaction_of (works.with_store v no_store)) x ≡ option_map transaction_of (option_map (λ v. works.with_store v no_store) x)
        mapped None = refl
        mapped (Some v) = refl

    pub die_agrees : is_waiting σ n ≡ false → (m' : Parts) → m'.catalog ≡ m.catalog → m'.sessions ≡ set m.sessions i (with_transaction s (works.restarted s.transaction)) → m'.limits ≡ m.limits → m'.begun ≡ m.begun → m'.commits ≡ m.commits
        → m'.ages ≡ forget m.ages t.age → m'.queue.items ≡ m.queue.items → Agree m'
    die_agrees idle m' catalog sessions limits begun commits ages queue =
        over_agrees m n i k there t open_t (with_transaction s (works.restarted s.transaction)) refl (ap (λ x. plain.locks_held_by (option_map transaction_of (option_map (λ v. works.with_store v no_store) x))) open_t) (fits s.transaction) (few s.transaction) m' catalog sessions limits begun commits
        (ap (λ (g : Ages). g.held) ages)
        (ap (λ (g : Ages). g.queue) ages ∙ keep.not_queued m n i k there t open_t idle ∙ k.agree.queue ∙ ap (λ qs. locks_queued_in (map queued_of qs)) (sym queue))
      where
        fits : (x : Option kept.Transaction) (u : kept.Transaction) → option_map (λ v. works.with_store v no_store) x ≡ Some u → Fits u.store m.catalog
        fits None u h = cc
        fits (Some v) u h = let same : works.with_store v no_store ≡ u = cc in subst (λ (y : kept.Transaction). Fits y.store m.catalog) same (fits_new m.catalog)

        few : (x : Option kept.Transaction) → opens (option_map (λ v. works.with_store v no_store) x) ≤ 1
        few None = omega arith
        few (Some v) = omega arith

    -- ---- the work that was done at the session's place

    abbrev pub locks_with : Owned → Ages
    locks_with r = record { held = placed r m.ages.held; queue = m.ages.queue }

    -- what the parts of the work say, put together: v is the transaction right after the work, y the one in the end
    pub record IsWorked (o : Operation) (x : Worked) (before v y : Option kept.Transaction) : Type 0 where
      pub same : before ≡ s.transaction
      pub works : IfSome before (λ u. works.WorksTo m.catalog u o x v)
      pub end : y ≡ (if x.over then None else v)

    pub record HasWorked (o : Operation) (x : Worked) (v y : Option kept.Transaction) : Type 0 where
      pub new : kept.Transaction
      pub works : Works m.catalog t o x new
      pub open_v : v ≡ Some new
      pub slot : with_transaction s y ≡ moved_if x.over s t (store_next (find m.catalog (table_of o)) t.store (Do o) (Some x.reply))

    pub worked : (o : Operation) (x : Worked) (before v y : Option kept.Transaction) → IsWorked o x before v y → HasWorked o x v y
    worked o x before v y w = by v refl (keep.if_some (λ z. works.WorksTo m.catalog z o x v) before t (w.same ∙ open_t) w.works)
      where
        store_is : (new : kept.Transaction) → Works m.catalog t o x new → Some new ≡ Some (works.with_store t (store_next (find m.catalog (table_of o)) t.store (Do o) (Some x.reply)))
        store_is new h = ap Some h.store

        by_over : (b : Bool) (new : kept.Transaction) → v ≡ Some new → Works m.catalog t o x new → with_transaction s (if b then None else v) ≡ moved_if b s t (store_next (find m.catalog (table_of o)) t.store (Do o) (Some x.reply))
        by_over true new e h = refl
        by_over false new e h = ap (with_transaction s) (e ∙ store_is new h)

        by : (u : Option kept.Transaction) → v ≡ u → works.WorksTo m.catalog t o x u → HasWorked o x v y
        by None e h = absurd h
        by (Some new) e h = record { new = new; works = h; open_v = e; slot = ap (with_transaction s) w.end ∙ by_over x.over new e h }

    -- the locks in the end, where those before the end are g
    ages_in_end : (o : Operation) (x : Worked) (v y : Option kept.Transaction) (g g' : Ages) → HasWorked o x v y → g' ≡ (if x.over then works.forgotten_if g v else g) → g' ≡ (if x.over then forget g t.age else g)
    ages_in_end o x v y g g' h e = e ∙ ap (λ u. if x.over then works.forgotten_if g u else g) (h.open_v ∙ ap Some h.works.store)

    held_if : (b : Bool) (g : Ages) (r : Owned) → g.held ≡ placed r m.ages.held → (if b then forget g t.age else g).held ≡ (if b then without t.age (placed r m.ages.held) else placed r m.ages.held)
    held_if true g r h = ap (without t.age) h
    held_if false g r h = h

    queue_if : (b : Bool) (g : Ages) → without t.age g.queue ≡ g.queue → (if b then forget g t.age else g).queue ≡ g.queue
    queue_if true g h = h
    queue_if false g h = refl

    pub granted_exit : (o : Operation) (x : Worked) (before v y : Option kept.Transaction) (g g' : Ages) (m' : Parts) → IsWorked o x before v y → is_waiting σ n ≡ false → nat_lt (count_moves t.store.moves) m.limits.operations ≡ true → decide m.ages (t.age, needs o) ≡ Granted
        → g ≡ locks_with (t.age, needs o) → g' ≡ (if x.over then works.forgotten_if g v else g) → IsNext m m' (set m.sessions i (with_transaction s y)) m.queue.items → m'.ages ≡ g' → Leaves m m' n (DoCommand (command.Do o)) x.reply
    granted_exit o x before v y g g' m' w idle room h locks in_end nx ages =
        let d = worked o x before v y w in
        let last = ages ∙ ages_in_end o x v y g g' d in_end in
        leaves m m' (set m.sessions i (with_transaction s y)) m.queue.items n (DoCommand (command.Do o)) x.reply k nx
        (granted o x d.new d.works idle room h ∙ ap (λ z. step_without_entry (state_after m (set m.sessions i z) m.queue.items) x.reply) (sym d.slot))
        (moving.work_agrees m n i k there t open_t o x d.new d.works m' nx.catalog (nx.sessions ∙ ap (set m.sessions i) d.slot) nx.limits nx.begun nx.commits
        (ap (λ (z : Ages). z.held) last ∙ held_if x.over g (t.age, needs o) (ap (λ (z : Ages). z.held) locks))
        (ap (λ (z : Ages). z.queue) last ∙ queue_if x.over g (ap (λ (z : Ages). without t.age z.queue) locks ∙ keep.not_queued m n i k there t open_t idle ∙ sym (ap (λ (z : Ages). z.queue) locks)) ∙ ap (λ (z : Ages). z.queue) locks
        ∙ k.agree.queue ∙ ap (λ qs. locks_queued_in (map queued_of qs)) (sym nx.queue)))

    -- work that was refused memory: all is as before
    pub refused_exit : (v : Option kept.Transaction) (m' : Parts) → v ≡ s.transaction → IsNext m m' (set m.sessions i (with_transaction s v)) m.queue.items → m'.ages ≡ m.ages → (state_of m' ≡ state_of m) × IsKept m'
    refused_exit v m' same nx ages =
        let before : state_of m' ≡ state_of m = sym (state_next m m' (set m.sessions i (with_transaction s v)) m.queue.items nx) ∙ ap (λ ss. state_after m ss m.queue.items) (ap (λ z. set m.sessions i (with_transaction s z)) same ∙ keep.unchanged m n i k there) in (
          before,
          kept_same m m' k (keep.session_agrees m n i k there s refl m' nx.catalog (nx.sessions ∙ ap (λ z. set m.sessions i (with_transaction s z)) same) nx.limits
              (subst (SameMembers (locks_held_in (map session_of (set m.sessions i s)))) (sym (ap (λ (g : Ages). g.held) ages)) (keep.same_locks m n i k there s refl refl))
              (ap (λ (g : Ages). g.queue) ages ∙ k.agree.queue ∙ ap (λ qs. locks_queued_in (map queued_of qs)) (sym nx.queue))
              (λ u h. let e : t ≡ u = some_is (sym open_t ∙ h) in subst (λ (z : kept.Transaction). Fits z.store m.catalog) e (keep.fit m n i k there t open_t))
              (let a = k.agree.ages in omega (arith, a, nx.begun))
              (let c = keep.counts' m n i k there s refl in let d = k.agree.counted in omega (arith, c, d, nx.begun, nx.commits))) before,
        )
      where
        some_is : {u : kept.Transaction} → Some t ≡ Some u → t ≡ u
        some_is h = cc

    pub wait_exit : (o : Operation) (q : request.Request) (m' : Parts) → q ≡ record { session = n; age = t.age; operation = o } → is_waiting σ n ≡ false → nat_lt (count_moves t.store.moves) m.limits.operations ≡ true → decide m.ages (t.age, needs o) ≡ Wait
        → m'.ages ≡ record { held = m.ages.held; queue = m.ages.queue ++ (t.age, needs o) ∷ [] } → IsNext m m' m.sessions (m.queue.items ++ q ∷ []) → Leaves m m' n (DoCommand (command.Do o)) reply.Waiting
    wait_exit o q m' is idle room h ages nx =
        leaves m m' m.sessions (m.queue.items ++ q ∷ []) n (DoCommand (command.Do o)) reply.Waiting k nx (waits o q is idle room h)
        (wait_agrees o q is m' nx.catalog nx.sessions nx.limits nx.begun nx.commits ages nx.queue)

    pub die_exit : (o : Operation) (v : Option kept.Transaction) (m' : Parts) → v ≡ works.restarted s.transaction → is_waiting σ n ≡ false → nat_lt (count_moves t.store.moves) m.limits.operations ≡ true → decide m.ages (t.age, needs o) ≡ Die
        → {g : Ages} → g ≡ m.ages → m'.ages ≡ works.forgotten_if g s.transaction → IsNext m m' (set m.sessions i (with_transaction s v)) m.queue.items → Leaves m m' n (DoCommand (command.Do o)) reply.Restart
    die_exit o v m' empty idle room h {g} before ages nx =
        leaves m m' (set m.sessions i (with_transaction s v)) m.queue.items n (DoCommand (command.Do o)) reply.Restart k nx
        (dies o idle room h ∙ ap (λ z. step_without_entry (state_after m (set m.sessions i (with_transaction s z)) m.queue.items) reply.Restart) (sym empty))
        (die_agrees idle m' nx.catalog (nx.sessions ∙ ap (λ z. set m.sessions i (with_transaction s z)) empty) nx.limits nx.begun nx.commits
        (ages ∙ ap (works.forgotten_if g) open_t ∙ ap (λ z. forget z t.age) before) nx.queue)

-- ---- a retry

module _ (m : Parts) (n i : ℕ) (k : IsKept m) (there : IsHeldAt m.sessions n i) where
  abbrev sitting : Subscriber
  sitting = the_session m n i

  abbrev τ : State
  τ = state_of m

  pub nothing_queued : request_in (map queued_of m.queue.items) n ≡ None → outcome τ [] n Retry ≡ step_without_entry τ reply.NotWaiting
  nothing_queued none = keep.sits τ n (session_of sitting) Retry (keep.here m n i k there) ∙ ap (retry τ (session_of sitting)) (ap (request_in (map queued_of m.queue.items)) (keep.is m n i k there) ∙ none)

  -- its request, however the queue is read
  pub queued_here : (qs : List request.Request) → qs ≡ m.queue.items → {o : Option Queued} → request_in (map queued_of qs) n ≡ o → request_in (map queued_of m.queue.items) n ≡ o
  queued_here qs h e = ap (λ xs. request_in (map queued_of xs) n) (sym h) ∙ e

  -- who waits has an open transaction, of the request's age
  pub record IsRequest (q : request.Request) : Type 0 where
    pub transaction : kept.Transaction
    pub open_t : sitting.transaction ≡ Some transaction
    pub age : transaction.age ≡ q.age
    pub request : request_of q.age m.ages.queue ≡ Some (q.age, needs q.operation)

  pub requested : (q : request.Request) → request_in (map queued_of m.queue.items) n ≡ Some (queued_of q) → IsRequest q
  requested q h = by sitting.transaction refl (subst (λ o. plain.HasAge o q.age) (ap plain.transaction_in (keep.here m n i k there)) (request_age (plain.transaction_at τ) n (map queued_of m.queue.items) (queued_of q) k.owners h))
    where
      by : (o : Option kept.Transaction) → sitting.transaction ≡ o → plain.HasAge (option_map transaction_of sitting.transaction) q.age → IsRequest q
      by None e g = absurd (subst (λ o. plain.HasAge (option_map transaction_of o) q.age) e g)
      by (Some t) e g =
          let age : t.age ≡ q.age = subst (λ o. plain.HasAge (option_map transaction_of o) q.age) e g in
          record {
            transaction = t;
            open_t = e;
            age = age;
            request = ap (λ a. request_of a m.ages.queue) (sym age) ∙ ap (request_of t.age) k.agree.queue
                ∙ request_match n t.age (map queued_of m.queue.items) (queued_of q) (match_of τ n (transaction_of t) (map queued_of m.queue.items) k.sound (keep.mine m n i k there t e) k.owners) h;
          }

  module _ (q : request.Request) (rq : request_in (map queued_of m.queue.items) n ≡ Some (queued_of q)) where
    abbrev r : IsRequest q
    r = requested q rq

    pub may : (b : Bool) → can_retry m.ages (q.age, needs q.operation) ≡ b → can_retry (ages_of τ) (r.transaction.age, needs q.operation) ≡ b
    may b h =
        sym (ap (λ (x : List Owned). let g : Ages = record { held = m.ages.held; queue = x } in can_retry g (r.transaction.age, needs q.operation)) k.agree.queue ∙ retries (locks_held_in (map session_of m.sessions)) m.ages.held (locks_queued_in (map queued_of m.queue.items)) (r.transaction.age, needs q.operation) k.agree.held)
        ∙ ap (λ a. can_retry m.ages (a, needs q.operation)) r.age ∙ h

    pub retried_as : (b : Bool) → can_retry m.ages (q.age, needs q.operation) ≡ b → outcome τ [] n Retry ≡ try_again τ (session_of sitting) (transaction_of r.transaction) q.operation b
    retried_as b h =
        keep.sits τ n (session_of sitting) Retry (keep.here m n i k there) ∙ ap (retry τ (session_of sitting)) (ap (request_in (map queued_of m.queue.items)) (keep.is m n i k there) ∙ rq)
        ∙ ap (retry_in τ (session_of sitting) q.operation) (ap (option_map transaction_of) r.open_t) ∙ ap (try_again τ (session_of sitting) (transaction_of r.transaction) q.operation) (may b h)

    pub waits_on : can_retry m.ages (q.age, needs q.operation) ≡ false → outcome τ [] n Retry ≡ step_without_entry τ reply.Waiting
    waits_on h = retried_as false h

    -- the locks after the grant
    pub granted_as : (g : Ages) → IfSome (request_of q.age m.ages.queue) (λ z. g ≡ record { held = placed z m.ages.held; queue = m.ages.queue }) → g ≡ record { held = placed (q.age, needs q.operation) m.ages.held; queue = m.ages.queue }
    granted_as g h = subst (λ x. IfSome x (λ z. (let y : Ages = record { held = placed z m.ages.held; queue = m.ages.queue } in g ≡ y))) r.request h

    -- a granted retry whose work was refused memory: all is as before
    pub retry_refused : (before v : Option kept.Transaction) (g g' : Ages) (m' : Parts) → before ≡ sitting.transaction
        → IfSome before (λ u. (v ≡ before) × (g' ≡ record { held = without_last u.age g.held; queue = g.queue }))
        → without_last q.age g.held ≡ m.ages.held → IfSome (request_of q.age m.ages.queue) (λ z. g ≡ record { held = placed z m.ages.held; queue = m.ages.queue })
        → IsNext m m' (set m.sessions i (with_transaction sitting v)) m.queue.items → m'.ages ≡ g' → (state_of m' ≡ state_of m) × IsKept m'
    retry_refused before v g g' m' same undone_here undo grant nx ages =
        let u = undone r.transaction before v g g' (same ∙ r.open_t) undone_here in
        refused_exit m n i k there r.transaction r.open_t v m' (u.0 ∙ same) nx
        (ages ∙ u.1 ∙ given_back m.ages g r.transaction.age (q.age, needs q.operation) (ap (λ a. without_last a g.held) r.age ∙ undo) (granted_as g grant))

    pub retry_exit : (x : Worked) (before v y : Option kept.Transaction) (g g' : Ages) (m' : Parts) → IsWorked m n i k there r.transaction r.open_t q.operation x before v y → can_retry m.ages (q.age, needs q.operation) ≡ true
        → g ≡ record { held = placed (q.age, needs q.operation) m.ages.held; queue = without q.age m.ages.queue } → g' ≡ (if x.over then works.forgotten_if g v else g)
        → IsNext m m' (set m.sessions i (with_transaction sitting y)) (filter (λ z. not (z.session == n)) m.queue.items) → m'.ages ≡ g' → Leaves m m' n Retry x.reply
    retry_exit x before v y g g' m' w h locks in_end nx ages =
        let t = r.transaction in
        let o = q.operation in
        let d = worked m n i k there t r.open_t o x before v y w in
        let last = ages ∙ ages_in_end m n i k there t r.open_t o x v y g g' d in_end in
        let queue_is : without t.age g.queue ≡ g.queue = ap (λ (z : Ages). without t.age z.queue) locks ∙ ap (λ a. without t.age (without a m.ages.queue)) (sym r.age) ∙ without_twice t.age m.ages.queue ∙ ap (λ a. without a m.ages.queue) r.age ∙ sym (ap (λ (z : Ages). z.queue) locks) in
        leaves m m' (set m.sessions i (with_transaction sitting y)) (filter (λ z. not (z.session == n)) m.queue.items) n Retry x.reply k nx
        (retried_as true h
        ∙ ap (λ qq. make (with_queue τ qq) (session_of sitting) (transaction_of t) (Do o) reply.Done) (ap (without_request (map queued_of m.queue.items)) (keep.is m n i k there) ∙ sym (keep.queued_filtered n m.queue.items))
        ∙ moving.moves m n i k there t r.open_t (filter (λ z. not (z.session == n)) m.queue.items) (find m.catalog (table_of o)) (Do o) (Some x.reply) reply.Done x.over (moving.answered m n i k there t r.open_t o x d.new d.works) (moving.over_is m n i k there t r.open_t o x d.new d.works)
        ∙ ap (λ z. step_without_entry (state_after m (set m.sessions i z) (filter (λ z. not (z.session == n)) m.queue.items)) x.reply) (sym d.slot))
        (moving.work_agrees m n i k there t r.open_t o x d.new d.works m' nx.catalog (nx.sessions ∙ ap (set m.sessions i) d.slot) nx.limits nx.begun nx.commits
        (ap (λ (z : Ages). z.held) last ∙ held_if m n i k there t r.open_t x.over g (t.age, needs o) (ap (λ (z : Ages). z.held) locks ∙ ap (λ a. placed (a, needs o) m.ages.held) (sym r.age)))
        (ap (λ (z : Ages). z.queue) last ∙ queue_if m n i k there t r.open_t x.over g queue_is ∙ ap (λ (z : Ages). z.queue) locks ∙ ap (λ a. without a m.ages.queue) (sym r.age)
        ∙ keep.dropped m n i k there t r.open_t ∙ ap (λ qs. locks_queued_in (map queued_of qs)) (sym nx.queue)))
