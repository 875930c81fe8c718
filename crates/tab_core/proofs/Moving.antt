-- A move that a transaction makes: what its session is answered, and the parts after it.
use Rattle.std.proofs.Common.{◌≡◌, ℕ, ◌≤◌, List, [], ◌∷◌, ◌++◌, Bool, true, false, ◌&&◌, ◌||◌, not, refl, sym, ap, ◌∙◌, subst, arith, length, Option, Some, set}
use Rattle.std.specs.Prelude.{◌==◌, if◌then◌else◌, map, option_map}
use Rattle.std.specs.List.{list_any}
use Rattle.std.proofs.lemmas.Bool.Decides.{nat_tests}
use Rattle.tab_locks.specs.Members.{SameMembers}
use Rattle.tab_locks.specs.Placed.{placed}
use Rattle.tab_locks.proofs.Listing.{any_placed}
use Rattle.tab_model.specs.declared.data.Move.{Move}
use Rattle.tab_model.specs.declared.data.Move.TheVariants.{Do}
use Rattle.tab_model.specs.declared.data.Operation.{Operation}
use Rattle.tab_model.specs.declared.data.Reply.{Reply}
use Rattle.tab_model.specs.Ages.{Owned, without}
use Rattle.tab_model.specs.Alone.{reply_to}
use Rattle.tab_model.specs.Events.{is_failure}
use Rattle.tab_model.specs.Locks.{Lock, needs, locks_of}
use Rattle.tab_model.specs.Operations.{table_of}
use Rattle.tab_model.specs.Catalogs.{Table, find}
use Rattle.tab_model.specs.State as plain
use Rattle.tab_model.specs.State.{Session, State, with_age, locks_held_by, locks_held_in, locks_queued_in, mid_of}
use Rattle.tab_model.specs.Outcome.{is_empty, step_without_entry, with_session, ends_transaction, reply_or, make}
use Rattle.tab_model.proofs.StepCases.{after_move}
use Rattle.tab_model.proofs.SessionLists.{itself}
use Rattle.tab_model.proofs.StepsBySession.{lock_of_move, locks-more}
use Rattle.tab_model.proofs.SurvivorsRight.{reply_tells}
use Rattle.tab_model.proofs.ReachedWaits.{aged_append}
use Rattle.tab_txstore.specs.Stores.{Store, store_next, Fits}
use Rattle.tab_txstore.proofs.FitsLemmas.{fits_next}
use Rattle.tab_core.specs.declared.transaction.Transaction as kept
use Rattle.tab_core.specs.declared.queue.Request as request
use Rattle.tab_core.specs.declared.operating.Worked.{Worked}
use Rattle.tab_core.specs.Works.{with_store, Works}
use Rattle.tab_core.specs.Kept.{opens, Agree, IsKept}
use Rattle.tab_core.proofs.HeldLocks.{any_without}
use Rattle.tab_core.proofs.Keeping as keep
use Rattle.tab_core.proofs.Keeping.{ended, the_session, state_after, with_transaction}
use Rattle.tab_subs.specs.Subscribers.{IsHeldAt}
use Rattle.tab_core.specs.Joined.{Subscriber}
use Rattle.tab_core.specs.Parts.{Parts, queued_of, session_of, state_of, transaction_of}

pub empty_counts : {A : Type 0} (xs : List A) → is_empty xs ≡ (length xs == 0)
empty_counts [] = refl
empty_counts (x ∷ xs) = grind (arith, nat_tests)

and_swap : (a b : Bool) → (a && b) ≡ (b && a)
and_swap true true = refl
and_swap true false = refl
and_swap false true = refl
and_swap false false = refl

-- a session whose transaction has another store
abbrev pub moved : Subscriber → kept.Transaction → Store → Subscriber
moved s t st = with_transaction s (Some (with_store t st))

abbrev pub moved_if : Bool → Subscriber → kept.Transaction → Store → Subscriber
moved_if over s t st = if over then ended s else moved s t st

locks_next : (t : kept.Transaction) (committed : Option Table) (x : Move) (r : Option Reply) → locks_held_by (Some (transaction_of (with_store t (store_next committed t.store x r)))) ≡ locks_held_by (Some (transaction_of t)) ++ with_age t.age (lock_of_move x)
locks_next t committed x r = ap (with_age t.age) (locks-more t.store.moves x) ∙ aged_append t.age (locks_of t.store.moves) (lock_of_move x)

-- a lock that is granted and forgotten again
placed_gone : (a : ℕ) (l : Lock) (held : List Owned) → SameMembers (without a held) (without a (placed (a, l) held))
placed_gone a l held p =
    any_without p a (placed (a, l) held) ∙ any_placed (λ x. p x && not (x.0 == a)) (a, l) held
    ∙ ap (λ b. (p (a, l) && not b) || list_any (λ x. p x && not (x.0 == a)) held) (itself a) ∙ none (p (a, l)) ∙ sym (any_without p a held)
  where
    none : (b : Bool) → ((b && false) || list_any (λ x. p x && not (x.0 == a)) held) ≡ list_any (λ x. p x && not (x.0 == a)) held
    none true = refl
    none false = refl

pub without_twice : (a : ℕ) (xs : List Owned) → without a (without a xs) ≡ without a xs
without_twice a [] = refl
without_twice a (x ∷ xs) = by (x.0 == a) refl (without_twice a xs)
  where
    by : (b : Bool) → (x.0 == a) ≡ b → without a (without a xs) ≡ without a xs → without a (if not b then x ∷ without a xs else without a xs) ≡ (if not b then x ∷ without a xs else without a xs)
    by true e ih = ih
    by false e ih = ap (λ b. if not b then x ∷ without a (without a xs) else without a (without a xs)) e ∙ ap (λ ys. x ∷ ys) ih

module _ (m : Parts) (n i : ℕ) (k : IsKept m) (there : IsHeldAt m.sessions n i) (t : kept.Transaction) (open_t : (the_session m n i).transaction ≡ Some t) where
  abbrev s : Subscriber
  s = the_session m n i

  abbrev σ : State
  σ = state_of m

  abbrev tr : plain.Transaction
  tr = transaction_of t

  -- THE MOVE
  pub moves : (qs : List request.Request) (committed : Option Table) (x : Move) (r : Option Reply) (d : Reply) (over : Bool) → reply_to (mid_of σ tr) x ≡ r → ends_transaction (mid_of σ tr) x ≡ over
      → make (state_after m m.sessions qs) (session_of s) tr x d ≡ step_without_entry (state_after m (set m.sessions i (moved_if over s t (store_next committed t.store x r))) qs) (reply_or r d)
  moves qs committed x r d over h e =
      (λ j. step_without_entry (with_session (state_after m m.sessions qs) (Rattle.tab_model.specs.Outcome.with_transaction (session_of s) (after_move tr x (h j) (e j)))) (reply_or (h j) d)) ∙ by over
    where
      by : (b : Bool) → step_without_entry (with_session (state_after m m.sessions qs) (Rattle.tab_model.specs.Outcome.with_transaction (session_of s) (after_move tr x r b))) (reply_or r d)
          ≡ step_without_entry (state_after m (set m.sessions i (moved_if b s t (store_next committed t.store x r))) qs) (reply_or r d)
      by true = ap (λ ss. let τ : State = record (state_of m) { sessions = ss; queue = map queued_of qs } in step_without_entry τ (reply_or r d)) (sym (keep.seats' m n i k there (ended s) refl))
      by false = ap (λ ss. let τ : State = record (state_of m) { sessions = ss; queue = map queued_of qs } in step_without_entry τ (reply_or r d)) (sym (keep.seats' m n i k there (moved s t (store_next committed t.store x r)) refl))

  -- an operation that was made over the tables as they are
  module _ (o : Operation) (x : Worked) (new : kept.Transaction) (w : Works m.catalog t o x new) where
    pub answered : reply_to (mid_of σ tr) (Do o) ≡ Some x.reply
    answered = ap Some (sym (w.answer t.age k.sound.ordered (keep.fit m n i k there t open_t) (keep.right m n i k there t open_t)))

    pub over_is : ends_transaction (mid_of σ tr) (Do o) ≡ x.over
    over_is =
        (λ j. sym (reply_tells (find (mid_of σ tr).now (table_of o)) o) j && (empty_counts (mid_of σ tr).saved ∙ ap (λ d. d == 0) (keep.depth m n i k there t open_t)) j)
        ∙ ap (λ r. is_failure r && (length t.store.levels.saved == 0)) answered
        ∙ and_swap (is_failure (Some x.reply)) (length t.store.levels.saved == 0) ∙ sym w.over

    -- the session after it
    abbrev pub after_work : Subscriber
    after_work = moved_if x.over s t (store_next (find m.catalog (table_of o)) t.store (Do o) (Some x.reply))

    -- the locks, and who fits
    locks_after : (b : Bool) → SameMembers (locks_held_in (map session_of (set m.sessions i (moved_if b s t (store_next (find m.catalog (table_of o)) t.store (Do o) (Some x.reply)))))) (if b then without t.age (placed (t.age, needs o) m.ages.held) else placed (t.age, needs o) m.ages.held)
    locks_after true p = placed_gone t.age (needs o) m.ages.held p ∙ keep.no_locks m n i k there (ended s) refl t open_t refl p
    locks_after false p = keep.one_more_lock m n i k there (moved s t (store_next (find m.catalog (table_of o)) t.store (Do o) (Some x.reply))) refl (t.age, needs o)
        (locks_next t (find m.catalog (table_of o)) (Do o) (Some x.reply) ∙ ap (λ u. locks_held_by u ++ (t.age, needs o) ∷ []) (ap (option_map transaction_of) (sym open_t))) p

    fits_after : (b : Bool) (u : kept.Transaction) → (moved_if b s t (store_next (find m.catalog (table_of o)) t.store (Do o) (Some x.reply))).transaction ≡ Some u → Fits u.store m.catalog
    fits_after true u h = cc
    fits_after false u h = let same : with_store t (store_next (find m.catalog (table_of o)) t.store (Do o) (Some x.reply)) ≡ u = cc in
        subst (λ (v : kept.Transaction). Fits v.store m.catalog) same (fits_next t.store m.catalog (Do o) (Some x.reply) (keep.fit m n i k there t open_t))

    number_after : (b : Bool) → (moved_if b s t (store_next (find m.catalog (table_of o)) t.store (Do o) (Some x.reply))).number ≡ s.number
    number_after true = refl
    number_after false = refl

    opens_after : (b : Bool) → opens (moved_if b s t (store_next (find m.catalog (table_of o)) t.store (Do o) (Some x.reply))).transaction ≤ opens s.transaction
    opens_after true = omega arith
    opens_after false = ap_le (ap opens open_t)
      where
        ap_le : opens s.transaction ≡ 1 → 1 ≤ opens s.transaction
        ap_le h = omega (arith, h)

    -- all parts agree after it
    pub work_agrees : (m' : Parts) → m'.catalog ≡ m.catalog → m'.sessions ≡ set m.sessions i after_work → m'.limits ≡ m.limits → m'.begun ≡ m.begun → m'.commits ≡ m.commits
        → m'.ages.held ≡ (if x.over then without t.age (placed (t.age, needs o) m.ages.held) else placed (t.age, needs o) m.ages.held)
        → m'.ages.queue ≡ locks_queued_in (map queued_of m'.queue.items) → Agree m'
    work_agrees m' catalog sessions limits begun commits held queue =
        keep.session_agrees m n i k there after_work (number_after x.over) m' catalog sessions limits
        (subst (SameMembers (locks_held_in (map session_of (set m.sessions i after_work)))) (sym held) (locks_after x.over)) queue (fits_after x.over)
        (let a = k.agree.ages in omega (arith, a, begun))
        (let c = keep.counts' m n i k there after_work (number_after x.over) in let d = k.agree.counted in let e = opens_after x.over in omega (arith, c, d, e, begun, commits))
