-- Ages rise along every wait after each call. Where a lock stands in the held list doesn't matter.
use Rattle.std.proofs.Common.{◌≡◌, ℕ, ◌<◌, List, [], ◌∷◌, ◌++◌, Bool, true, false, ◌||◌, ◌&&◌, not, refl, sym, ap, ◌∙◌, subst, Some, arith}
use Rattle.std.specs.Prelude.{◌==◌, if◌then◌else◌}
use Rattle.std.specs.List.{list_any}
use Rattle.std.proofs.lemmas.Bool.Decides.{nat_tests}
use Rattle.std.proofs.lemmas.Bool.{not-true, or_parts}
use Rattle.std.proofs.lemmas.List.Folds.{list_any-append}
use Rattle.tab_model.proofs.LocksLemmas.{conflict-sym}
use Rattle.tab_model.specs.Ages as plain
use Rattle.tab_model.specs.Ages.{Owned, Ages, opposes, blocks, before, decide, request_of, without, after_request, can_retry, after_retry, RisesAfter, Rises, Chain, last_of}
use Rattle.tab_model.proofs.WaitsHaveNoCycle.{request_rises, fewer_rises, chain_rises}
use Rattle.tab_locks.specs.Members.{SameMembers}
use Rattle.tab_locks.specs.Placed.{placed, without_last}
use Rattle.tab_locks.proofs.Passing.{any_more}
use Rattle.tab_locks.proofs.Listing.{any_placed}
use Rattle.tab_waitdie.specs.declared.ages.LockDecision.{LockDecision}
use Rattle.tab_waitdie.specs.declared.ages.LockDecision.TheVariants.{Granted, Wait, Die}
use Rattle.tab_waitdie.specs.Decisions.{ages, answer_of, after_answer}

same_rises : (held new earlier queue : List Owned) → SameMembers held new → RisesAfter held earlier queue → RisesAfter new earlier queue
same_rises held new earlier [] s h = tt
same_rises held new earlier (x ∷ queue) s h = (s (blocks x) ∙ h.0, h.1, same_rises held new (earlier ++ x ∷ []) queue s h.2)

placed_or_last : (x : Owned) (held : List Owned) → SameMembers (held ++ x ∷ []) (placed x held)
placed_or_last x held = λ p. any_placed p x held ∙ sym (any_more p held x)

pub answered_rises : (g : Ages) (r : Owned) (a : LockDecision) → answer_of a ≡ decide g r → Rises g → Rises (after_answer g r a)
answered_rises g r Granted e h =
    let P : plain.Answer → Type 0 = λ z. Rises (after_request g r z) in
    same_rises (g.held ++ r ∷ []) (placed r g.held) [] g.queue (placed_or_last r g.held) (subst P (sym e) (request_rises g r h))
answered_rises g r Wait e h = let P : plain.Answer → Type 0 = λ z. Rises (after_request g r z) in subst P (sym e) (request_rises g r h)
answered_rises g r Die e h = h

pub found_age : (a : ℕ) (queue : List Owned) (r : Owned) → request_of a queue ≡ Some r → r.0 ≡ a
found_age a [] r e = cc
found_age a (x ∷ queue) r e = grind (arith, nat_tests, found_age a queue r)

-- who stands behind a request doesn't block it
behind : (r : Owned) (held earlier queue : List Owned) → RisesAfter held earlier queue → ((y : Owned) → list_any (blocks y) earlier ≡ false → blocks y r ≡ false) → list_any (λ y. blocks y r) queue ≡ false
behind r held earlier [] h among = refl
behind r held earlier (x ∷ queue) h among =
    λ i. among x h.1 i || behind r held (earlier ++ x ∷ []) queue h.2 (λ y q. among y (or_parts (list_any (blocks y) earlier) (list_any (blocks y) (x ∷ [])) (sym (list_any-append (blocks y) earlier (x ∷ [])) ∙ q)).0) i

unopposed : (r x : Owned) → opposes r x ≡ false → blocks x r ≡ false
unopposed r x h = grind (arith, nat_tests, conflict-sym r.1 x.1)

own_unblocked : (r : Owned) → blocks r r ≡ false
own_unblocked r = grind (arith, nat_tests)

-- a request that no one before it opposes blocks no one in the queue
unblocked : (r : Owned) (held earlier queue : List Owned) → RisesAfter held earlier queue → list_any (opposes r) (before r.0 queue) ≡ false → request_of r.0 queue ≡ Some r → list_any (λ x. blocks x r) queue ≡ false
unblocked r held earlier [] h n e = cc
unblocked r held earlier (x ∷ queue) h n e = by (x.0 == r.0) n e
    (λ same. behind r held (earlier ++ x ∷ []) queue h.2 (λ y q. ap (blocks y) (sym same) ∙ first (blocks y x) (or_parts (list_any (blocks y) earlier) (list_any (blocks y) (x ∷ [])) (sym (list_any-append (blocks y) earlier (x ∷ [])) ∙ q)).1))
    (unblocked r held (earlier ++ x ∷ []) queue h.2)
  where
    first : (b : Bool) → (b || false) ≡ false → b ≡ false
    first true p = cc
    first false p = refl

    by : (b : Bool) → list_any (opposes r) (if b then [] else x ∷ before r.0 queue) ≡ false → (if b then Some x else request_of r.0 queue) ≡ Some r
        → (x ≡ r → list_any (λ y. blocks y r) queue ≡ false)
        → (list_any (opposes r) (before r.0 queue) ≡ false → request_of r.0 queue ≡ Some r → list_any (λ y. blocks y r) queue ≡ false)
        → list_any (λ y. blocks y r) (x ∷ queue) ≡ false
    by true m f here ih = let same : x ≡ r = cc in λ i. (ap (λ z. blocks z r) same ∙ own_unblocked r) i || here same i
    by false m f here ih = let s = or_parts (opposes r x) (list_any (opposes r) (before r.0 queue)) m in λ i. unopposed r x s.0 i || ih s.1 f i

-- a lock more that blocks no request
held_rises : (r : Owned) (held earlier queue : List Owned) → RisesAfter held earlier queue → list_any (λ x. blocks x r) queue ≡ false → RisesAfter (placed r held) earlier queue
held_rises r held earlier [] h n = tt
held_rises r held earlier (x ∷ queue) h n =
    let p = or_parts (blocks x r) (list_any (λ y. blocks y r) queue) n in
    (any_placed (blocks x) r held ∙ (λ i. p.0 i || h.0 i), h.1, held_rises r held (earlier ++ x ∷ []) queue h.2 p.1)

pub granted_rises : (g : Ages) (a : ℕ) (r : Owned) → request_of a g.queue ≡ Some r → can_retry g r ≡ true → Rises g → Rises (ages (placed r g.held) g.queue)
granted_rises g a r is free h =
    let own : request_of r.0 g.queue ≡ Some r = ap (λ n. request_of n g.queue) (found_age a g.queue r is) ∙ is in
    let n = (or_parts (list_any (opposes r) g.held) (list_any (opposes r) (before r.0 g.queue)) (sym (list_any-append (opposes r) g.held (before r.0 g.queue)) ∙ not-true _ free)).1 in
    held_rises r g.held [] g.queue h (unblocked r g.held [] g.queue h n own)

-- with fewer held locks
fewer_held : (p : Owned → Bool) (age : ℕ) (xs : List Owned) → list_any p xs ≡ false → list_any p (without_last age xs) ≡ false
fewer_held p age [] h = refl
fewer_held p age (x ∷ xs) h = by (p x) (list_any p xs) h (fewer_held p age xs) ((x.0 == age) && not (list_any (λ y. y.0 == age) xs)) refl refl
  where
    by : (a b : Bool) → (a || b) ≡ false → (list_any p xs ≡ false → list_any p (without_last age xs) ≡ false) → (c : Bool) → p x ≡ a → list_any p xs ≡ b
        → list_any p (if c then xs else x ∷ without_last age xs) ≡ false
    by true b h ih c e f = absurd cc
    by false b h ih true e f = f ∙ h
    by false b h ih false e f = λ i. e i || ih (f ∙ h) i

less_rises : (age : ℕ) (held earlier queue : List Owned) → RisesAfter held earlier queue → RisesAfter (without_last age held) earlier queue
less_rises age held earlier [] h = tt
less_rises age held earlier (x ∷ queue) h = (fewer_held (blocks x) age held h.0, h.1, less_rises age held (earlier ++ x ∷ []) queue h.2)

pub unheld_rises : (g : Ages) (age : ℕ) → Rises g → Rises (ages (without_last age g.held) g.queue)
unheld_rises g age h = less_rises age g.held [] g.queue h

pub dropped_rises : (g : Ages) (a : ℕ) → Rises g → Rises (ages g.held (without a g.queue))
dropped_rises g a h = fewer_rises a g.held g.held [] [] g.queue h (λ x p q. (p, refl))

pub chain_up : (g : Ages) (a b : ℕ) (bs : List ℕ) → Rises g → Chain g a (b ∷ bs) → a < last_of b bs
chain_up g a b bs h c = chain_rises g a b bs h c
