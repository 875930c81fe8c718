-- The answers of wait-die as sentences.
use Rattle.std.proofs.Common.{◌≡◌, ◌≢◌, ℕ, ◌<◌, List, ◌++◌, Bool, true, false, ◌||◌, not, refl, sym, ap, ◌∙◌, arith, ◌⊎◌, inl, inr}
use Rattle.std.specs.Prelude.{◌==◌, if◌then◌else◌, nat_lt, ◌↔◌}
use Rattle.std.specs.List.{list_any, Any}
use Rattle.std.proofs.lemmas.Bool.{false≢true, and_from, and_parts, not-true}
use Rattle.std.proofs.lemmas.Bool.Decides.{nat_tests}
use Rattle.std.proofs.lemmas.List.Folds.{Any-from_list_any, list_any-from_Any}
use Rattle.tab_model.specs.Locks.{conflict, covers}
use Rattle.tab_model.specs.Ages.{Owned, Ages, opposes, covers_own, blocks, Answer, Granted, Wait, Die, all_of, decide, before, can_retry, Covered, Opposed, OpposedByOlder, OpposedBefore}
use Rattle.tab_model.proofs.SessionLists.{eq_true, itself}

some_of : (p : Owned → Bool) (P : Owned → Type 0) (xs : List Owned) → ((x : Owned) → p x ≡ true → P x) → list_any p xs ≡ true → Any P xs
some_of p P xs f h = let a = Any-from_list_any p xs h in (a.0, a.1, a.2, a.3, f a.1 a.4)

test_of : (p : Owned → Bool) (P : Owned → Type 0) (xs : List Owned) → ((x : Owned) → P x → p x ≡ true) → Any P xs → list_any p xs ≡ true
test_of p P xs f a = list_any-from_Any p xs (a.0, a.1, a.2, a.3, f a.1 a.4)

not_same : (m n : ℕ) → not (m == n) ≡ true → m ≢ n
not_same m n h = grind (arith, nat_tests)

differ : (m n : ℕ) → m ≢ n → not (m == n) ≡ true
differ m n h = grind (arith, nat_tests)

older : (m n : ℕ) → not (m == n) ≡ true → not (nat_lt n m) ≡ true → m < n
older m n h k = grind (arith, nat_tests)

older_test : (m n : ℕ) → m < n → (not (m == n) ≡ true) × (not (nat_lt n m) ≡ true)
older_test m n h = (grind (arith, nat_tests), grind (arith, nat_tests))

-- the tests are the sentences
covered_is : (g : Ages) (r : Owned) → list_any (covers_own r) g.held ≡ true → Covered g r
covered_is g r = some_of (covers_own r) _ g.held (λ x h. let p = and_parts (x.0 == r.0) (covers r.1 x.1) h in (eq_true x.0 r.0 p.0, p.1))

is_covered : (g : Ages) (r : Owned) → Covered g r → list_any (covers_own r) g.held ≡ true
is_covered g r = test_of (covers_own r) _ g.held (λ x h. and_from (x.0 == r.0) (covers r.1 x.1) (ap (λ n. n == r.0) h.0 ∙ itself r.0) h.1)

opposed_is : (r : Owned) (xs : List Owned) → list_any (opposes r) xs ≡ true → Any (λ x. (x.0 ≢ r.0) × (conflict r.1 x.1 ≡ true)) xs
opposed_is r xs = some_of (opposes r) _ xs (λ x h. let p = and_parts (not (x.0 == r.0)) (conflict r.1 x.1) h in (not_same x.0 r.0 p.0, p.1))

is_opposed : (r : Owned) (xs : List Owned) → Any (λ x. (x.0 ≢ r.0) × (conflict r.1 x.1 ≡ true)) xs → list_any (opposes r) xs ≡ true
is_opposed r xs = test_of (opposes r) _ xs (λ x h. and_from (not (x.0 == r.0)) (conflict r.1 x.1) (differ x.0 r.0 h.0) h.1)

blocked_is : (g : Ages) (r : Owned) → list_any (blocks r) (all_of g) ≡ true → OpposedByOlder g r
blocked_is g r = some_of (blocks r) _ (all_of g) (λ x h.
    let p = and_parts (opposes r x) (not (nat_lt r.0 x.0)) h in
    let q = and_parts (not (x.0 == r.0)) (conflict r.1 x.1) p.0 in
    (older x.0 r.0 q.0 p.1, q.1))

is_blocked : (g : Ages) (r : Owned) → OpposedByOlder g r → list_any (blocks r) (all_of g) ≡ true
is_blocked g r = test_of (blocks r) _ (all_of g) (λ x h.
    let p = older_test x.0 r.0 h.0 in
    and_from (opposes r x) (not (nat_lt r.0 x.0)) (and_from (not (x.0 == r.0)) (conflict r.1 x.1) p.0 h.1) p.1)

-- the answer by its three tests
answer_by : Bool → Bool → Bool → Answer
answer_by a o b = if a || not o then Granted else if b then Die else Wait

granted_by : (a o b : Bool) → answer_by a o b ≡ Granted → (a ≡ true) ⊎ (o ≡ false)
unfolding answer_by
granted_by true o b h = inl refl
granted_by false false b h = inr refl
granted_by false true true h = cc
granted_by false true false h = cc

waits_by : (a o b : Bool) → answer_by a o b ≡ Wait → (a ≡ false) × (o ≡ true) × (b ≡ false)
unfolding answer_by
waits_by true o b h = cc
waits_by false false b h = cc
waits_by false true true h = cc
waits_by false true false h = (refl, refl, refl)

dies_by : (a o b : Bool) → answer_by a o b ≡ Die → (a ≡ false) × (b ≡ true)
unfolding answer_by
dies_by true o b h = cc
dies_by false false b h = cc
dies_by false true true h = (refl, refl)
dies_by false true false h = cc

no_of : (P : Type 0) (b : Bool) → (P → b ≡ true) → b ≡ false → P → ⊥
no_of P b f e p = false≢true (sym e ∙ f p)

false_of : (P : Type 0) (b : Bool) → (b ≡ true → P) → (P → ⊥) → b ≡ false
false_of P true f n = absurd (n (f refl))
false_of P false f n = refl

by_tests : (g : Ages) (r : Owned) → decide g r ≡ answer_by (list_any (covers_own r) g.held) (list_any (opposes r) (all_of g)) (list_any (blocks r) (all_of g))
unfolding answer_by
by_tests g r = refl

or_not_left : (a o : Bool) → (a ≡ true) ⊎ (o ≡ false) → (b : Bool) → answer_by a o b ≡ Granted
unfolding answer_by
or_not_left a o (inl e) b = λ i. if e i || not o then Granted else if b then Die else Wait
or_not_left true o (inr e) b = refl
or_not_left false o (inr e) b = λ i. if not (e i) then Granted else if b then Die else Wait

pub granted_where : (g : Ages) (r : Owned) → (decide g r ≡ Granted) ↔ (Covered g r ⊎ (Opposed g r → ⊥))
granted_where g r = (to, from)
  where
    to : decide g r ≡ Granted → Covered g r ⊎ (Opposed g r → ⊥)
    to h = cases (granted_by (list_any (covers_own r) g.held) (list_any (opposes r) (all_of g)) (list_any (blocks r) (all_of g)) (sym (by_tests g r) ∙ h))
      where
        cases : (list_any (covers_own r) g.held ≡ true) ⊎ (list_any (opposes r) (all_of g) ≡ false) → Covered g r ⊎ (Opposed g r → ⊥)
        cases (inl e) = inl (covered_is g r e)
        cases (inr e) = inr (no_of (Opposed g r) (list_any (opposes r) (all_of g)) (is_opposed r (all_of g)) e)

    from : Covered g r ⊎ (Opposed g r → ⊥) → decide g r ≡ Granted
    from (inl c) = by_tests g r ∙ or_not_left (list_any (covers_own r) g.held) (list_any (opposes r) (all_of g)) (inl (is_covered g r c)) (list_any (blocks r) (all_of g))
    from (inr n) = by_tests g r ∙ or_not_left (list_any (covers_own r) g.held) (list_any (opposes r) (all_of g)) (inr (false_of (Opposed g r) (list_any (opposes r) (all_of g)) (opposed_is r (all_of g)) n)) (list_any (blocks r) (all_of g))

waits_of : (a o b : Bool) → a ≡ false → o ≡ true → b ≡ false → answer_by a o b ≡ Wait
unfolding answer_by
waits_of a o b e f h = λ i. if e i || not (f i) then Granted else if h i then Die else Wait

dies_of : (a o b : Bool) → a ≡ false → o ≡ true → b ≡ true → answer_by a o b ≡ Die
unfolding answer_by
dies_of a o b e f h = λ i. if e i || not (f i) then Granted else if h i then Die else Wait

pub waits_where : (g : Ages) (r : Owned) → (decide g r ≡ Wait) ↔ ((Covered g r → ⊥) × Opposed g r × (OpposedByOlder g r → ⊥))
waits_where g r = (
  (λ h. let p = waits_by (list_any (covers_own r) g.held) (list_any (opposes r) (all_of g)) (list_any (blocks r) (all_of g)) (sym (by_tests g r) ∙ h) in
      (no_of (Covered g r) (list_any (covers_own r) g.held) (is_covered g r) p.0, opposed_is r (all_of g) p.1, no_of (OpposedByOlder g r) (list_any (blocks r) (all_of g)) (is_blocked g r) p.2)),
  (λ h. by_tests g r ∙ waits_of (list_any (covers_own r) g.held) (list_any (opposes r) (all_of g)) (list_any (blocks r) (all_of g))
      (false_of (Covered g r) (list_any (covers_own r) g.held) (covered_is g r) h.0) (is_opposed r (all_of g) h.1) (false_of (OpposedByOlder g r) (list_any (blocks r) (all_of g)) (blocked_is g r) h.2)),
)

lt_other : (m n : ℕ) → m < n → m ≢ n
lt_other m n h e = omega (arith, h, e)

older_opposes : (g : Ages) (r : Owned) → OpposedByOlder g r → Opposed g r
older_opposes g r a = (a.0, a.1, a.2, a.3, (lt_other (a.1).0 r.0 (a.4).0, (a.4).1))

pub dies_where : (g : Ages) (r : Owned) → (decide g r ≡ Die) ↔ ((Covered g r → ⊥) × OpposedByOlder g r)
dies_where g r = (
  (λ h. let p = dies_by (list_any (covers_own r) g.held) (list_any (opposes r) (all_of g)) (list_any (blocks r) (all_of g)) (sym (by_tests g r) ∙ h) in
      (no_of (Covered g r) (list_any (covers_own r) g.held) (is_covered g r) p.0, blocked_is g r p.1)),
  (λ h. by_tests g r ∙ dies_of (list_any (covers_own r) g.held) (list_any (opposes r) (all_of g)) (list_any (blocks r) (all_of g))
      (false_of (Covered g r) (list_any (covers_own r) g.held) (covered_is g r) h.0) (is_opposed r (all_of g) (older_opposes g r h.1)) (is_blocked g r h.1)),
)

pub retries_where : (g : Ages) (r : Owned) → (can_retry g r ≡ true) ↔ (OpposedBefore g r → ⊥)
retries_where g r = (
  (λ h. no_of (OpposedBefore g r) (list_any (opposes r) (g.held ++ before r.0 g.queue)) (is_opposed r (g.held ++ before r.0 g.queue)) (not-true (list_any (opposes r) (g.held ++ before r.0 g.queue)) h)),
  (λ n. ap not (false_of (OpposedBefore g r) (list_any (opposes r) (g.held ++ before r.0 g.queue)) (opposed_is r (g.held ++ before r.0 g.queue)) n)),
)
