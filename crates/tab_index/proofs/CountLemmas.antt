-- Counts of what passes a test in a list.
use Rattle.std.proofs.Common.{◌≡◌, ◌<◌, ◌≤◌, ◌+◌, ℕ, List, [], ◌∷◌, ◌++◌, Bool, true, false, not, ◌&&◌, ◌||◌, cond, refl, sym, ap, ap₂, ◌∙◌, arith, map}
use Rattle.std.specs.Prelude.{if◌then◌else◌}
use Rattle.std.specs.List.{count_by, filter, list_any}
use Rattle.std.proofs.lemmas.Bool.{false≢true}
use Rattle.std.proofs.lemmas.List.Sums.{sum_by-cons, sum_by-append}

-- 1 for what passes
abbrev pub bit : Bool → ℕ
bit b = cond b 1 0

module _ {X : Type 0} where
  pub count-cons : (q : X → Bool) (x : X) (xs : List X) → count_by q (x ∷ xs) ≡ bit (q x) + count_by q xs
  count-cons q x xs = sum_by-cons (λ y. cond (q y) 1 0) x xs

  pub count-append : (q : X → Bool) (xs ys : List X) → count_by q (xs ++ ys) ≡ count_by q xs + count_by q ys
  count-append q xs ys = sum_by-append (λ y. cond (q y) 1 0) xs ys

  pub none_counted : (q : X → Bool) (xs : List X) → list_any q xs ≡ false → count_by q xs ≡ 0
  none_counted q [] h = refl
  none_counted q (x ∷ xs) h = count-cons q x xs ∙ cases (none_counted q xs) (q x) h
    where
      cases : (list_any q xs ≡ false → count_by q xs ≡ 0) → (b : Bool) → (b || list_any q xs) ≡ false → bit b + count_by q xs ≡ 0
      cases ih true g = absurd (false≢true (sym g))
      cases ih false g = let e = ih g in omega (arith, e)

  pub some_counted : (q : X → Bool) (xs : List X) → list_any q xs ≡ true → 0 < count_by q xs
  some_counted q [] h = absurd (false≢true h)
  some_counted q (x ∷ xs) h = cases (some_counted q xs) (q x) (count-cons q x xs) h
    where
      cases : (list_any q xs ≡ true → 0 < count_by q xs) → (b : Bool) → count_by q (x ∷ xs) ≡ bit b + count_by q xs → (b || list_any q xs) ≡ true → 0 < count_by q (x ∷ xs)
      cases ih true e g = omega (arith, e)
      cases ih false e g = let l = ih g in omega (arith, e, l)

  pub counted_some : (q : X → Bool) (xs : List X) → 0 < count_by q xs → list_any q xs ≡ true
  counted_some q xs h = cases (list_any q xs) refl
    where
      cases : (b : Bool) → list_any q xs ≡ b → b ≡ true
      cases true e = refl
      cases false e = let n = none_counted q xs e in absurd (omega (arith, n, h))

  pub counted_none : (q : X → Bool) (xs : List X) → count_by q xs ≡ 0 → list_any q xs ≡ false
  counted_none q xs h = cases (list_any q xs) refl
    where
      cases : (b : Bool) → list_any q xs ≡ b → b ≡ false
      cases true e = let n = some_counted q xs e in absurd (omega (arith, n, h))
      cases false e = refl

  pub count_same : (q r : X → Bool) (xs : List X) → ((x : X) → q x ≡ r x) → count_by q xs ≡ count_by r xs
  count_same q r [] h = refl
  count_same q r (x ∷ xs) h = count-cons q x xs ∙ ap₂ (λ b n. bit b + n) (h x) (count_same q r xs h) ∙ sym (count-cons r x xs)

  pub count_of_filter : (q t : X → Bool) (xs : List X) → count_by q (filter t xs) ≤ count_by q xs
  count_of_filter q t [] = omega arith
  count_of_filter q t (x ∷ xs) = cases (count_of_filter q t xs) (t x) (count-cons q x xs) (count-cons q x (filter t xs))
    where
      cases : count_by q (filter t xs) ≤ count_by q xs → (b : Bool) → count_by q (x ∷ xs) ≡ bit (q x) + count_by q xs → count_by q (x ∷ filter t xs) ≡ bit (q x) + count_by q (filter t xs)
          → count_by q (if b then x ∷ filter t xs else filter t xs) ≤ count_by q (x ∷ xs)
      cases ih true e f = omega (arith, ih, e, f)
      cases ih false e f = omega (arith, ih, e)

  pub count-filter : (q t : X → Bool) (xs : List X) → count_by q (filter t xs) ≡ count_by (λ x. q x && t x) xs
  count-filter q t [] = refl
  count-filter q t (x ∷ xs) = cases (t x) (q x) (count-filter q t xs) (count-cons q x (filter t xs)) (count-cons (λ y. q y && t y) x xs)
    where
      cases : (b c : Bool) → count_by q (filter t xs) ≡ count_by (λ y. q y && t y) xs → count_by q (x ∷ filter t xs) ≡ bit c + count_by q (filter t xs)
          → count_by (λ y. q y && t y) (x ∷ xs) ≡ bit (c && b) + count_by (λ y. q y && t y) xs
          → count_by q (if b then x ∷ filter t xs else filter t xs) ≡ count_by (λ y. q y && t y) (x ∷ xs)
      cases true true ih e f = omega (arith, ih, e, f)
      cases true false ih e f = omega (arith, ih, e, f)
      cases false true ih e f = omega (arith, ih, f)
      cases false false ih e f = omega (arith, ih, f)

  -- those that pass one test gone, which agree on the other
  pub count_without : (s q : X → Bool) (b : Bool) (xs : List X) → ((x : X) → s x ≡ true → q x ≡ b) → count_by q (filter (λ x. not (s x)) xs) + (if b then count_by s xs else 0) ≡ count_by q xs
  count_without s q true [] h = refl
  count_without s q false [] h = refl
  count_without s q b (x ∷ xs) h = cases b (count_without s q b xs h) (s x) refl (q x) (h x) (count-cons q x xs) (count-cons q x (filter (λ y. not (s y)) xs)) (count-cons s x xs)
    where
      left : List X
      left = filter (λ y. not (s y)) xs

      cases : (b : Bool) → count_by q left + (if b then count_by s xs else 0) ≡ count_by q xs → (c : Bool) → s x ≡ c → (d : Bool) → (s x ≡ true → d ≡ b)
          → count_by q (x ∷ xs) ≡ bit d + count_by q xs → count_by q (x ∷ left) ≡ bit d + count_by q left → count_by s (x ∷ xs) ≡ bit c + count_by s xs
          → count_by q (if not c then x ∷ left else left) + (if b then count_by s (x ∷ xs) else 0) ≡ count_by q (x ∷ xs)
      cases true ih true g true a e f k = omega (arith, ih, e, k)
      cases true ih true g false a e f k = absurd (false≢true (a g))
      cases false ih true g true a e f k = absurd (false≢true (sym (a g)))
      cases false ih true g false a e f k = omega (arith, ih, e)
      cases true ih false g d a e f k = omega (arith, ih, e, f, k)
      cases false ih false g d a e f k = omega (arith, ih, e, f)

  -- none passes the test by which they would go
  pub none_go : (s : X → Bool) (xs : List X) → list_any s xs ≡ false → filter (λ x. not (s x)) xs ≡ xs
  none_go s [] h = refl
  none_go s (x ∷ xs) h = cases (none_go s xs) (s x) h
    where
      cases : (list_any s xs ≡ false → filter (λ y. not (s y)) xs ≡ xs) → (b : Bool) → (b || list_any s xs) ≡ false → (if not b then x ∷ filter (λ y. not (s y)) xs else filter (λ y. not (s y)) xs) ≡ x ∷ xs
      cases ih true g = absurd (false≢true (sym g))
      cases ih false g = ap (λ ys. x ∷ ys) (ih g)

module _ {X Y : Type 0} where
  pub count-map : (q : Y → Bool) (f : X → Y) (xs : List X) → count_by q (map f xs) ≡ count_by (λ x. q (f x)) xs
  count-map q f [] = refl
  count-map q f (x ∷ xs) = count-cons q (f x) (map f xs) ∙ ap (λ n. bit (q (f x)) + n) (count-map q f xs) ∙ sym (count-cons (λ y. q (f y)) x xs)
