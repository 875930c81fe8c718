-- Whether some member of a list passes a test.
use Rattle.std.proofs.Common.{◌≡◌, List, [], ◌∷◌, ◌++◌, Bool, true, false, ◌||◌, ◌&&◌, not, refl, sym, ap, ◌∙◌}
use Rattle.std.proofs.Math.Bool.{and-true, and-false}
use Rattle.std.specs.Prelude.{map, if◌then◌else◌}
use Rattle.std.specs.List.{list_any, filter, flat_map}
use Rattle.std.proofs.lemmas.List.Folds.{list_any-append}

pub or_swap : (a b c : Bool) → (a || (b || c)) ≡ (b || (a || c))
or_swap true true c = refl
or_swap true false c = refl
or_swap false b c = refl

pub or_twice : (a b : Bool) → (a || b) ≡ (a || (a || b))
or_twice true b = refl
or_twice false b = refl

module _ {X : Type 0} where
  pub any_same : (p q : X → Bool) (xs : List X) → ((x : X) → p x ≡ q x) → list_any p xs ≡ list_any q xs
  any_same p q [] h = refl
  any_same p q (x ∷ xs) h = λ i. h x i || any_same p q xs h i

  pub any_never : (p : X → Bool) (xs : List X) → ((x : X) → p x ≡ false) → list_any p xs ≡ false
  any_never p [] h = refl
  any_never p (x ∷ xs) h = λ i. h x i || any_never p xs h i

  pub any_and : (b : Bool) (p : X → Bool) (xs : List X) → list_any (λ x. b && p x) xs ≡ (b && list_any p xs)
  any_and true p xs = refl
  any_and false p xs = any_never (λ x. false && p x) xs (λ x. refl)

  -- one more at the end
  pub any_more : (p : X → Bool) (xs : List X) (x : X) → list_any p (xs ++ x ∷ []) ≡ (p x || list_any p xs)
  any_more p [] x = refl
  any_more p (y ∷ xs) x = (λ i. p y || any_more p xs x i) ∙ or_swap (p y) (p x) (list_any p xs)

  -- those that another test keeps
  pub any_filter : (p q : X → Bool) (xs : List X) → list_any p (filter q xs) ≡ list_any (λ x. p x && q x) xs
  any_filter p q [] = refl
  any_filter p q (x ∷ xs) = by (q x) (any_filter p q xs)
    where
      by : (b : Bool) → list_any p (filter q xs) ≡ list_any (λ x. p x && q x) xs → list_any p (if b then x ∷ filter q xs else filter q xs) ≡ ((p x && b) || list_any (λ x. p x && q x) xs)
      by true ih = λ i. sym (and-true (p x)) i || ih i
      by false ih = λ i. sym (and-false (p x)) i || ih i

  -- a test that another implies
  pub any_below : (p q : X → Bool) (xs : List X) → ((x : X) → q x ≡ false → p x ≡ false) → list_any q xs ≡ false → list_any p xs ≡ false
  any_below p q [] f h = refl
  any_below p q (x ∷ xs) f h = by (q x) refl h (any_below p q xs f)
    where
      by : (b : Bool) → q x ≡ b → (b || list_any q xs) ≡ false → (list_any q xs ≡ false → list_any p xs ≡ false) → (p x || list_any p xs) ≡ false
      by true e h ih = absurd cc
      by false e h ih = λ i. f x e i || ih h i

  -- where none goes, all stay
  pub any_but : (p gone : X → Bool) (xs : List X) → list_any gone xs ≡ false → list_any (λ x. p x && not (gone x)) xs ≡ list_any p xs
  any_but p gone [] h = refl
  any_but p gone (x ∷ xs) h = by (gone x) refl h (any_but p gone xs)
    where
      by : (b : Bool) → gone x ≡ b → (b || list_any gone xs) ≡ false → (list_any gone xs ≡ false → list_any (λ x. p x && not (gone x)) xs ≡ list_any p xs) → ((p x && not (gone x)) || list_any (λ x. p x && not (gone x)) xs) ≡ (p x || list_any p xs)
      by true t n ih = absurd cc
      by false t n ih = λ i. (ap (λ b. p x && not b) t ∙ and-true (p x)) i || ih n i

  -- what has no member
  pub none_there : (xs : List X) (b : Bool) → not b ≡ true → b ≡ list_any (λ x. true) xs → [] ≡ xs
  none_there [] b h e = refl
  none_there (x ∷ xs) b h e = absurd cc

module _ {X Y : Type 0} where
  pub any_map : (p : Y → Bool) (f : X → Y) (xs : List X) → list_any p (map f xs) ≡ list_any (λ x. p (f x)) xs
  any_map p f [] = refl
  any_map p f (x ∷ xs) = λ i. p (f x) || any_map p f xs i

  pub any_flat_map : (p : Y → Bool) (f : X → List Y) (xs : List X) → list_any p (flat_map f xs) ≡ list_any (λ x. list_any p (f x)) xs
  any_flat_map p f [] = refl
  any_flat_map p f (x ∷ xs) = list_any-append p (f x) (flat_map f xs) ∙ (λ i. list_any p (f x) || any_flat_map p f xs i)
