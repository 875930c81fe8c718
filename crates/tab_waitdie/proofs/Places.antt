-- Where a request stands in the queue, and the queue without it.
use Rattle.std.proofs.Common.{◌≡◌, ℕ, zero, suc, ◌<◌, ◌≤◌, List, [], ◌∷◌, ◌++◌, Bool, true, false, ◌||◌, refl, sym, ap, ◌∙◌, subst, Some, take, length, get_or, arith}
use Rattle.std.proofs.lemmas.Bool.{or_parts}
use Rattle.std.specs.Prelude.{◌==◌, if◌then◌else◌, IsSome, is_some, map}
use Rattle.std.specs.List.{list_any, filter}
use Rattle.tab_model.specs.Ages.{before, request_of}
use Rattle.tab_waitdie.specs.declared.waiting.Waiting.{Waiting}
use Rattle.tab_waitdie.specs.Queue.{owned, queued}

pub before_place : (age : ℕ) (ws : List Waiting) (i : ℕ) (w : Waiting) → i < length ws → list_any (λ v. v.age == age) (take i ws) ≡ false → w ≡ get_or ws i w → (w.age == age) ≡ true → before age (queued ws) ≡ queued (take i ws)
before_place age [] i w lt none is here = absurd (omega arith)
before_place age (x ∷ ws) zero w lt none is here = λ i. if (ap (λ (v : Waiting). v.age == age) (sym is) ∙ here) i then [] else owned x ∷ before age (queued ws)
before_place age (x ∷ ws) (suc i) w lt none is here =
    let p = or_parts (x.age == age) (list_any (λ v. v.age == age) (take i ws)) none in
    (λ j. if p.0 j then [] else owned x ∷ before age (queued ws)) ∙ ap (λ zs. owned x ∷ zs) (before_place age ws i w (omega arith) p.1 is here)

pub request_place : (age : ℕ) (ws : List Waiting) (i : ℕ) (w d : Waiting) → i < length ws → list_any (λ v. v.age == age) (take i ws) ≡ false → w ≡ get_or ws i w → (w.age == age) ≡ true → request_of age (queued ws) ≡ Some (owned (get_or ws i d))
request_place age [] i w d lt none is here = absurd (omega arith)
request_place age (x ∷ ws) zero w d lt none is here = λ i. if (ap (λ (v : Waiting). v.age == age) (sym is) ∙ here) i then Some (owned x) else request_of age (queued ws)
request_place age (x ∷ ws) (suc i) w d lt none is here =
    let p = or_parts (x.age == age) (list_any (λ v. v.age == age) (take i ws)) none in
    (λ j. if p.0 j then Some (owned x) else request_of age (queued ws)) ∙ request_place age ws i w d (omega arith) p.1 is here

-- what a test of what a list is made to keeps, keeps it of the list
pub map_filtered : {X Y : Type 0} (f : X → Y) (p : Y → Bool) (xs : List X) → map f (filter (λ x. p (f x)) xs) ≡ filter p (map f xs)
map_filtered f p [] = refl
map_filtered {X} {Y} f p (x ∷ xs) = by (p (f x)) (map_filtered f p xs)
  where
    by : (b : Bool) → map f (filter (λ x. p (f x)) xs) ≡ filter p (map f xs) → map f (if b then x ∷ filter (λ x. p (f x)) xs else filter (λ x. p (f x)) xs) ≡ (if b then f x ∷ filter p (map f xs) else filter p (map f xs))
    by true ih = ap (λ zs. f x ∷ zs) ih
    by false ih = ih

pub queued_more : (ws : List Waiting) (w : Waiting) → queued (ws ++ w ∷ []) ≡ queued ws ++ owned w ∷ []
queued_more [] w = refl
queued_more (x ∷ ws) w = ap (λ zs. owned x ∷ zs) (queued_more ws w)

pub same_item : (ws : List Waiting) (i : ℕ) (d e : Waiting) → i < length ws → get_or ws i d ≡ get_or ws i e
same_item [] i d e lt = absurd (omega arith)
same_item (x ∷ ws) zero d e lt = refl
same_item (x ∷ ws) (suc i) d e lt = same_item ws i d e (omega arith)

all_taken : (ws : List Waiting) (i : ℕ) → length ws ≤ i → take i ws ≡ ws
all_taken [] zero le = refl
all_taken [] (suc i) le = refl
all_taken (x ∷ ws) zero le = absurd (omega arith)
all_taken (x ∷ ws) (suc i) le = ap (λ vs. x ∷ vs) (all_taken ws i (omega arith))

none_asked : (age : ℕ) (ws : List Waiting) → list_any (λ v. v.age == age) ws ≡ false → IsSome (request_of age (queued ws)) → ⊥
none_asked age [] none some = absurd cc
none_asked age (x ∷ ws) none some =
    let p = or_parts (x.age == age) (list_any (λ v. v.age == age) ws) none in
    let P = λ (b : Bool). IsSome (if b then Some (owned x) else request_of age (queued ws)) in
    none_asked age ws p.1 (subst P p.0 some)

pub none_placed : (age : ℕ) (ws : List Waiting) (i : ℕ) → length ws ≤ i → list_any (λ v. v.age == age) (take i ws) ≡ false → IsSome (request_of age (queued ws)) → ⊥
none_placed age ws i le none some = none_asked age ws (ap (list_any (λ v. v.age == age)) (sym (all_taken ws i le)) ∙ none) some

pub any_asked : (age : ℕ) (ws : List Waiting) → list_any (λ v. v.age == age) ws ≡ is_some (request_of age (queued ws))
any_asked age [] = refl
any_asked age (x ∷ ws) = by (x.age == age) (any_asked age ws)
  where
    by : (b : Bool) → list_any (λ v. v.age == age) ws ≡ is_some (request_of age (queued ws)) → (b || list_any (λ v. v.age == age) ws) ≡ is_some (if b then Some (owned x) else request_of age (queued ws))
    by true ih = refl
    by false ih = ih
