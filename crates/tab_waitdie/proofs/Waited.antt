-- Whether a request waits for one other owner: by that owner's locks, and by the requests before it.
use Rattle.std.proofs.Common.{◌≡◌, ℕ, List, [], ◌∷◌, ◌++◌, Bool, true, false, ◌||◌, ◌&&◌, not, refl, sym, ap, ◌∙◌, subst, Option, take, get_or}
use Rattle.std.specs.Prelude.{◌==◌, filter, if◌then◌else◌, MatchOption}
use Rattle.std.specs.List.{list_any}
use Rattle.std.proofs.lemmas.List.Folds.{list_any-append}
use Rattle.std.proofs.Math.Bool.{and-false, and-true}
use Rattle.tab_model.specs.declared.data.Lock as code
use Rattle.tab_model.specs.Locks.{conflict}
use Rattle.tab_model.specs.Ages.{Owned, before, opposes, request_of}
use Rattle.tab_locks.specs.Placed.{owned_by}
use Rattle.tab_locks.specs.Plain.{lock_of}
use Rattle.tab_locks.proofs.Passing.{any_map}
use Rattle.tab_waitdie.specs.declared.waiting.Waiting.{Waiting}
use Rattle.tab_waitdie.specs.Queue.{owned, queued}
use Rattle.tab_waitdie.proofs.Retrying.{IsPlace, some_item}

-- whether one of these of this owner opposes a request
abbrev pub any_of : Owned → ℕ → List Owned → Bool
any_of r o xs = list_any (λ (x : Owned). opposes r x && (x.0 == o)) xs

of_owner : (r : Owned) (o : ℕ) (xs : List Owned) → any_of r o xs ≡ list_any (opposes r) (filter (λ (x : Owned). x.0 == o) xs)
of_owner r o [] = refl
of_owner r o (x ∷ xs) = by (x.0 == o) (of_owner r o xs)
  where
    by : (b : Bool) → any_of r o xs ≡ list_any (opposes r) (filter (λ (y : Owned). y.0 == o) xs)
        → ((opposes r x && b) || any_of r o xs) ≡ list_any (opposes r) (if b then x ∷ filter (λ (y : Owned). y.0 == o) xs else filter (λ (y : Owned). y.0 == o) xs)
    by true ih = λ i. and-true (opposes r x) i || ih i
    by false ih = λ i. and-false (opposes r x) i || ih i

own_opposed : (r : Owned) (o : ℕ) (ls : List code.Lock) → list_any (opposes r) (owned_by o ls) ≡ (not (o == r.0) && list_any (λ (l : code.Lock). conflict r.1 (lock_of l)) ls)
own_opposed r o [] = sym (and-false (not (o == r.0)))
own_opposed r o (l ∷ ls) = (λ i. opposes r (o, lock_of l) || own_opposed r o ls i) ∙ one (not (o == r.0)) (conflict r.1 (lock_of l)) (list_any (λ (k : code.Lock). conflict r.1 (lock_of k)) ls)
  where
    one : (n c d : Bool) → ((n && c) || (n && d)) ≡ (n && (c || d))
    one true c d = refl
    one false c d = refl

pub waits_by : (r : Owned) (o : ℕ) (held : List Owned) (ls : List code.Lock) (ws : List Waiting) → owned_by o ls ≡ filter (λ (x : Owned). x.0 == o) held
    → any_of r o (held ++ queued ws) ≡ ((not (o == r.0) && list_any (λ (l : code.Lock). conflict r.1 (lock_of l)) ls) || list_any (λ (w : Waiting). opposes r (owned w) && (w.age == o)) ws)
waits_by r o held ls ws is =
    list_any-append (λ (x : Owned). opposes r x && (x.0 == o)) held (queued ws)
    ∙ (λ i. (of_owner r o held ∙ ap (list_any (opposes r)) (sym is) ∙ own_opposed r o ls) i || any_map (λ (x : Owned). opposes r x && (x.0 == o)) owned ws i)

-- b is what is found at this place of the queue, with these locks of the other owner
abbrev pub IsTold : Bool → ℕ → ℕ → List code.Lock → List Waiting → Type 0
IsTold b at o ls ws = (d : Waiting) → b ≡ ((not (o == (get_or ws at d).age) && list_any (λ (l : code.Lock). conflict (lock_of (get_or ws at d).lock) (lock_of l)) ls)
    || list_any (λ (w : Waiting). opposes (owned (get_or ws at d)) (owned w) && (w.age == o)) (take at ws))

pub waits_in : (age at o : ℕ) (held : List Owned) (ws : List Waiting) (ls : List code.Lock) (b : Bool) → IsPlace age at ws → owned_by o ls ≡ filter (λ (x : Owned). x.0 == o) held → IsTold b at o ls ws
    → MatchOption (request_of age (queued ws)) (b ≡ false) (λ r. b ≡ any_of r o (held ++ before age (queued ws)))
waits_in age at o held ws ls b place is told =
    let d = some_item ws at place.within in
    let w = get_or ws at d in
    let P : Option Owned → Type 0 = λ q. MatchOption q (b ≡ false) (λ r. b ≡ any_of r o (held ++ before age (queued ws))) in
    subst P (sym (place.request d))
    (told d ∙ sym (waits_by (owned w) o held ls (take at ws) is) ∙ ap (λ earlier. any_of (owned w) o (held ++ earlier)) (sym place.earlier))
