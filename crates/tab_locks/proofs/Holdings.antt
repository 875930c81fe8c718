-- Who reads and who writes one part of a table, as one list.
use Rattle.std.proofs.Common.{◌≡◌, List, [], ◌∷◌, Bool, true, false, ◌||◌, ◌&&◌, not, refl, sym, ap, ◌∙◌, Option, Some, None, length, arith}
use Rattle.std.specs.Prelude.{◌==◌}
use Rattle.std.proofs.Math.Bool.{or-false}
use Rattle.std.specs.List.{list_any, filter, cons_option}
use Rattle.tab_locks.specs.Members.{HasMore, Drops}
use Rattle.tab_locks.specs.Spots.{Holding, is_holding, same_mode}
use Rattle.tab_locks.proofs.Passing.{any_filter, or_swap, or_twice}

pub someone : (held : List Holding) (b : Bool) → b ≡ (length held == 0) → not b ≡ list_any (λ h. true) held
someone [] b e = ap not e
someone (h ∷ rest) b e = let is : b ≡ false = grind (arith, e) in ap not is

same_modes : (v w : Bool) → same_mode v w ≡ true → w ≡ v
same_modes true w e = e
same_modes false true e = absurd cc
same_modes false false e = refl

pub it_is : (h x : Holding) → is_holding h x ≡ true → x ≡ h
it_is h x e = by (x.0 == h.0) refl e
  where
    by : (b : Bool) → (x.0 == h.0) ≡ b → (b && same_mode h.1 x.1) ≡ true → x ≡ h
    by true n m = let age : x.0 ≡ h.0 = grind (arith, n) in λ i. (age i, same_modes h.1 x.1 m i)
    by false n m = absurd cc

-- who holds already
pub again : (h : Holding) (held : List Holding) → list_any (is_holding h) held ≡ true → HasMore h held held
again h [] e = absurd cc
again h (x ∷ rest) e = by (is_holding h x) refl e (again h rest)
  where
    by : (b : Bool) → is_holding h x ≡ b → (b || list_any (is_holding h) rest) ≡ true → (list_any (is_holding h) rest ≡ true → HasMore h rest rest) → HasMore h (x ∷ rest) (x ∷ rest)
    by true is e ih = λ p. or_twice (p x) (list_any p rest) ∙ ap (λ y. p y || (p x || list_any p rest)) (it_is h x is)
    by false is e ih = λ p. (λ i. p x || ih e p i) ∙ or_swap (p x) (p h) (list_any p rest)

pub others : (h : Holding) (held new : List Holding) → new ≡ filter (λ x. not (is_holding h x)) held → Drops (is_holding h) held new
others h held new is = λ p. ap (list_any p) is ∙ any_filter p (λ x. not (is_holding h x)) held

-- the first holder, and the others
any_first : (p : Holding → Bool) (first : Option Holding) (held : List Holding) → list_any p (cons_option first held) ≡ (list_any p (cons_option first []) || list_any p held)
any_first p None held = refl
any_first p (Some h) held = λ i. sym (or-false (p h)) i || list_any p held

pub dropped_both : (h : Holding) (first left : Option Holding) (held new : List Holding) → Drops (is_holding h) (cons_option first []) (cons_option left []) → new ≡ filter (λ x. not (is_holding h x)) held
    → Drops (is_holding h) (cons_option first held) (cons_option left new)
dropped_both h first left held new one is = λ p.
    any_first p left new ∙ (λ i. one p i || others h held new is p i) ∙ sym (any_first (λ x. p x && not (is_holding h x)) first held)
