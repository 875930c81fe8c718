-- Where a session stands.
use Rattle.std.proofs.Common.{◌≡◌, ℕ, zero, suc, ◌<◌, ◌≤◌, List, [], ◌∷◌, ◌++◌, Bool, true, false, not, refl, sym, ap, ◌∙◌, Some, None, take, length, get_or, set, arith, eqb-true, subst}
use Rattle.std.proofs.lemmas.Bool.{or_parts}
use Rattle.std.proofs.lemmas.Bool.Decides.{nat_tests}
use Rattle.tab_model.proofs.SessionLists.{eq_true, other_number}
use Rattle.std.proofs.Math.Seq.{map-set_same}
use Rattle.std.specs.Prelude.{◌==◌, if◌then◌else◌, Option, IfSome, nat_le}
use Rattle.tab_model.specs.declared.data.Item.{Item}
use Rattle.tab_model.specs.State.{Watch}
use Rattle.tab_subs.specs.declared.answers.Marked.{Marked}
use Rattle.tab_subs.specs.declared.answers.Marked.TheVariants as mark
use Rattle.std.specs.List.{list_any}
use Rattle.tab_subs.specs.Subscribers.{Subscriber, at, change, without, give, marked, is_full, Marks, numbers, Ascends, AllAbove, AllBelow, IsHeldAt}
use Rattle.tab_model.specs.Outcome.{items_to_take}
use Rattle.tab_subs.specs.Subscribers as subs

session_there : {T : Type 0} (n : ℕ) (ss : List (Subscriber T)) (i : ℕ) (s d : Subscriber T) → i < length ss → list_any (λ x. x.number == n) (take i ss) ≡ false → s ≡ get_or ss i s → (s.number == n) ≡ true → at ss n ≡ Some (get_or ss i d)
session_there n [] i s d lt none is here = absurd (omega arith)
session_there n (x ∷ ss) zero s d lt none is here = λ j. if (ap (λ (v : Subscriber _). v.number == n) (sym is) ∙ here) j then Some x else at ss n
session_there n (x ∷ ss) (suc i) s d lt none is here =
    let p = or_parts (x.number == n) (list_any (λ v. v.number == n) (take i ss)) none in
    (λ j. if p.0 j then Some x else at ss n) ∙ session_there n ss i s d (omega arith) p.1 is here

number_there : {T : Type 0} (n : ℕ) (ss : List (Subscriber T)) (i : ℕ) (s d : Subscriber T) → i < length ss → s ≡ get_or ss i s → (s.number == n) ≡ true → (get_or ss i d).number ≡ n
number_there n [] i s d lt is here = absurd (omega arith)
number_there n (x ∷ ss) zero s d lt is here = ap (λ (v : Subscriber _). v.number) (sym is) ∙ eqb-true s.number n here
number_there n (x ∷ ss) (suc i) s d lt is here = number_there n ss i s d (omega arith) is here

changed_there : {T : Type 0} (n : ℕ) (ss : List (Subscriber T)) (i : ℕ) (s y : Subscriber T) → i < length ss → list_any (λ x. x.number == n) (take i ss) ≡ false → s ≡ get_or ss i s → (s.number == n) ≡ true → y.number ≡ n → change ss y ≡ set ss i y
changed_there n [] i s y lt none is here e = absurd (omega arith)
changed_there n (x ∷ ss) zero s y lt none is here e =
    (λ j. if (ap (λ m. x.number == m) e ∙ ap (λ (v : Subscriber _). v.number == n) (sym is) ∙ here) j then y ∷ ss else x ∷ change ss y)
changed_there n (x ∷ ss) (suc i) s y lt none is here e =
    let p = or_parts (x.number == n) (list_any (λ v. v.number == n) (take i ss)) none in
    (λ j. if (ap (λ m. x.number == m) e ∙ p.0) j then y ∷ ss else x ∷ change ss y) ∙ ap (λ zs. x ∷ zs) (changed_there n ss i s y (omega arith) p.1 is here e)

replaced_there : {T : Type 0} (n : ℕ) (ss : List (Subscriber T)) (i : ℕ) (s y : Subscriber T) → i < length ss → list_any (λ x. x.number == n) (take i ss) ≡ false → s ≡ get_or ss i s → (s.number == n) ≡ true → y.number ≡ n
    → (m : ℕ) → at (set ss i y) m ≡ (if m == n then Some y else at ss m)
replaced_there n [] i s y lt none is here e m = absurd (omega arith)
replaced_there n (x ∷ ss) zero s y lt none is here e m = by (m == n) refl
  where
    x_is : x.number ≡ n
    x_is = eqb-true x.number n (ap (λ (v : Subscriber _). v.number == n) (sym is) ∙ here)

    flip : (a b : ℕ) (c : Bool) → (b == a) ≡ c → (a == b) ≡ c
    flip a b c h = grind (arith, nat_tests)

    by : (c : Bool) → (m == n) ≡ c → (if y.number == m then Some y else at ss m) ≡ (if c then Some y else (if x.number == m then Some x else at ss m))
    by true h = ap (λ b. if b then Some y else at ss m) (ap (λ k. k == m) e ∙ flip n m true h)
    by false h = ap (λ b. if b then Some y else at ss m) (ap (λ k. k == m) e ∙ flip n m false h) ∙ sym (ap (λ b. if b then Some x else at ss m) (ap (λ k. k == m) x_is ∙ flip n m false h))
replaced_there n (x ∷ ss) (suc i) s y lt none is here e m =
    let p = or_parts (x.number == n) (list_any (λ v. v.number == n) (take i ss)) none in
    by (x.number == m) (m == n) refl refl p.0 (replaced_there n ss i s y (omega arith) p.1 is here e m)
  where
    by : (b c : Bool) → (x.number == m) ≡ b → (m == n) ≡ c → (x.number == n) ≡ false → at (set ss i y) m ≡ (if c then Some y else at ss m)
        → (if b then Some x else at (set ss i y) m) ≡ (if c then Some y else (if b then Some x else at ss m))
    by true true f g none ih = absurd (other_number x.number n none (eq_true x.number m f ∙ eq_true m n g))
    by true false f g none ih = refl
    by false true f g none ih = ih
    by false false f g none ih = ih

pub stands : {T : Type 0} (n : ℕ) (ss : List (Subscriber T)) (i : ℕ) (s : Subscriber T) → i < length ss → list_any (λ x. x.number == n) (take i ss) ≡ false → s ≡ get_or ss i s → (s.number == n) ≡ true → IsHeldAt ss n i
stands n ss i s lt none is here = record {
  within = lt;
  slot = λ d. session_there n ss i s d lt none is here;
  number = λ d. number_there n ss i s d lt is here;
  changed = λ y e. changed_there n ss i s y lt none is here e;
  replaced = λ y e m. replaced_there n ss i s y lt none is here e m;
}

pub nowhere : {T : Type 0} (n : ℕ) (ss : List (Subscriber T)) (i : ℕ) → length ss ≤ i → list_any (λ x. x.number == n) (take i ss) ≡ false → at ss n ≡ None
nowhere n [] i le none = refl
nowhere n (x ∷ ss) zero le none = absurd (omega arith)
nowhere n (x ∷ ss) (suc i) le none =
    let p = or_parts (x.number == n) (list_any (λ v. v.number == n) (take i ss)) none in
    (λ j. if p.0 j then Some x else at ss n) ∙ nowhere n ss i (omega arith) p.1

-- ---- ascending numbers

all_above_more : {T : Type 0} (n m : ℕ) (ss : List (Subscriber T)) (s : Subscriber T) → AllAbove n (numbers ss) → n < s.number → AllAbove n (numbers (ss ++ s ∷ []))
all_above_more n m [] s h lt = (lt, tt)
all_above_more n m (x ∷ ss) s h lt = (h.0, all_above_more n m ss s h.1 lt)

pub ascends_more : {T : Type 0} (ss : List (Subscriber T)) (s : Subscriber T) → Ascends (numbers ss) → AllBelow s.number (numbers ss) → Ascends (numbers (ss ++ s ∷ []))
ascends_more [] s h below = (tt, tt)
ascends_more (x ∷ ss) s h below = (all_above_more x.number 0 ss s h.0 below.0, ascends_more ss s h.1 below.1)

above_if : {T : Type 0} (b : Bool) (n : ℕ) (x : Subscriber T) (rest : List (Subscriber T)) → n < x.number → AllAbove n (numbers rest) → AllAbove n (numbers (if b then x ∷ rest else rest))
above_if true n x rest lt h = (lt, h)
above_if false n x rest lt h = h

above_without : {T : Type 0} (n m : ℕ) (ss : List (Subscriber T)) → AllAbove n (numbers ss) → AllAbove n (numbers (without ss m))
above_without n m [] h = tt
above_without n m (x ∷ ss) h = above_if (not (x.number == m)) n x (without ss m) h.0 (above_without n m ss h.1)

ascends_if : {T : Type 0} (b : Bool) (x : Subscriber T) (rest : List (Subscriber T)) → AllAbove x.number (numbers rest) → Ascends (numbers rest) → Ascends (numbers (if b then x ∷ rest else rest))
ascends_if true x rest above h = (above, h)
ascends_if false x rest above h = h

pub ascends_without : {T : Type 0} (m : ℕ) (ss : List (Subscriber T)) → Ascends (numbers ss) → Ascends (numbers (without ss m))
ascends_without m [] h = tt
ascends_without m (x ∷ ss) h = ascends_if (not (x.number == m)) x (without ss m) (above_without x.number m ss h.0) (ascends_without m ss h.1)

pub ascends_set : {T : Type 0} (ss : List (Subscriber T)) (i : ℕ) (s y : Subscriber T) → s ≡ get_or ss i s → y.number ≡ s.number → Ascends (numbers ss) → Ascends (numbers (set ss i y))
ascends_set ss i s y is same h =
    subst Ascends (sym (map-set_same (λ (v : Subscriber _). v.number) ss i y s (same ∙ ap (λ (v : Subscriber _). v.number) is))) h

pub number-marked : {T : Type 0} (m : Marked) (ws : List Watch) (x : Item) (s : Subscriber T) → (marked m ws x s).number ≡ s.number
number-marked mark.Put ws x s = refl
number-marked mark.Full ws x s = refl

-- a marker at a session's place
pub marks_there : {T : Type 0} (ss : List (Subscriber T)) (n i : ℕ) (s y : Subscriber T) (ws : Subscriber T → List Watch) (x : Item) (m : Marked) → IsHeldAt ss n i → s ≡ get_or ss i s → y ≡ marked m (ws s) x s
    → IfSome s.outbox.capacity (λ c. is_full m ≡ nat_le c (length s.outbox.items)) → Marks ss (at ss n) ws x (Some m) (set ss i y)
marks_there ss n i s y ws x m there is new decided =
    subst (λ o. Marks ss o ws x (Some m) (set ss i y)) (sym (there.slot s ∙ ap Some (sym is)))
    (sym (there.changed y number) ∙ ap (change ss) new, decided)
  where
    number : y.number ≡ n
    number = ap (λ (v : Subscriber _). v.number) new ∙ number-marked m (ws s) x s ∙ ap (λ (v : Subscriber _). v.number) is ∙ there.number s

pub number-give : {T : Type 0} (s : Subscriber T) → (subs.take s).0.number ≡ s.number
number-give s = by (items_to_take s.outbox s.outbox.capacity) s.overflow
  where
    by : (xs : List _) (l : Option ℕ) → (give s xs l).0.number ≡ s.number
    by [] None = refl
    by [] (Some n) = refl
    by (x ∷ xs) l = refl

-- a session's transaction has no part in its number
pub same_numbers : {T : Type 0} (ss : List (Subscriber T)) (i : ℕ) (s d : Subscriber T) → s.number ≡ (get_or ss i d).number → numbers (set ss i s) ≡ numbers ss
same_numbers [] i s d h = refl
same_numbers (x ∷ ss) zero s d h = ap (λ n. n ∷ numbers ss) h
same_numbers (x ∷ ss) (suc i) s d h = ap (λ ns. x.number ∷ ns) (same_numbers ss i s d h)
