-- Conflicts and cover.
use Rattle.std.proofs.Common.{◌≡◌, ℕ, List, Bool, true, false, ◌||◌, ◌&&◌, not, refl, sym, ap, ◌∙◌}
use Rattle.std.specs.Str.{bytes_eq}
use Rattle.std.proofs.lemmas.Slice.Eq.{bytes_eq-Decides}
use Rattle.std.proofs.lemmas.Bool.{and_from, and_parts}
use Rattle.tab_term.specs.Data.{PlainTerm}
use Rattle.tab_term.specs.Same.{same}
use Rattle.tab_model.specs.Locks.{Part, All, Key, Lock, meets, conflict, contains, covers}
use Rattle.tab_model.proofs.TableLaws.{same_true, same_refl}

both_ways : (p q : Bool) → (p ≡ true → q ≡ true) → (q ≡ true → p ≡ true) → p ≡ q
both_ways true q f g = sym (f refl)
both_ways false true f g = g refl
both_ways false false f g = refl

bytes_true : (a b : List ℕ) → bytes_eq a b ≡ true → a ≡ b
bytes_true a b = (bytes_eq-Decides a b).0

bytes_sym : (a b : List ℕ) → bytes_eq a b ≡ bytes_eq b a
bytes_sym a b = both_ways (bytes_eq a b) (bytes_eq b a) (λ h. (bytes_eq-Decides b a).1 (sym (bytes_true a b h))) (λ h. (bytes_eq-Decides a b).1 (sym (bytes_true b a h)))

same_sym : (a b : PlainTerm) → same a b ≡ same b a
same_sym a b = both_ways (same a b) (same b a) (λ h. ap (same b) (same_true a b h) ∙ same_refl b) (λ h. ap (same a) (same_true b a h) ∙ same_refl a)

or_sym : (a b : Bool) → (a || b) ≡ (b || a)
or_sym true true = refl
or_sym true false = refl
or_sym false true = refl
or_sym false false = refl

meets_sym : (a b : Part) → meets a b ≡ meets b a
meets_sym All All = refl
meets_sym All (Key k) = refl
meets_sym (Key j) All = refl
meets_sym (Key j) (Key k) = same_sym j k

pub conflict-sym : (a b : Lock) → conflict a b ≡ conflict b a
conflict-sym a b = λ i. bytes_sym a.table b.table i && (or_sym a.write b.write i && meets_sym a.part b.part i)

meets_wider : (a l b : Part) → contains a l ≡ true → meets l b ≡ true → meets a b ≡ true
meets_wider All l b e f = refl
meets_wider (Key i) All b e f = cc
meets_wider (Key i) (Key j) All e f = refl
meets_wider (Key i) (Key j) (Key k) e f = ap (λ z. same z k) (same_true i j e) ∙ f

writes_wider : (a l b : Bool) → (a || not l) ≡ true → (l || b) ≡ true → (a || b) ≡ true
writes_wider true l b e f = refl
writes_wider false true b e f = cc
writes_wider false false b e f = f

not_true : (b : Bool) → (b ≡ true → false ≡ true) → b ≡ false
not_true true h = sym (h refl)
not_true false h = refl

-- what conflicts with a lock conflicts with one that covers it
pub served_one : (l a b : Lock) → covers l a ≡ true → conflict a b ≡ false → conflict l b ≡ false
served_one l a b e f = not_true (conflict l b) (λ h.
    let c = and_parts (bytes_eq l.table b.table) ((l.write || b.write) && meets l.part b.part) h in
    let d = and_parts (l.write || b.write) (meets l.part b.part) c.1 in
    let g = and_parts (bytes_eq a.table l.table) ((a.write || not l.write) && contains a.part l.part) e in
    let k = and_parts (a.write || not l.write) (contains a.part l.part) g.1 in
    sym f ∙ and_from (bytes_eq a.table b.table) ((a.write || b.write) && meets a.part b.part) (ap (λ z. bytes_eq z b.table) (bytes_true a.table l.table g.0) ∙ c.0)
    (and_from (a.write || b.write) (meets a.part b.part) (writes_wider a.write l.write b.write k.0 d.0) (meets_wider a.part l.part b.part k.1 d.1)))
