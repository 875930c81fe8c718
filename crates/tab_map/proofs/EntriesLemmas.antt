-- Entries d as those of a node: some entries, an entry, and the rest.
use Rattle.std.proofs.Common.{◌≡◌, List, ◌∷◌, ◌++◌, refl, sym, ap, ◌∙◌, subst, Some, Result, IfOk, OnOk}
use Rattle.std.proofs.lemmas.Result.{on_ok_weaker}
use Rattle.std.specs.declared.cmp.Ordering.{Ordering}
use Rattle.std.specs.declared.cmp.Ordering.TheVariants.{Less, Equal, Greater}
use Rattle.std.specs.Cmp.{IsTotalOrder}
use Rattle.tab_map.specs.Entries.{lookup, insert_entry, remove_entry, entries_above, Ascends}
use Rattle.tab_map.proofs.AscendsLemmas.{lookup_left, lookup_later, above_left, above_later, insert_left, insert_later, ascends_insert, remove_left, remove_later, ascends_remove}

pub record IsNode {K V : Type 0} (cmp : K → K → Ordering) (d l : List (K × V)) (e : K × V) (r : List (K × V)) : Type 0 where
  pub is : d ≡ l ++ e ∷ r
  pub sorted : Ascends cmp (l ++ e ∷ r)

module _ {K V : Type 0} {cmp : K → K → Ordering} where
  pub is_at : (l : List (K × V)) (e : K × V) (r : List (K × V)) → Ascends cmp (l ++ e ∷ r) → IsNode cmp (l ++ e ∷ r) l e r
  is_at l e r s = record { is = refl; sorted = s }

  pub lookup_less : {d l r : List (K × V)} {e : K × V} (k : K) → IsNode cmp d l e r → cmp k e.0 ≡ Less → lookup cmp k d ≡ lookup cmp k l
  lookup_less {d} {l} {r} {e} k f p = rw f.is (lookup_left cmp k e l r p)

  pub above_less : {d l r : List (K × V)} {e : K × V} (k : K) → IsNode cmp d l e r → cmp k e.0 ≡ Less → entries_above cmp k d ≡ entries_above cmp k l ++ e ∷ r
  above_less {d} {l} {r} {e} k f p = rw f.is (above_left cmp k e l r p)

module _ {K V : Type 0} {cmp : K → K → Ordering} (o : IsTotalOrder cmp) where
  pub lookup_equal : {d l r : List (K × V)} {e : K × V} (k : K) → IsNode cmp d l e r → cmp k e.0 ≡ Equal → lookup cmp k d ≡ Some e.1
  lookup_equal {d} {l} {r} {e} k f p = rw f.is (rw (lookup_later o k e l r f.sorted (λ h. cc)) (rw p))

  pub lookup_greater : {d l r : List (K × V)} {e : K × V} (k : K) → IsNode cmp d l e r → cmp k e.0 ≡ Greater → lookup cmp k d ≡ lookup cmp k r
  lookup_greater {d} {l} {r} {e} k f p = rw f.is (rw (lookup_later o k e l r f.sorted (λ h. cc)) (rw p))

  pub above_equal : {d l r : List (K × V)} {e : K × V} (k : K) → IsNode cmp d l e r → cmp k e.0 ≡ Equal → entries_above cmp k d ≡ r
  above_equal {d} {l} {r} {e} k f p = rw f.is (rw (above_later o k e l r f.sorted (λ h. cc)) (rw p))

  pub above_greater : {d l r : List (K × V)} {e : K × V} (k : K) → IsNode cmp d l e r → cmp k e.0 ≡ Greater → entries_above cmp k d ≡ entries_above cmp k r
  above_greater {d} {l} {r} {e} k f p = rw f.is (rw (above_later o k e l r f.sorted (λ h. cc)) (rw p))

module _ {K V : Type 0} {cmp : K → K → Ordering} (o : IsTotalOrder cmp) where
  -- what an insert and a removal leave at a node
  pub inserted_less : {d l r : List (K × V)} {e : K × V} (x : K × V) → IsNode cmp d l e r → cmp x.0 e.0 ≡ Less → IsNode cmp (insert_entry cmp x d) (insert_entry cmp x l) e r
  inserted_less {d} {l} {r} {e} x f p =
      let i = insert_left cmp x e l r p in
      record { is = ap (insert_entry cmp x) f.is ∙ i; sorted = subst (Ascends cmp) i (ascends_insert o x (l ++ e ∷ r) f.sorted) }

  inserted_at : {d l r : List (K × V)} {e : K × V} (x : K × V) → IsNode cmp d l e r → (cmp x.0 e.0 ≡ Less → ⊥) → (m : List (K × V)) → insert_entry cmp x (e ∷ r) ≡ m → (insert_entry cmp x d ≡ l ++ m) × Ascends cmp (l ++ m)
  inserted_at {d} {l} {r} {e} x f p m q =
      let i = insert_later o x e l r f.sorted p ∙ ap (λ z. l ++ z) q in
      (ap (insert_entry cmp x) f.is ∙ i, subst (Ascends cmp) i (ascends_insert o x (l ++ e ∷ r) f.sorted))

  pub inserted_equal : {d l r : List (K × V)} {e : K × V} (x : K × V) → IsNode cmp d l e r → cmp x.0 e.0 ≡ Equal → IsNode cmp (insert_entry cmp x d) l x r
  inserted_equal {d} {l} {r} {e} x f p = let h = inserted_at x f (λ h. cc) (x ∷ r) (rw p) in record { is = h.0; sorted = h.1 }

  pub inserted_greater : {d l r : List (K × V)} {e : K × V} (x : K × V) → IsNode cmp d l e r → cmp x.0 e.0 ≡ Greater → IsNode cmp (insert_entry cmp x d) l e (insert_entry cmp x r)
  inserted_greater {d} {l} {r} {e} x f p = let h = inserted_at x f (λ h. cc) (e ∷ insert_entry cmp x r) (rw p) in record { is = h.0; sorted = h.1 }

  pub removed_less : {d l r : List (K × V)} {e : K × V} (k : K) → IsNode cmp d l e r → cmp k e.0 ≡ Less → IsNode cmp (remove_entry cmp k d) (remove_entry cmp k l) e r
  removed_less {d} {l} {r} {e} k f p =
      let i = remove_left cmp k e l r p in
      record { is = ap (remove_entry cmp k) f.is ∙ i; sorted = subst (Ascends cmp) i (ascends_remove cmp k (l ++ e ∷ r) f.sorted) }

  pub removed_at : {d l r : List (K × V)} {e : K × V} (k : K) → IsNode cmp d l e r → (cmp k e.0 ≡ Less → ⊥) → (m : List (K × V)) → remove_entry cmp k (e ∷ r) ≡ m → (remove_entry cmp k d ≡ l ++ m) × Ascends cmp (l ++ m)
  removed_at {d} {l} {r} {e} k f p m q =
      let i = remove_later o k e l r f.sorted p ∙ ap (λ z. l ++ z) q in
      (ap (remove_entry cmp k) f.is ∙ i, subst (Ascends cmp) i (ascends_remove cmp k (l ++ e ∷ r) f.sorted))

  pub removed_equal : {d l r : List (K × V)} {e : K × V} (k : K) → IsNode cmp d l e r → cmp k e.0 ≡ Equal → (remove_entry cmp k d ≡ l ++ r) × Ascends cmp (l ++ r)
  removed_equal {d} {l} {r} {e} k f p = removed_at k f (λ h. cc) r (rw p)

  pub removed_greater : {d l r : List (K × V)} {e : K × V} (k : K) → IsNode cmp d l e r → cmp k e.0 ≡ Greater → IsNode cmp (remove_entry cmp k d) l e (remove_entry cmp k r)
  removed_greater {d} {l} {r} {e} k f p = let h = removed_at k f (λ h. cc) (e ∷ remove_entry cmp k r) (rw p) in record { is = h.0; sorted = h.1 }

-- what an `Ok` is, by an equation
pub if_ok_is : {A E : Type 0} (r : Result A E) {x y : A} → x ≡ y → IfOk r (λ m. m ≡ x) → IfOk r (λ m. m ≡ y)
if_ok_is {A} {E} r {x} {y} e h = subst (λ z. IfOk r (λ m. m ≡ z)) e h

-- what a part becomes on `Ok` tells what the whole becomes
pub on_ok_ap : {A E B C : Type 0} (r : Result A E) (f : B → C) (x y : B) (z : C) → z ≡ f y → OnOk r (x ≡ y) → OnOk r (f x ≡ z)
on_ok_ap r f x y z e = on_ok_weaker {P = x ≡ y} {Q = f x ≡ z} r (λ h. ap f h ∙ sym e)
