-- Facts on entries that ascend, around an entry e.
use Rattle.std.proofs.Common.{◌≡◌, List, [], ◌∷◌, ◌++◌, append_assoc, refl, ap, ◌∙◌, None, Some}
use Rattle.std.specs.declared.cmp.Ordering.{Ordering}
use Rattle.std.specs.declared.cmp.Ordering.TheVariants.{Less, Equal, Greater}
use Rattle.std.specs.Ordering.{match_ordering, ordering_reverse}
use Rattle.std.specs.Cmp.{IsTotalOrder}
use Rattle.tab_map.specs.Entries.{lookup, insert_entry, remove_entry, entries_above, AllAbove, Ascends}

module _ {K V : Type 0} (cmp : K → K → Ordering) where
  above_front : (k : K) (l m : List (K × V)) → AllAbove cmp k (l ++ m) → AllAbove cmp k l
  above_front k [] m a = tt
  above_front k (x ∷ l) m a = (a.0, above_front k l m a.1)

  pub above_back : (k : K) (l m : List (K × V)) → AllAbove cmp k (l ++ m) → AllAbove cmp k m
  above_back k [] m a = a
  above_back k (x ∷ l) m a = above_back k l m a.1

  pub ascends_front : (l m : List (K × V)) → Ascends cmp (l ++ m) → Ascends cmp l
  ascends_front [] m s = tt
  ascends_front (x ∷ l) m s = (above_front x.0 l m s.0, ascends_front l m s.1)

  pub ascends_back : (l m : List (K × V)) → Ascends cmp (l ++ m) → Ascends cmp m
  ascends_back [] m s = s
  ascends_back (x ∷ l) m s = ascends_back l m s.1

  above_remove : (k q : K) (es : List (K × V)) → AllAbove cmp k es → AllAbove cmp k (remove_entry cmp q es)
  above_remove k q [] a = tt
  above_remove k q (e ∷ es) a =
      elim (cmp q e.0) as (λ d. AllAbove cmp k (match_ordering d (e ∷ es) es (e ∷ remove_entry cmp q es))) [
        | Less ↦ a
        | Equal ↦ a.1
        | Greater ↦ (a.0, above_remove k q es a.1)
      ]

  pub ascends_remove : (q : K) (es : List (K × V)) → Ascends cmp es → Ascends cmp (remove_entry cmp q es)
  ascends_remove q [] s = tt
  ascends_remove q (e ∷ es) s =
      elim (cmp q e.0) as (λ d. Ascends cmp (match_ordering d (e ∷ es) es (e ∷ remove_entry cmp q es))) [
        | Less ↦ s
        | Equal ↦ s.1
        | Greater ↦ (above_remove e.0 q es s.0, ascends_remove q es s.1)
      ]

  -- what is below e is worked on before e
  pub insert_left : (x e : K × V) (l r : List (K × V)) → cmp x.0 e.0 ≡ Less → insert_entry cmp x (l ++ e ∷ r) ≡ insert_entry cmp x l ++ e ∷ r
  insert_left x e [] r p = rw p
  insert_left x e (y ∷ l) r p =
      elim (cmp x.0 y.0) as (λ d. match_ordering d (x ∷ y ∷ (l ++ e ∷ r)) (x ∷ (l ++ e ∷ r)) (y ∷ insert_entry cmp x (l ++ e ∷ r)) ≡ match_ordering d (x ∷ y ∷ l) (x ∷ l) (y ∷ insert_entry cmp x l) ++ e ∷ r) [
        | Less ↦ refl
        | Equal ↦ refl
        | Greater ↦ ap (λ z. y ∷ z) (insert_left x e l r p)
      ]

  pub remove_left : (k : K) (e : K × V) (l r : List (K × V)) → cmp k e.0 ≡ Less → remove_entry cmp k (l ++ e ∷ r) ≡ remove_entry cmp k l ++ e ∷ r
  remove_left k e [] r p = rw p
  remove_left k e (y ∷ l) r p =
      elim (cmp k y.0) as (λ d. match_ordering d (y ∷ (l ++ e ∷ r)) (l ++ e ∷ r) (y ∷ remove_entry cmp k (l ++ e ∷ r)) ≡ match_ordering d (y ∷ l) l (y ∷ remove_entry cmp k l) ++ e ∷ r) [
        | Less ↦ refl
        | Equal ↦ refl
        | Greater ↦ ap (λ z. y ∷ z) (remove_left k e l r p)
      ]

  pub lookup_left : (k : K) (e : K × V) (l r : List (K × V)) → cmp k e.0 ≡ Less → lookup cmp k (l ++ e ∷ r) ≡ lookup cmp k l
  lookup_left k e [] r p = rw p
  lookup_left k e (y ∷ l) r p =
      elim (cmp k y.0) as (λ d. match_ordering d None (Some y.1) (lookup cmp k (l ++ e ∷ r)) ≡ match_ordering d None (Some y.1) (lookup cmp k l)) [
        | Less ↦ refl
        | Equal ↦ refl
        | Greater ↦ lookup_left k e l r p
      ]

  pub above_left : (k : K) (e : K × V) (l r : List (K × V)) → cmp k e.0 ≡ Less → entries_above cmp k (l ++ e ∷ r) ≡ entries_above cmp k l ++ e ∷ r
  above_left k e [] r p = rw p
  above_left k e (y ∷ l) r p =
      elim (cmp k y.0) as (λ d. match_ordering d (y ∷ (l ++ e ∷ r)) (l ++ e ∷ r) (entries_above cmp k (l ++ e ∷ r)) ≡ match_ordering d (y ∷ l) l (entries_above cmp k l) ++ e ∷ r) [
        | Less ↦ refl
        | Equal ↦ refl
        | Greater ↦ above_left k e l r p
      ]

module _ {K : Type 0} {cmp : K → K → Ordering} (o : IsTotalOrder cmp) where
  -- a key that is not below z is above what is
  pub above : (x z q : K) → cmp x z ≡ Less → (cmp q z ≡ Less → ⊥) → cmp q x ≡ Greater
  above x z q p not_below =
      elim (cmp q x) as (λ d. cmp q x ≡ d → d ≡ Greater) [
        | Less ↦ λ h. absurd (not_below (o.trans q x z h p))
        | Equal ↦ λ h. absurd (not_below (o.congr q x z h ∙ p))
        | Greater ↦ λ h. refl
      ] refl

module _ {K V : Type 0} {cmp : K → K → Ordering} (o : IsTotalOrder cmp) where
  -- what is not below e is worked on from e on
  pub insert_later : (x e : K × V) (l r : List (K × V)) → Ascends cmp (l ++ e ∷ r) → (cmp x.0 e.0 ≡ Less → ⊥) → insert_entry cmp x (l ++ e ∷ r) ≡ l ++ insert_entry cmp x (e ∷ r)
  insert_later x e [] r s p = refl
  insert_later x e (y ∷ l) r s p =
      rw (above o y.0 e.0 x.0 (above_back cmp y.0 l (e ∷ r) s.0).0 p) (ap (λ z. y ∷ z) (insert_later x e l r s.1 p))

  pub remove_later : (k : K) (e : K × V) (l r : List (K × V)) → Ascends cmp (l ++ e ∷ r) → (cmp k e.0 ≡ Less → ⊥) → remove_entry cmp k (l ++ e ∷ r) ≡ l ++ remove_entry cmp k (e ∷ r)
  remove_later k e [] r s p = refl
  remove_later k e (y ∷ l) r s p =
      rw (above o y.0 e.0 k (above_back cmp y.0 l (e ∷ r) s.0).0 p) (ap (λ z. y ∷ z) (remove_later k e l r s.1 p))

  pub lookup_later : (k : K) (e : K × V) (l r : List (K × V)) → Ascends cmp (l ++ e ∷ r) → (cmp k e.0 ≡ Less → ⊥) → lookup cmp k (l ++ e ∷ r) ≡ lookup cmp k (e ∷ r)
  lookup_later k e [] r s p = refl
  lookup_later k e (y ∷ l) r s p =
      rw (above o y.0 e.0 k (above_back cmp y.0 l (e ∷ r) s.0).0 p) (lookup_later k e l r s.1 p)

  pub above_later : (k : K) (e : K × V) (l r : List (K × V)) → Ascends cmp (l ++ e ∷ r) → (cmp k e.0 ≡ Less → ⊥) → entries_above cmp k (l ++ e ∷ r) ≡ entries_above cmp k (e ∷ r)
  above_later k e [] r s p = refl
  above_later k e (y ∷ l) r s p =
      rw (above o y.0 e.0 k (above_back cmp y.0 l (e ∷ r) s.0).0 p) (above_later k e l r s.1 p)

  above_lower : (x y : K) (es : List (K × V)) → cmp x y ≡ Less → AllAbove cmp y es → AllAbove cmp x es
  above_lower x y [] p a = tt
  above_lower x y (e ∷ es) p a = (o.trans x y e.0 p a.0, above_lower x y es p a.1)

  above_same : (x y : K) (es : List (K × V)) → cmp x y ≡ Equal → AllAbove cmp y es → AllAbove cmp x es
  above_same x y [] p a = tt
  above_same x y (e ∷ es) p a = (o.congr x y e.0 p ∙ a.0, above_same x y es p a.1)

  above_insert : (k : K) (x : K × V) (es : List (K × V)) → cmp k x.0 ≡ Less → AllAbove cmp k es → AllAbove cmp k (insert_entry cmp x es)
  above_insert k x [] p a = (p, tt)
  above_insert k x (e ∷ es) p a =
      elim (cmp x.0 e.0) as (λ d. AllAbove cmp k (match_ordering d (x ∷ e ∷ es) (x ∷ es) (e ∷ insert_entry cmp x es))) [
        | Less ↦ (p, a)
        | Equal ↦ (p, a.1)
        | Greater ↦ (a.0, above_insert k x es p a.1)
      ]

  pub ascends_insert : (x : K × V) (es : List (K × V)) → Ascends cmp es → Ascends cmp (insert_entry cmp x es)
  ascends_insert x [] s = (tt, tt)
  ascends_insert x (e ∷ es) s =
      elim (cmp x.0 e.0) as (λ d. cmp x.0 e.0 ≡ d → Ascends cmp (match_ordering d (x ∷ e ∷ es) (x ∷ es) (e ∷ insert_entry cmp x es))) [
        | Less ↦ λ h. ((h, above_lower x.0 e.0 es h s.0), s)
        | Equal ↦ λ h. (above_same x.0 e.0 es h s.0, s.1)
        | Greater ↦ λ h. (above_insert e.0 x es (o.antisymm e.0 x.0 ∙ ap ordering_reverse h) s.0, ascends_insert x es s.1)
      ] refl

-- parts of what ascends
module _ {K V : Type 0} (cmp : K → K → Ordering) where
  pub last_two : (x : List (K × V)) (j : K × V) (y : List (K × V)) → Ascends cmp (x ++ j ∷ y) → Ascends cmp y
  last_two x j y s = (ascends_back cmp x (j ∷ y) s).1

  pub first_two : (x : List (K × V)) (j : K × V) (y : List (K × V)) (k : K × V) (z : List (K × V)) → Ascends cmp (x ++ j ∷ (y ++ k ∷ z)) → Ascends cmp (x ++ j ∷ y)
  first_two x j y k z s = ascends_front cmp (x ++ j ∷ y) (k ∷ z) (rw append_assoc s)

module _ {A : Type 0} where
  pub not_empty : (l : List A) (e : A) (r : List A) → l ++ e ∷ r ≡ [] → ⊥
  not_empty [] e r p = cc
  not_empty (x ∷ l) e r p = cc
