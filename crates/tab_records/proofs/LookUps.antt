-- What a look-up finds after one entry is put in or taken out.
use Rattle.std.proofs.Common.{◌≡◌, List, [], ◌∷◌, refl, sym, ap, ◌∙◌, Option, Some, None, Ordering, Less, Equal, Greater}
use Rattle.std.specs.Ordering.{match_ordering, ordering_reverse}
use Rattle.std.specs.Cmp.{IsTotalOrder}
use Rattle.tab_map.specs.Entries.{lookup, insert_entry, remove_entry, AllAbove, Ascends}

module _ {K : Type 0} {cmp : K → K → Ordering} (o : IsTotalOrder cmp) where
  pub above_below : (x y : K) → cmp x y ≡ Greater → cmp y x ≡ Less
  above_below x y h = o.antisymm y x ∙ ap ordering_reverse h

  pub equal_right : (q x y : K) → cmp x y ≡ Equal → cmp q x ≡ cmp q y
  equal_right q x y h = o.antisymm q x ∙ ap ordering_reverse (o.congr x y q h) ∙ sym (o.antisymm q y)

none_each : {V : Type 0} (n : Option V) (b : Ordering) → n ≡ match_ordering b n n n
none_each n Less = refl
none_each n Equal = refl
none_each n Greater = refl

module _ {K V : Type 0} {cmp : K → K → Ordering} (o : IsTotalOrder cmp) where
  -- below or at a key, below what is above it
  pub below_all : (q k : K) (es : List (K × V)) → cmp q k ≡ Less → AllAbove cmp k es → AllAbove cmp q es
  below_all q k [] h a = tt
  below_all q k (e ∷ es) h a = (o.trans q k e.0 h a.0, below_all q k es h a.1)

  pub at_all : (q k : K) (es : List (K × V)) → cmp q k ≡ Equal → AllAbove cmp k es → AllAbove cmp q es
  at_all q k [] h a = tt
  at_all q k (e ∷ es) h a = (o.congr q k e.0 h ∙ a.0, at_all q k es h a.1)

  pub lookup_above : (q : K) (es : List (K × V)) → AllAbove cmp q es → lookup cmp q es ≡ None
  lookup_above q [] a = refl
  lookup_above q (e ∷ es) a = ap (λ c. match_ordering c None (Some e.1) (lookup cmp q es)) a.0

  pub lookup_insert : (x : K × V) (es : List (K × V)) (q : K) → Ascends cmp es
      → lookup cmp q (insert_entry cmp x es) ≡ match_ordering (cmp q x.0) (lookup cmp q es) (Some x.1) (lookup cmp q es)
  lookup_insert x [] q s = refl
  lookup_insert x (e ∷ es) q s = cases (lookup_insert x es q s.1) (cmp x.0 e.0) refl (cmp q x.0) refl (cmp q e.0) refl
    where
      cases : lookup cmp q (insert_entry cmp x es) ≡ match_ordering (cmp q x.0) (lookup cmp q es) (Some x.1) (lookup cmp q es)
          → (a : Ordering) → cmp x.0 e.0 ≡ a → (b : Ordering) → cmp q x.0 ≡ b → (c : Ordering) → cmp q e.0 ≡ c
          → lookup cmp q (match_ordering a (x ∷ e ∷ es) (x ∷ es) (e ∷ insert_entry cmp x es)) ≡ match_ordering b (match_ordering c None (Some e.1) (lookup cmp q es)) (Some x.1) (match_ordering c None (Some e.1) (lookup cmp q es))
      cases ih Less h Less k c g = ap (λ z. match_ordering z None (Some x.1) (lookup cmp q (e ∷ es))) k ∙ ap (λ z. match_ordering z None (Some e.1) (lookup cmp q es)) (sym (sym g ∙ o.trans q x.0 e.0 k h))
      cases ih Less h Equal k c g = ap (λ z. match_ordering z None (Some x.1) (lookup cmp q (e ∷ es))) k
      cases ih Less h Greater k c g = ap (λ z. match_ordering z None (Some x.1) (lookup cmp q (e ∷ es))) k ∙ ap (λ z. match_ordering z None (Some e.1) (lookup cmp q es)) g
      cases ih Equal h Less k c g = ap (λ z. match_ordering z None (Some x.1) (lookup cmp q es)) k ∙ ap (λ z. match_ordering z None (Some e.1) (lookup cmp q es)) (sym (sym g ∙ sym (equal_right o q x.0 e.0 h) ∙ k))
      cases ih Equal h Equal k c g = ap (λ z. match_ordering z None (Some x.1) (lookup cmp q es)) k
      cases ih Equal h Greater k c g = ap (λ z. match_ordering z None (Some x.1) (lookup cmp q es)) k ∙ ap (λ z. match_ordering z None (Some e.1) (lookup cmp q es)) (sym (sym g ∙ sym (equal_right o q x.0 e.0 h) ∙ k))
      cases ih Greater h b k Less g =
          let low : cmp q x.0 ≡ Less = o.trans q e.0 x.0 g (above_below o x.0 e.0 h) in
          ap (λ z. match_ordering z None (Some e.1) (lookup cmp q (insert_entry cmp x es))) g ∙ ap (λ z. match_ordering z None (Some x.1) None) (sym (sym k ∙ low))
      cases ih Greater h b k Equal g =
          let low : cmp q x.0 ≡ Less = o.congr q e.0 x.0 g ∙ above_below o x.0 e.0 h in
          ap (λ z. match_ordering z None (Some e.1) (lookup cmp q (insert_entry cmp x es))) g ∙ ap (λ z. match_ordering z (Some e.1) (Some x.1) (Some e.1)) (sym (sym k ∙ low))
      cases ih Greater h b k Greater g =
          ap (λ z. match_ordering z None (Some e.1) (lookup cmp q (insert_entry cmp x es))) g ∙ ih ∙ ap (λ z. match_ordering z (lookup cmp q es) (Some x.1) (lookup cmp q es)) k

  pub lookup_remove : (x : K) (es : List (K × V)) (q : K) → Ascends cmp es
      → lookup cmp q (remove_entry cmp x es) ≡ match_ordering (cmp q x) (lookup cmp q es) None (lookup cmp q es)
  lookup_remove x [] q s = none_each None (cmp q x)
  lookup_remove x (e ∷ es) q s = cases (lookup_remove x es q s.1) (cmp x e.0) refl (cmp q x) refl (cmp q e.0) refl
    where
      cases : lookup cmp q (remove_entry cmp x es) ≡ match_ordering (cmp q x) (lookup cmp q es) None (lookup cmp q es)
          → (a : Ordering) → cmp x e.0 ≡ a → (b : Ordering) → cmp q x ≡ b → (c : Ordering) → cmp q e.0 ≡ c
          → lookup cmp q (match_ordering a (e ∷ es) es (e ∷ remove_entry cmp x es)) ≡ match_ordering b (match_ordering c None (Some e.1) (lookup cmp q es)) None (match_ordering c None (Some e.1) (lookup cmp q es))
      cases ih Less h Less k c g = ap (λ z. match_ordering z None (Some e.1) (lookup cmp q es)) g
      cases ih Less h Greater k c g = ap (λ z. match_ordering z None (Some e.1) (lookup cmp q es)) g
      cases ih Less h Equal k c g = ap (λ z. match_ordering z None (Some e.1) (lookup cmp q es)) (o.congr q x e.0 k ∙ h)
      cases ih Equal h Less k c g = let low : cmp q e.0 ≡ Less = sym (equal_right o q x e.0 h) ∙ k in
          lookup_above q es (below_all q e.0 es low s.0) ∙ ap (λ z. match_ordering z None (Some e.1) (lookup cmp q es)) (sym (sym g ∙ low))
      cases ih Equal h Equal k c g = lookup_above q es (at_all q e.0 es (sym (equal_right o q x e.0 h) ∙ k) s.0)
      cases ih Equal h Greater k c g = ap (λ z. match_ordering z None (Some e.1) (lookup cmp q es)) (sym (sym g ∙ sym (equal_right o q x e.0 h) ∙ k))
      cases ih Greater h b k Less g =
          let low : cmp q x ≡ Less = o.trans q e.0 x g (above_below o x e.0 h) in
          ap (λ z. match_ordering z None (Some e.1) (lookup cmp q (remove_entry cmp x es))) g ∙ ap (λ z. match_ordering z None None None) (sym (sym k ∙ low))
      cases ih Greater h b k Equal g =
          let low : cmp q x ≡ Less = o.congr q e.0 x g ∙ above_below o x e.0 h in
          ap (λ z. match_ordering z None (Some e.1) (lookup cmp q (remove_entry cmp x es))) g ∙ ap (λ z. match_ordering z (Some e.1) None (Some e.1)) (sym (sym k ∙ low))
      cases ih Greater h b k Greater g =
          ap (λ z. match_ordering z None (Some e.1) (lookup cmp q (remove_entry cmp x es))) g ∙ ih ∙ ap (λ z. match_ordering z (lookup cmp q es) None (lookup cmp q es)) k
