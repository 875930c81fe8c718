-- What an iterator has left, from each place of a map's entries on.
use Rattle.std.proofs.Common.{◌≡◌, ℕ, List, [], ◌∷◌, ◌++◌, refl, sym, ap, ◌∙◌, subst, Option, None, Some, slice_get, length, take, drop, append_assoc, take-append-drop, drop-drop, ◌<◌, ◌≤◌, ◌+◌, ◌-◌, arith}
use Rattle.std.proofs.lemmas.List.{drop_all}
use Rattle.std.specs.declared.cmp.Ordering.{Ordering}
use Rattle.std.specs.declared.cmp.Ordering.TheVariants.{Less, Equal, Greater}
use Rattle.std.specs.Ordering.{match_ordering}
use Rattle.std.specs.Cmp.{IsTotalOrder}
use Rattle.std.proofs.lemmas.Cmp.{tied_itself}
use Rattle.tab_map.specs.Entries.{entries_above, Ascends}
use Rattle.tab_map.specs.declared.ahead.Ahead.{Ahead}
use Rattle.tab_map.specs.Ahead.{AreAhead, first_known}
use Rattle.tab_map.specs.InOrder.{entries_left}
use Rattle.tab_map.proofs.AheadLemmas.{ahead_first}
use Rattle.tab_map.proofs.AscendsLemmas.{above_later}

module _ {K V : Type 0} (cmp : K → K → Ordering) where
  -- the entries above a key are the last of all
  above_last : (k : K) (es : List (K × V)) → (l : List (K × V)) × (l ++ entries_above cmp k es ≡ es)
  above_last k [] = ([], refl)
  above_last k (e ∷ es) =
      elim (cmp k e.0) as (λ d. (l : List (K × V)) × (l ++ match_ordering d (e ∷ es) es (entries_above cmp k es) ≡ e ∷ es)) [
        | Less ↦ ([], refl)
        | Equal ↦ (e ∷ [], refl)
        | Greater ↦ let h = above_last k es in (e ∷ h.0, ap (λ z. e ∷ z) h.1)
      ]

  -- at the end none is left
  pub left_none : (es left : List (K × V)) → left ≡ [] → entries_left cmp es (slice_get left 0) ≡ left
  left_none es left p = ap (λ z. entries_left cmp es (slice_get z 0)) p ∙ sym p

module _ {K V : Type 0} {cmp : K → K → Ordering} (o : IsTotalOrder cmp) where
  left_at : (l t : List (K × V)) → Ascends cmp (l ++ t) → entries_left cmp (l ++ t) (slice_get t 0) ≡ t
  left_at l [] s = refl
  left_at l (e ∷ t) s = ap (λ z. e ∷ z) (rw (above_later o e.0 e l t s (λ h. cc (tied_itself o e.0)), tied_itself o e.0) refl)

  left_part : (p t es : List (K × V)) (e : Option (K × V)) → Ascends cmp es → entries_left cmp es e ≡ p ++ t → entries_left cmp es (slice_get t 0) ≡ t
  left_part [] t es None s q = left_none cmp es t (sym q)
  left_part [] t es (Some e) s q = subst (λ z. entries_left cmp es (slice_get z 0) ≡ z) q refl
  left_part (x ∷ p) t es None s q = absurd (cc)
  left_part (x ∷ p) t es (Some e) s q =
      let h = above_last cmp e.0 es in
      let r : entries_above cmp e.0 es ≡ p ++ t = cc in
      let is : (h.0 ++ p) ++ t ≡ es = append_assoc h.0 p t ∙ ap (λ z. h.0 ++ z) (sym r) ∙ h.1 in
      subst (λ z. Ascends cmp z → entries_left cmp z (slice_get t 0) ≡ t) is (left_at (h.0 ++ p) t) s

  left_dropped : (n : ℕ) (es : List (K × V)) (e : Option (K × V)) → Ascends cmp es → entries_left cmp es (slice_get (drop n (entries_left cmp es e)) 0) ≡ drop n (entries_left cmp es e)
  left_dropped n es e s = left_part (take n (entries_left cmp es e)) (drop n (entries_left cmp es e)) es e s (sym (take-append-drop n (entries_left cmp es e)))

  pub left_all : (es : List (K × V)) → Ascends cmp es → entries_left cmp es (slice_get es 0) ≡ es
  left_all es s = left_at [] es s

  pub left_above : (k : K) (es : List (K × V)) → Ascends cmp es → entries_left cmp es (slice_get (entries_above cmp k es) 0) ≡ entries_above cmp k es
  left_above k es s =
      let h = above_last cmp k es in
      subst (λ z. Ascends cmp z → entries_left cmp z (slice_get (entries_above cmp k es) 0) ≡ entries_above cmp k es) h.1 (left_at h.0 (entries_above cmp k es)) s

  -- what is left is what is ahead
  pub left_is : (es xs : List (K × V)) (a : Ahead K V) → entries_left cmp es (slice_get xs 0) ≡ xs → AreAhead a xs → entries_left cmp es (first_known a) ≡ xs
  left_is es xs a p f = ap (entries_left cmp es) (ahead_first a xs f) ∙ p

  pub left_ahead : (es xs : List (K × V)) (a : Ahead K V) → entries_left cmp es (slice_get xs 0) ≡ xs → AreAhead a xs → AreAhead a (entries_left cmp es (first_known a))
  left_ahead es xs a p f = subst (AreAhead a) (sym (left_is es xs a p f)) f

  -- behind some of what is left, the others are ahead
  pub left_passed : (n : ℕ) (es : List (K × V)) (e : Option (K × V)) (a : Ahead K V) → Ascends cmp es → AreAhead a (drop n (entries_left cmp es e)) → (entries_left cmp es (first_known a) ≡ drop n (entries_left cmp es e)) × AreAhead a (entries_left cmp es (first_known a))
  left_passed n es e a s f = let left = left_dropped n es e s in (left_is es _ a left f, left_ahead es _ a left f)

  -- behind e, which came next, the entries above it are left
  pub left_behind : (es rest : List (K × V)) (a : Ahead K V) (e : K × V) → AreAhead a (entries_left cmp es (first_known a)) → entries_left cmp es (first_known a) ≡ e ∷ rest → rest ≡ entries_above cmp e.0 es
  left_behind es rest a e f p =
      let q : first_known a ≡ Some e = ahead_first a (entries_left cmp es (first_known a)) f ∙ ap (λ z. slice_get z 0) p in
      let r : e ∷ entries_above cmp e.0 es ≡ e ∷ rest = sym (ap (entries_left cmp es) q) ∙ p in
      cc

  pub left_rest : (es rest : List (K × V)) (e : K × V) → Ascends cmp es → rest ≡ entries_above cmp e.0 es → entries_left cmp es (slice_get rest 0) ≡ rest
  left_rest es rest e s p = subst (λ z. entries_left cmp es (slice_get z 0) ≡ z) (sym p) (left_above e.0 es s)

pub fewer : {A : Type 0} (xs ys : List A) (x : A) → xs ≡ x ∷ ys → length ys < length xs
fewer xs ys x p = rw p (omega arith)

module _ {A : Type 0} (n p : ℕ) (xs : List A) where
  -- where none is left behind some, none is left behind more
  pub none_behind : p ≤ n → drop p xs ≡ [] → drop n xs ≡ []
  none_behind le none =
      let is : p + (n - p) ≡ n = omega (arith, le) in
      sym (drop-drop (n - p) p xs ∙ ap (λ z. drop z xs) is) ∙ ap (drop (n - p)) none ∙ drop_all (n - p) [] (omega arith)

  -- behind the next of what some are passed over of
  pub next_behind : (x : A) (ys : List A) → p < n → drop p xs ≡ x ∷ ys → drop (n - p - 1) ys ≡ drop n xs
  next_behind x ys lt q =
      let is : p + (1 + (n - p - 1)) ≡ n = omega (arith, lt) in
      ap (λ z. drop (n - p - 1) (drop 1 z)) (sym q) ∙ drop-drop (n - p - 1) 1 (drop p xs) ∙ drop-drop (1 + (n - p - 1)) p xs ∙ ap (λ z. drop z xs) is
