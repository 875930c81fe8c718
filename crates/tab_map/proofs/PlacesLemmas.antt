-- Places in a row of entries, and what changes there.
use Rattle.std.proofs.Common.{None, Some, slice_get, slice_set, add-one, ◌≡◌, ℕ, suc, ◌+◌, List, [], ◌∷◌, ◌++◌, length, drop, get_or, refl, sym, ap, ◌∙◌, subst}
use Rattle.std.proofs.Math.Seq.{take-append_seam, drop-append_seam, get_or-append_seam, set-append_seam}
use Rattle.std.specs.List.{insert, remove}
use Rattle.std.specs.declared.cmp.Ordering.{Ordering}
use Rattle.std.specs.declared.cmp.Ordering.TheVariants.{Less}
use Rattle.std.specs.Cmp.{IsTotalOrder}
use Rattle.tab_map.specs.Entries.{Ascends, lookup, insert_entry, remove_entry, entries_above}
use Rattle.tab_map.specs.Places.{IsPast, IsBelow, HasAt, IsGap}
use Rattle.tab_map.proofs.AscendsLemmas.{above, above_back}
use Rattle.tab_map.proofs.EntriesLemmas.{IsNode, lookup_equal, above_equal, inserted_equal, removed_equal}

module _ {K V : Type 0} {cmp : K → K → Ordering} (o : IsTotalOrder cmp) where
  pub past_before : (k : K) (l : List (K × V)) (e : K × V) (r : List (K × V)) → Ascends cmp (l ++ e ∷ r) → (cmp k e.0 ≡ Less → ⊥) → IsPast cmp k l
  past_before k [] e r s p = tt
  past_before k (x ∷ l) e r s p = (above o x.0 e.0 k (above_back cmp x.0 l (e ∷ r) s.0).0 p, past_before k l e r s.1 p)

-- at the seam of two rows
module _ {A : Type 0} where
  pub get_seam : (l m : List A) → slice_get (l ++ m) (length l) ≡ slice_get m 0
  get_seam [] m = refl
  get_seam (x ∷ l) m = get_seam l m

  pub get_next : (l : List A) (e : A) (m : List A) → slice_get (l ++ e ∷ m) (suc (length l)) ≡ slice_get m 0
  get_next [] e m = refl
  get_next (x ∷ l) e m = get_next l e m

  pub drop_next : (l : List A) (e : A) (m : List A) → drop (suc (length l)) (l ++ e ∷ m) ≡ m
  drop_next [] e m = refl
  drop_next (x ∷ l) e m = drop_next l e m

  pub head_is : (m : List A) (e : A) → slice_get m 0 ≡ Some e → (r : List A) × (m ≡ e ∷ r)
  head_is [] e p = absurd (cc)
  head_is (x ∷ m) e p = let q : x ≡ e = cc in (m, ap (λ z. z ∷ m) q)

-- what is worked on at a gap
module _ {K V : Type 0} (cmp : K → K → Ordering) where
  past_lookup : (k : K) (l m : List (K × V)) → IsPast cmp k l → lookup cmp k (l ++ m) ≡ lookup cmp k m
  past_lookup k [] m p = refl
  past_lookup k (e ∷ l) m p = rw p.0 (past_lookup k l m p.1)

  past_above : (k : K) (l m : List (K × V)) → IsPast cmp k l → entries_above cmp k (l ++ m) ≡ entries_above cmp k m
  past_above k [] m p = refl
  past_above k (e ∷ l) m p = rw p.0 (past_above k l m p.1)

  past_insert : (x : K × V) (l m : List (K × V)) → IsPast cmp x.0 l → insert_entry cmp x (l ++ m) ≡ l ++ insert_entry cmp x m
  past_insert x [] m p = refl
  past_insert x (e ∷ l) m p = rw p.0 (ap (λ z. e ∷ z) (past_insert x l m p.1))

  past_remove : (k : K) (l m : List (K × V)) → IsPast cmp k l → remove_entry cmp k (l ++ m) ≡ l ++ remove_entry cmp k m
  past_remove k [] m p = refl
  past_remove k (e ∷ l) m p = rw p.0 (ap (λ z. e ∷ z) (past_remove k l m p.1))

  below_lookup : (k : K) (m : List (K × V)) → IsBelow cmp k m → lookup cmp k m ≡ None
  below_lookup k [] p = refl
  below_lookup k (e ∷ m) p = rw p refl

  below_above : (k : K) (m : List (K × V)) → IsBelow cmp k m → entries_above cmp k m ≡ m
  below_above k [] p = refl
  below_above k (e ∷ m) p = rw p refl

  below_insert : (x : K × V) (m : List (K × V)) → IsBelow cmp x.0 m → insert_entry cmp x m ≡ x ∷ m
  below_insert x [] p = refl
  below_insert x (e ∷ m) p = rw p refl

  below_remove : (k : K) (m : List (K × V)) → IsBelow cmp k m → remove_entry cmp k m ≡ m
  below_remove k [] p = refl
  below_remove k (e ∷ m) p = rw p refl

module _ {K V : Type 0} (cmp : K → K → Ordering) where
  pub gap_lookup : (k : K) (es : List (K × V)) (n : ℕ) → IsGap cmp k es n → lookup cmp k es ≡ None
  gap_lookup k es n f = ap (lookup cmp k) f.is ∙ past_lookup cmp k f.before f.after f.past ∙ below_lookup cmp k f.after f.below

  gap_drop : (k : K) (es : List (K × V)) (n : ℕ) (f : IsGap cmp k es n) → drop n es ≡ f.after
  gap_drop k es n f = ap (drop n) f.is ∙ ap (λ i. drop i (f.before ++ f.after)) (sym f.count) ∙ drop-append_seam f.before f.after

  pub gap_above : (k : K) (es : List (K × V)) (n : ℕ) → IsGap cmp k es n → entries_above cmp k es ≡ drop n es
  gap_above k es n f = ap (entries_above cmp k) f.is ∙ past_above cmp k f.before f.after f.past ∙ below_above cmp k f.after f.below ∙ sym (gap_drop k es n f)

  pub gap_insert : (x : K × V) (es : List (K × V)) (n : ℕ) → IsGap cmp x.0 es n → insert es n x ≡ insert_entry cmp x es
  gap_insert x es n f =
      ap (λ z. insert z n x) f.is ∙ ap (λ i. insert (f.before ++ f.after) i x) (sym f.count)
      ∙ rw (take-append_seam f.before f.after, drop-append_seam f.before f.after) (sym (ap (insert_entry cmp x) f.is ∙ past_insert cmp x f.before f.after f.past ∙ ap (λ z. f.before ++ z) (below_insert cmp x f.after f.below)))

  pub gap_remove : (k : K) (es : List (K × V)) (n : ℕ) → IsGap cmp k es n → es ≡ remove_entry cmp k es
  gap_remove k es n f = f.is ∙ sym (ap (remove_entry cmp k) f.is ∙ past_remove cmp k f.before f.after f.past ∙ ap (λ z. f.before ++ z) (below_remove cmp k f.after f.below))

module _ {K V : Type 0} {cmp : K → K → Ordering} (o : IsTotalOrder cmp) where
  has_node : (k : K) (es : List (K × V)) (n : ℕ) (f : HasAt cmp k es n) → Ascends cmp es → IsNode cmp es f.before f.entry f.after
  has_node k es n f s = record { is = f.is; sorted = subst (Ascends cmp) f.is s }

  pub has_lookup : (k : K) (es : List (K × V)) (n : ℕ) (e : K × V) → HasAt cmp k es n → Ascends cmp es → e ≡ get_or es n e → Some e.1 ≡ lookup cmp k es
  has_lookup k es n e f s p =
      let q : e ≡ f.entry = p ∙ ap (λ z. get_or z n e) f.is ∙ ap (λ i. get_or (f.before ++ f.entry ∷ f.after) i e) (sym f.count) ∙ get_or-append_seam f.before f.entry f.after e in
      ap (λ z. Some z.1) q ∙ sym (lookup_equal o k (has_node k es n f s) f.equal)

  pub has_above : (k : K) (es : List (K × V)) (n : ℕ) → HasAt cmp k es n → Ascends cmp es → entries_above cmp k es ≡ drop (n + 1) es
  has_above k es n f s =
      above_equal o k (has_node k es n f s) f.equal
      ∙ sym (ap (λ i. drop i es) (add-one n) ∙ ap (drop (suc n)) f.is ∙ ap (λ i. drop (suc i) (f.before ++ f.entry ∷ f.after)) (sym f.count) ∙ drop_next f.before f.entry f.after)

  pub has_set : (x : K × V) (es : List (K × V)) (n : ℕ) → HasAt cmp x.0 es n → Ascends cmp es → slice_set es n x ≡ insert_entry cmp x es
  has_set x es n f s =
      ap (λ z. slice_set z n x) f.is ∙ ap (λ i. slice_set (f.before ++ f.entry ∷ f.after) i x) (sym f.count) ∙ set-append_seam f.before f.entry f.after x
      ∙ sym (inserted_equal o x (has_node x.0 es n f s) f.equal).is

  pub has_remove : (k : K) (es : List (K × V)) (n : ℕ) → HasAt cmp k es n → Ascends cmp es → remove es n ≡ remove_entry cmp k es
  has_remove k es n f s =
      ap (λ z. remove z n) f.is ∙ ap (λ i. remove (f.before ++ f.entry ∷ f.after) i) (sym f.count)
      ∙ rw (take-append_seam f.before (f.entry ∷ f.after), drop_next f.before f.entry f.after) (sym (removed_equal o k (has_node k es n f s) f.equal).0)
