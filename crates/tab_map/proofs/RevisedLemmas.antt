-- A revised value among entries that are cut at a node, or at a place of a row.
use Rattle.std.proofs.Common.{◌≡◌, ℕ, zero, suc, List, [], ◌∷◌, refl, sym, ap, ◌∙◌, Some, None, Option, slice_get, slice_set, get_or}
use Rattle.std.specs.declared.cmp.Ordering.{Ordering}
use Rattle.std.specs.Cmp.{IsTotalOrder}
use Rattle.tab_map.specs.declared.Branch.{Branch}
use Rattle.tab_map.specs.Entries.{lookup, Ascends}
use Rattle.tab_map.specs.InOrder.{spread, separators}
use Rattle.tab_map.specs.Places.{HasAt, IsGap}
use Rattle.tab_map.specs.Revised.{revised_as, revised_at}
use Rattle.tab_map.proofs.AscendsLemmas.{ascends_insert}
use Rattle.tab_map.proofs.PlacesLemmas.{has_set, has_lookup, gap_lookup}
use Rattle.tab_map.proofs.SpreadLemmas.{child_insert, child_lookup, last_insert, last_lookup, found_insert, found_value}

set_same : {A : Type 0} (xs : List A) (n : ℕ) (x : A) → slice_get xs n ≡ Some x → slice_set xs n x ≡ xs
set_same [] n x p = refl
set_same (y ∷ xs) zero x p = let q : y ≡ x = cc in ap (λ z. z ∷ xs) (sym q)
set_same (y ∷ xs) (suc n) x p = ap (λ z. y ∷ z) (set_same xs n x p)

module _ {K V : Type 0} {cmp : K → K → Ordering} (o : IsTotalOrder cmp) where
  revised_ascends_as : (f : V → V) (k : K) (es : List (K × V)) (v : Option V) → Ascends cmp es → Ascends cmp (revised_as cmp f k es v)
  revised_ascends_as f k es None s = s
  revised_ascends_as f k es (Some v) s = ascends_insert o (k, f v) es s

  pub revised_ascends : (f : V → V) (k : K) (es : List (K × V)) → Ascends cmp es → Ascends cmp (revised_at cmp f k es)
  revised_ascends f k es s = revised_ascends_as f k es (lookup cmp k es) s

  -- in a row
  pub has_revised : (f : V → V) (k : K) (es : List (K × V)) (n : ℕ) (e : K × V) → HasAt cmp k es n → Ascends cmp es → e ≡ get_or es n e → slice_set es n (k, f e.1) ≡ revised_at cmp f k es
  has_revised f k es n e h s p = has_set o (k, f e.1) es n h s ∙ ap (revised_as cmp f k es) (has_lookup o k es n e h s p)

  pub gap_revised : (f : V → V) (k : K) (es : List (K × V)) (n : ℕ) → IsGap cmp k es n → es ≡ revised_at cmp f k es
  gap_revised f k es n h = ap (revised_as cmp f k es) (sym (gap_lookup cmp k es n h))

  -- at a node
  pub found_revised : (f : V → V) (k : K) (bs : List (Branch K V)) (n : ℕ) (m : List (K × V)) (b : Branch K V) → HasAt cmp k (separators bs) n → slice_get bs n ≡ Some b → Ascends cmp (spread bs m) → spread (slice_set bs n record { below = b.below; entry = (k, f b.entry.1) }) m ≡ revised_at cmp f k (spread bs m)
  found_revised f k bs n m b h p s = found_insert o (k, f b.entry.1) bs n m b h p s ∙ ap (revised_as cmp f k (spread bs m)) (sym (found_value o k bs n m b h p s))

  pub child_revised : (f : V → V) (k : K) (bs : List (Branch K V)) (n : ℕ) (m : List (K × V)) (b : Branch K V) → IsGap cmp k (separators bs) n → slice_get bs n ≡ Some b → Ascends cmp (spread bs m) → spread (slice_set bs n record { below = revised_at cmp f k b.below; entry = b.entry }) m ≡ revised_at cmp f k (spread bs m)
  child_revised f k bs n m b h p s = by (lookup cmp k b.below) refl
    where
      at_child : lookup cmp k (spread bs m) ≡ lookup cmp k b.below
      at_child = child_lookup o k bs n m b h p s

      same : slice_set bs n record { below = b.below; entry = b.entry } ≡ bs
      same = set_same bs n b p

      by : (v : Option V) → lookup cmp k b.below ≡ v → spread (slice_set bs n record { below = revised_at cmp f k b.below; entry = b.entry }) m ≡ revised_at cmp f k (spread bs m)
      by None e = rw e (rw (at_child ∙ e) (ap (λ z. spread z m) same))
      by (Some v) e = rw e (rw (at_child ∙ e) (child_insert o (k, f v) bs n m b h p s))

  pub last_revised : (f : V → V) (k : K) (bs : List (Branch K V)) (n : ℕ) (m : List (K × V)) → IsGap cmp k (separators bs) n → slice_get bs n ≡ None → Ascends cmp (spread bs m) → spread bs (revised_at cmp f k m) ≡ revised_at cmp f k (spread bs m)
  last_revised f k bs n m h p s = by (lookup cmp k m) refl
    where
      at_last : lookup cmp k (spread bs m) ≡ lookup cmp k m
      at_last = last_lookup o k bs n m h p s

      by : (v : Option V) → lookup cmp k m ≡ v → spread bs (revised_at cmp f k m) ≡ revised_at cmp f k (spread bs m)
      by None e = rw e (rw (at_last ∙ e) refl)
      by (Some v) e = rw e (rw (at_last ∙ e) (last_insert o (k, f v) bs n m h p s))
