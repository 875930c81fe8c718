-- What a binary search answers, as the place of a key.
use Rattle.std.proofs.Common.{◌≡◌, ℕ, zero, suc, ◌≤◌, ◌<◌, List, [], ◌∷◌, length, map, take, drop, get_or, sym, ap, ◌∙◌, refl, arith, Result, Ok, Err, IfOk, IfErr}
use Rattle.std.proofs.lemmas.List.{length-map, length-take-le, map-append, take-append-drop}
use Rattle.std.proofs.Math.Seq.{split_at}
use Rattle.std.specs.List.{HoldsAt, AllWithin}
use Rattle.std.specs.List.Sorted.{IsNonDecreasingBy, IsPartitionPoint, IsBinarySearchResult, IsSearchInRange}
use Rattle.std.specs.Ordering.{ordering_reverse, ordering_index}
use Rattle.std.specs.declared.cmp.Ordering.{Ordering}
use Rattle.std.specs.declared.cmp.Ordering.TheVariants.{Less, Equal, Greater}
use Rattle.std.specs.Cmp.{IsTotalOrder}
use Rattle.tab_map.specs.Entries.{AllAbove, Ascends}
use Rattle.tab_map.specs.Places.{IsPast, IsBelow, HasAt, IsGap}

from_less : (o : Ordering) → ordering_reverse o ≡ Less → o ≡ Greater
from_less Less p = absurd (cc)
from_less Equal p = absurd (cc)
from_less Greater p = refl

from_equal : (o : Ordering) → ordering_reverse o ≡ Equal → o ≡ Equal
from_equal Less p = absurd (cc)
from_equal Equal p = refl
from_equal Greater p = absurd (cc)

from_greater : (o : Ordering) → ordering_reverse o ≡ Greater → o ≡ Less
from_greater Less p = refl
from_greater Equal p = absurd (cc)
from_greater Greater p = absurd (cc)

-- things that have an entry each, as a branch has
module _ {X K V : Type 0} (cmp : K → K → Ordering) (entry : X → K × V) (k : K) where
  found_is : (xs : List X) (n : ℕ) → HoldsAt (λ x. ordering_reverse (cmp k (entry x).0) ≡ Equal) xs n → n < length xs → HasAt cmp k (map entry xs) n
  found_is [] n h l = absurd (omega (arith, l))
  found_is (x ∷ xs) n h l = record {
    before = map entry (take n (x ∷ xs));
    entry = entry (get_or (x ∷ xs) n x);
    after = map entry (drop (suc n) (x ∷ xs));
    is = ap (map entry) (split_at (x ∷ xs) n x l) ∙ map-append entry (take n (x ∷ xs)) (get_or (x ∷ xs) n x ∷ drop (suc n) (x ∷ xs));
    count = length-map (take n (x ∷ xs)) entry ∙ length-take-le n (x ∷ xs) (omega (arith, l));
    equal = from_equal (cmp k (entry (get_or (x ∷ xs) n x)).0) (h x);
  }

  pub answer_found : (xs : List X) (r : Result ℕ ℕ) → IsBinarySearchResult (λ x. ordering_reverse (cmp k (entry x).0)) xs r → IsSearchInRange r (length xs) → IfOk r (λ n. HasAt cmp k (map entry xs) n)
  answer_found xs (Ok n) h l = found_is xs n h l
  answer_found xs (Err n) h l = tt

  past_within : (xs : List X) (n : ℕ) → AllWithin (λ x. ordering_reverse (cmp k (entry x).0) ≡ Less) xs 0 n → n ≤ length xs → IsPast cmp k (map entry (take n xs))
  past_within xs zero h l = tt
  past_within [] (suc n) h l = absurd (omega (arith, l))
  past_within (x ∷ xs) (suc n) h l = (from_less (cmp k (entry x).0) (h 0 x (omega arith) (omega arith)), past_within xs n (λ i d p q. h (suc i) d (omega (arith, p)) (omega (arith, q))) (omega (arith, l)))

  below_within : (xs : List X) (n : ℕ) → AllWithin (λ x. ordering_reverse (cmp k (entry x).0) ≡ Greater) xs n (length xs) → IsBelow cmp k (map entry (drop n xs))
  below_within [] zero h = tt
  below_within [] (suc n) h = tt
  below_within (x ∷ xs) zero h = from_greater (cmp k (entry x).0) (h 0 x (omega arith) (omega arith))
  below_within (x ∷ xs) (suc n) h = below_within xs n (λ i d p q. h (suc i) d (omega (arith, p)) (omega (arith, q)))

  above_at : (q : K) (xs : List X) (n : ℕ) (d : X) → AllAbove cmp q (map entry xs) → n < length xs → cmp q (entry (get_or xs n d)).0 ≡ Less
  above_at q [] n d a l = absurd (omega (arith, l))
  above_at q (x ∷ xs) zero d a l = a.0
  above_at q (x ∷ xs) (suc n) d a l = above_at q xs n d a.1 (omega (arith, l))

module _ {X K V : Type 0} {cmp : K → K → Ordering} (o : IsTotalOrder cmp) (entry : X → K × V) (k : K) where
  rank : (x y : K) → cmp x y ≡ Less → ordering_index (ordering_reverse (cmp k x)) ≤ ordering_index (ordering_reverse (cmp k y))
  rank x y p =
      elim (cmp k x) as (λ d. cmp k x ≡ d → ordering_index (ordering_reverse d) ≤ ordering_index (ordering_reverse (cmp k y))) [
        | Less ↦ λ h. rw (o.trans k x y h p) (omega arith)
        | Equal ↦ λ h. rw (o.congr k x y h ∙ p) (omega arith)
        | Greater ↦ λ h. omega arith
      ] refl

  rises : (xs : List X) → Ascends cmp (map entry xs) → IsNonDecreasingBy (λ x. ordering_index (ordering_reverse (cmp k (entry x).0))) xs
  rises [] s i j d p q = absurd (omega (arith, q))
  rises (x ∷ xs) s zero zero d p q = omega arith
  rises (x ∷ xs) s zero (suc j) d p q = rank (entry x).0 (entry (get_or xs j d)).0 (above_at cmp entry k (entry x).0 xs j d s.0 (omega (arith, q)))
  rises (x ∷ xs) s (suc i) zero d p q = absurd (omega (arith, p))
  rises (x ∷ xs) s (suc i) (suc j) d p q = rises xs s.1 i j d (omega (arith, p)) (omega (arith, q))

  gap_is : (xs : List X) (n : ℕ)
      → (IsNonDecreasingBy (λ x. ordering_index (ordering_reverse (cmp k (entry x).0))) xs → IsPartitionPoint (λ x. ordering_reverse (cmp k (entry x).0) ≡ Less) (λ x. ordering_reverse (cmp k (entry x).0) ≡ Greater) xs n)
      → n ≤ length xs → Ascends cmp (map entry xs) → IsGap cmp k (map entry xs) n
  gap_is xs n h l s =
      let parts = h (rises xs s) in
      record {
        before = map entry (take n xs);
        after = map entry (drop n xs);
        is = ap (map entry) (sym (take-append-drop n xs)) ∙ map-append entry (take n xs) (drop n xs);
        count = length-map (take n xs) entry ∙ length-take-le n xs l;
        past = past_within cmp entry k xs n parts.0 l;
        below = below_within cmp entry k xs n parts.1;
      }

  pub answer_gap : (xs : List X) (r : Result ℕ ℕ) → IsBinarySearchResult (λ x. ordering_reverse (cmp k (entry x).0)) xs r → IsSearchInRange r (length xs) → IfErr r (λ n. Ascends cmp (map entry xs) → IsGap cmp k (map entry xs) n)
  answer_gap xs (Ok n) h l = tt
  answer_gap xs (Err n) h l = gap_is xs n h l
