-- Exchanges that bring each element to its rank.
use Rattle.std.proofs.Common.{◌≡◌, ◌≢◌, ℕ, zero, suc, ◌+◌, ◌<◌, ◌≤◌, true, false, ◌==◌, if◌then◌else◌, List, [], ◌∷◌, length, get_or, set, swap, get_or-set_other, length-set, refl, sym, ap, ◌∙◌, arith}
use Rattle.std.specs.List.{SwappedAt}
use Rattle.std.proofs.lemmas.Bool.Decides.{nat_tests}
use Rattle.std.proofs.lemmas.List.{same_lists}
use Rattle.std.proofs.lemmas.List.Edits.{swap_is}
use Rattle.tab_etf.specs.Keyed.{AreRanked}

-- each of these stands in the sorted list at its rank
abbrev pub IsRankedBy : {X : Type 0} → List X → List ℕ → List X → Type 0
IsRankedBy {X} sorted ranks xs = (k : ℕ) (d : X) → k < length xs → get_or sorted (get_or ranks k 0) d ≡ get_or xs k d

-- ---- how many stand in another place

abbrev bit : ℕ → ℕ → ℕ
bit r j = if r == j then 0 else 1

abbrev pub misplaced : ℕ → List ℕ → ℕ
misplaced j [] = 0
misplaced j (r ∷ rs) = bit r j + misplaced (suc j) rs

misplaced-set : (j : ℕ) (rs : List ℕ) (p v : ℕ) → p < length rs → misplaced j (set rs p v) + bit (get_or rs p 0) (j + p) ≡ misplaced j rs + bit v (j + p)
misplaced-set j [] p v h = absurd (omega arith)
misplaced-set j (r ∷ rs) zero v h = let e : j + 0 ≡ j = omega arith in rw e (omega arith)
misplaced-set j (r ∷ rs) (suc p) v h =
    let e : j + suc p ≡ suc j + p = omega arith in
    let others = misplaced-set (suc j) rs p v (omega arith) in
    rw e (omega (arith, others))

bit_same : (r j : ℕ) → r ≡ j → bit r j ≡ 0
bit_same r j e = grind (arith, nat_tests)

bit_other : (r j : ℕ) → r ≢ j → bit r j ≡ 1
bit_other r j n = grind (arith, nat_tests)

bit_small : (r j : ℕ) → bit r j ≤ 1
bit_small r j = grind (arith, nat_tests)

-- where the exchange of i and j takes its k-th element from
abbrev pub source : ℕ → ℕ → ℕ → ℕ
source i j k = if k == i then j else (if k == j then i else k)

pub source_once : (i j k l : ℕ) → source i j k ≡ source i j l → k ≡ l
source_once i j k l e = grind (arith, nat_tests)

pub source_below : (n i j k : ℕ) → i < n → j < n → k < n → source i j k < n
source_below n i j k a b c = grind (arith, nat_tests)

module _ {X : Type 0} (xs ys : List X) (i j : ℕ) (s : SwappedAt xs ys i j) where
  pub from_source : (k : ℕ) (d : X) → get_or ys k d ≡ get_or xs (source i j k) d
  from_source k d =
      elim (k == i) as (λ b. (k == i) ≡ b → get_or ys k d ≡ get_or xs (if b then j else (if k == j then i else k)) d) [
        | true ↦ λ e. let q : k ≡ i = grind (arith, nat_tests) in rw q (s.0 d)
        | false ↦ λ e. elim (k == j) as (λ b. (k == j) ≡ b → get_or ys k d ≡ get_or xs (if b then i else k) d) [
          | true ↦ λ f. let q : k ≡ j = grind (arith, nat_tests) in rw q (s.1 d)
          | false ↦ λ f. let p : k ≢ i = grind (arith, nat_tests) in let q : k ≢ j = grind (arith, nat_tests) in s.2 k d p q
        ] refl
      ] refl

module _ (rs ss : List ℕ) (i j : ℕ) (s : SwappedAt rs ss i j) (len : length ss ≡ length rs) (i_in : i < length rs) (j_in : j < length rs) where
  pub ranked_swap : AreRanked rs → AreRanked ss
  ranked_swap r = record {
    below = λ k h. rw (from_source rs ss i j s k 0, len) (r.below (source i j k) (source_below (length rs) i j k i_in j_in (omega arith)));
    distinct = λ k l h g e. source_once i j k l (r.distinct (source i j k) (source i j l) (source_below (length rs) i j k i_in j_in (omega arith)) (source_below (length rs) i j l i_in j_in (omega arith)) (sym (from_source rs ss i j s k 0) ∙ e ∙ from_source rs ss i j s l 0));
  }

  pub ranked_by_swap : {X : Type 0} (sorted xs ys : List X) → SwappedAt xs ys i j → length ys ≡ length xs → length xs ≡ length rs → IsRankedBy sorted rs xs → IsRankedBy sorted ss ys
  ranked_by_swap sorted xs ys t m n r k d h =
      rw (from_source rs ss i j s k 0, from_source xs ys i j t k d) (r (source i j k) d (rw n (source_below (length rs) i j k i_in j_in (omega arith))))

  pub still_placed : AreRanked rs → j ≡ get_or rs i 0 → j ≢ i → ((k : ℕ) → k < i → get_or rs k 0 ≡ k) → (k : ℕ) → k < i → get_or ss k 0 ≡ k
  still_placed r e n placed k h =
      let other : k ≢ j = λ q. absurd (let at : k ≡ i = r.distinct k i (omega arith) i_in (placed k h ∙ q ∙ e) in omega arith) in
      s.2 k 0 (λ q. omega arith) other ∙ placed k h

-- the j-th then stands at its rank, as it didn't before
pub fewer : (rs ss : List ℕ) (i j : ℕ) → ss ≡ swap rs i j → i < length rs → j < length rs → AreRanked rs → j ≡ get_or rs i 0 → j ≢ i → misplaced 0 ss < misplaced 0 rs
fewer rs ss i j s a b r e n =
    let here : get_or rs i 0 ≡ j = sym e in
    let there : get_or rs j 0 ≢ j = λ q. absurd (let back : j ≡ i = r.distinct j i b a (q ∙ e) in n back) in
    let half : List ℕ = set rs i (get_or rs j 0) in
    let first = misplaced-set 0 rs i (get_or rs j 0) a in
    let inside : j < length half = omega (arith, length-set rs i (get_or rs j 0)) in
    let second = misplaced-set 0 half j (get_or rs i 0) inside in
    let kept : get_or half j 0 ≡ get_or rs j 0 = get_or-set_other rs i j (get_or rs j 0) 0 n in
    let x : bit (get_or rs i 0) (0 + i) ≡ 1 = bit_other _ _ (λ q. n (e ∙ q ∙ omega arith)) in
    let y : bit (get_or half j 0) (0 + j) ≡ 1 = bit_other _ _ (λ q. there (sym kept ∙ q ∙ omega arith)) in
    let z : bit (get_or rs i 0) (0 + j) ≡ 0 = bit_same _ _ (here ∙ omega arith) in
    let w : bit (get_or rs j 0) (0 + i) ≤ 1 = bit_small _ _ in
    let all : ss ≡ set half j (get_or rs i 0) = s ∙ sym (swap_is rs i j 0 a b) in
    rw all (omega (arith, first, second, x, y, z, w))

pub all_placed : {X : Type 0} (sorted xs : List X) (ranks : List ℕ) → length sorted ≡ length xs → ((k : ℕ) → k < length xs → get_or ranks k 0 ≡ k) → IsRankedBy sorted ranks xs → xs ≡ sorted
all_placed sorted xs ranks len placed r = same_lists xs sorted (sym len) (λ k d h. let e = placed k h in sym (r k d h) ∙ ap (λ p. get_or sorted p d) e)
