-- The powers of 256 that the bytes of a number stand at.
use Rattle.std.proofs.Common.{◌≡◌, ℕ, zero, suc, ◌+◌, ◌-◌, ◌*◌, ◌/◌, ◌^◌, ◌<◌, ◌≤◌, List, [], ◌∷◌, length, get_or, drop, min, inl, inr, refl, ap, ◌∙◌, arith}
use Rattle.std.proofs.lemmas.Bool.{lt-ltb, cases_lt}
use Rattle.std.proofs.lemmas.List.{at_drop_more, at_drop_all}
use Rattle.tab_key.specs.Heads.{head, power_above}

pub some_room : (k p : ℕ) → p ≡ 256 ^ k → 0 < p
some_room k p e = omega (arith, e, power_above k)

next_room : (j k p : ℕ) → j ≡ suc k → p ≡ 256 ^ j → p / 256 ≡ 256 ^ k
next_room j k p more e =
    let room : 256 ^ suc k / 256 ≡ 256 ^ k = omega arith in
    ap (λ x. x / 256) e ∙ ap (λ j. 256 ^ j / 256) more ∙ room

pub next_place : (k i p : ℕ) → i < k → p ≡ 256 ^ (k - i) → p / 256 ≡ 256 ^ (k - (i + 1))
next_place k i p h e = next_room (k - i) (k - (i + 1)) p (omega (arith, h)) e

by_first : (k i : ℕ) (bs : List ℕ) → i < k → i < length bs → head (k - i) (drop i bs) ≡ head (suc (k - (i + 1))) (get_or bs i 0 ∷ drop (i + 1) bs)
by_first k i bs h l =
    let more : k - i ≡ suc (k - (i + 1)) = omega (arith, h) in
    ap (λ j. head j (drop i bs)) more ∙ at_drop_more (λ ds. head (suc (k - (i + 1))) ds) bs i 0 l

-- what stands from a byte of 255 on
pub greatest : (k i : ℕ) (bs : List ℕ) → i < k → i < length bs → get_or bs i 0 ≡ 255 → head (k - i) (drop i bs) ≡ 256 ^ (k - i) - 1
greatest k i bs h l e =
    let more : suc (k - (i + 1)) ≡ k - i = omega (arith, h) in
    by_first k i bs h l ∙ ap (λ b. head (suc (k - (i + 1))) (b ∷ drop (i + 1) bs)) e ∙ ap (λ j. 256 ^ j - 1) more

-- what stands from another byte on
pub next_byte : (k i : ℕ) (bs : List ℕ) → i < k → i < length bs → get_or bs i 0 < 255 → head (k - i) (drop i bs) ≡ get_or bs i 0 * 256 ^ (k - (i + 1)) + head (k - (i + 1)) (drop (i + 1) bs)
next_byte k i bs h l below = by_first k i bs h l ∙ rw (lt-ltb (get_or bs i 0) 255 below) refl

nothing : (k : ℕ) → head k [] ≡ 0
nothing zero = refl
nothing (suc k) = refl

-- what stands behind all that is taken
pub nothing_left : (k n i : ℕ) (bs : List ℕ) → n ≡ min (length bs) k → n ≤ i → head (k - i) (drop i bs) ≡ 0
nothing_left k n i bs e past =
    elim (cases_lt (length bs) k) [
      | inl short ↦ at_drop_all (λ ds. head (k - i) ds) bs i (omega (arith, e, past, short)) ∙ nothing (k - i)
      | inr long ↦ let done : k - i ≡ 0 = omega (arith, e, past, long) in ap (λ j. head j (drop i bs)) done
    ]
