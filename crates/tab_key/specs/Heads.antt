-- The first bytes of a text as a number.
use Rattle.std.proofs.Common.{◌≡◌, ℕ, zero, suc, ◌+◌, ◌-◌, ◌*◌, ◌^◌, ◌<◌, ◌≤◌, Bool, true, false, nat_lt, if◌then◌else◌, List, [], ◌∷◌, refl, sym, ap, ◌∙◌, Ordering, Less, Equal, Greater, nat_cmp, arith}
use Rattle.std.specs.Ordering.{ordering_then, MatchOrdering}
use Rattle.std.specs.Cmp.{nat_cmp_is}
use Rattle.std.specs.Cmp.Lexicographic.{slice_cmp}
use Rattle.std.proofs.lemmas.Bool.{ltb-true, ltb-false}
use Rattle.std.proofs.lemmas.Cmp.{ranked}
use Rattle.std.proofs.Math.Nat.{mul-le-mul_left}

-- the number of the first k bytes, the highest first. A byte of 255, and what is above a byte, stand with all that
-- follow for the greatest number there is, so lists that first differ after it tie
abbrev pub head : ℕ → List ℕ → ℕ
head zero bs = 0
head (suc k) [] = 0
head (suc k) (b ∷ bs) = if nat_lt b 255 then b * 256 ^ k + head k bs else 256 ^ suc k - 1

-- of two numbers of two digits in base p the one with the lesser first digit is the lesser
pub two_less : (p a b r s : ℕ) → r < p → a < b → a * p + r < b * p + s
two_less p a b r s hr h = let e : p * suc a ≤ p * b = mul-le-mul_left p h in omega (arith, e)

-- a power of 256 is above 0
pub power_above : (k : ℕ) → 0 < 256 ^ k
power_above zero = omega arith
power_above (suc k) = omega (arith, power_above k)

head_of_byte : (p : Bool) (k b : ℕ) (bs : List ℕ) → nat_lt b 255 ≡ p → head k bs < 256 ^ k → (if p then b * 256 ^ k + head k bs else 256 ^ suc k - 1) < 256 ^ suc k
head_of_byte true k b bs hp h = omega (arith, two_less (256 ^ k) b 255 (head k bs) 0 h (ltb-true b 255 hp))
head_of_byte false k b bs hp h = omega (arith, power_above k)

-- the number of the first k bytes is below 256 ^ k, whatever they are
pub head_below : (k : ℕ) (bs : List ℕ) → head k bs < 256 ^ k
head_below zero bs = omega arith
head_below (suc k) [] = power_above (suc k)
head_below (suc k) (b ∷ bs) = head_of_byte (nat_lt b 255) k b bs refl (head_below k bs)

-- of two texts the one with the lesser number is the lesser, byte by byte
pub head_less : (k : ℕ) (xs ys : List ℕ) → head k xs < head k ys → slice_cmp nat_cmp xs ys ≡ Less
head_less zero xs ys h = absurd (omega (arith, h))
head_less (suc k) [] [] h = absurd (omega (arith, h))
head_less (suc k) [] (y ∷ ys) h = refl
head_less (suc k) (x ∷ xs) [] h = absurd (omega (arith, h))
head_less (suc k) (x ∷ xs) (y ∷ ys) h = by (nat_lt x 255) (nat_lt y 255) refl refl (head_less k xs ys) h
  where
    at : (o : Ordering) → (head k xs < head k ys → slice_cmp nat_cmp xs ys ≡ Less) → MatchOrdering o (x < y) (x ≡ y) (y < x) → x * 256 ^ k + head k xs < y * 256 ^ k + head k ys → ordering_then (nat_cmp x y) (slice_cmp nat_cmp xs ys) ≡ Less
    at Less f r h = ap (λ o. ordering_then o (slice_cmp nat_cmp xs ys)) (sym (nat_cmp_is x y Less r))
    at Equal f r h = ap (λ o. ordering_then o (slice_cmp nat_cmp xs ys)) (sym (nat_cmp_is x y Equal r)) ∙ f (omega (arith, h, ap (λ n. n * 256 ^ k) r))
    at Greater f r h = absurd (omega (arith, h, two_less (256 ^ k) y x (head k ys) (head k xs) (head_below k ys) r))

    by : (p q : Bool) → nat_lt x 255 ≡ p → nat_lt y 255 ≡ q → (head k xs < head k ys → slice_cmp nat_cmp xs ys ≡ Less) → (if p then x * 256 ^ k + head k xs else 256 ^ suc k - 1) < (if q then y * 256 ^ k + head k ys else 256 ^ suc k - 1) → ordering_then (nat_cmp x y) (slice_cmp nat_cmp xs ys) ≡ Less
    by true true hp hq f h = at (nat_cmp x y) f (ranked x y (nat_cmp x y) refl) h
    by true false hp hq f h = ap (λ o. ordering_then o (slice_cmp nat_cmp xs ys)) (sym (nat_cmp_is x y Less (omega (arith, ltb-true x 255 hp, ltb-false y 255 hq))))
    by false true hp hq f h = absurd (omega (arith, h, head_of_byte true k y ys hq (head_below k ys)))
    by false false hp hq f h = absurd (omega (arith, h))
