-- The number that stands for a term among the keys of a container.
use Rattle.std.proofs.Common.{◌≡◌, ℕ, ◌+◌, ◌-◌, ◌*◌, ◌^◌, ◌<◌, ◌≤◌, Bool, true, false, nat_lt, if◌then◌else◌, List, ◌∷◌, length, min, refl, ap, ◌∙◌, Ordering, Less, Equal, Greater, nat_cmp, arith}
use Rattle.std.specs.Prelude.{ℤ, unsigned_abs}
use Rattle.std.specs.Ordering.{ordering_then, MatchOrdering}
use Rattle.std.proofs.lemmas.Bool.{ltb-true, ltb-false}
use Rattle.std.proofs.lemmas.Cmp.{ranked}
use Rattle.std.specs.Int.{w32, cast_unsigned}
use Rattle.tab_term.specs.Data.{PlainTerm, int, atom, tuple, list, bin, map, count, pair_count}
use Rattle.tab_term.specs.Canon.{canon, tag, int_tag, int_contents, is_byte, fits_four, sign_of, magnitude}
use Rattle.tab_term.specs.Order.{bytes_cmp, order, contents_order, members_order, pairs_order}
use Rattle.tab_key.specs.Heads.{head, head_below, head_less}
use Rattle.tab_term.specs.Numbers.{less_is, tie_is}
use Rattle.tab_term.specs.Compare.{apart, int_tag_at}
use Rattle.tab_term.specs.OrderLaws.{order_is, at_one_tag, bytes_at, fours_at, bigs_at}

-- how long a text is, and its first five bytes
abbrev pub text_weight : ℕ → List ℕ → ℕ
text_weight n bs = n * 256 ^ 5 + head 5 bs

-- an integer by whether a byte, or four, hold it: else its digits, the lowest first, as they are spelled
abbrev pub weight_at : Bool → Bool → ℤ → ℕ
weight_at p q z =
    if p then unsigned_abs z
    else (if q then cast_unsigned w32 z
    else text_weight (length (magnitude (unsigned_abs z))) (sign_of z ∷ magnitude (unsigned_abs z)))

-- of two terms with one tag, the one with the lesser weight is the lesser
abbrev pub weight : PlainTerm → ℕ
weight (int z) = weight_at (is_byte z) (fits_four z) z
weight (atom s) = text_weight (length s) s
weight (tuple ts) = count ts
weight (list ts) = count ts
weight (bin b) = text_weight (length b) b
weight (map ps) = pair_count ps

-- the tag, and the weight as far as 48 bits hold it
abbrev pub number : PlainTerm → ℕ
number t = tag t * 2 ^ 48 + min (weight t) (2 ^ 48 - 1)

text_less : (n m : ℕ) (xs ys : List ℕ) → text_weight n xs < text_weight m ys → ordering_then (nat_cmp n m) (bytes_cmp xs ys) ≡ Less
text_less n m xs ys h = by (nat_cmp n m) (ranked n m (nat_cmp n m) refl)
  where
    by : (o : Ordering) → MatchOrdering o (n < m) (n ≡ m) (m < n) → ordering_then (nat_cmp n m) (bytes_cmp xs ys) ≡ Less
    by Less r = ap (λ o. ordering_then o (bytes_cmp xs ys)) (less_is n m r)
    by Equal r = ap (λ o. ordering_then o (bytes_cmp xs ys)) (tie_is n m r) ∙ head_less 5 xs ys (omega (arith, h, r))
    by Greater r = absurd (omega (arith, h, r, head_below 5 ys))

int_less : (x y : ℤ) → int_tag x ≡ int_tag y → weight (int x) < weight (int y) → bytes_cmp (int_contents x) (int_contents y) ≡ Less
int_less x y e h = by (is_byte x) (fits_four x) (is_byte y) (fits_four y) refl refl e h
  where
    by : (p q r s : Bool) → is_byte x ≡ p → fits_four x ≡ q → int_tag_at p q ≡ int_tag_at r s → weight_at p q x < weight_at r s y → bytes_cmp (int_contents x) (int_contents y) ≡ Less
    by true _ true _ hp hq t h = bytes_at x y hp e ∙ less_is (unsigned_abs x) (unsigned_abs y) h
    by true _ false true hp hq t h = absurd (omega arith)
    by true _ false false hp hq t h = absurd (omega arith)
    by false true true _ hp hq t h = absurd (omega arith)
    by false true false true hp hq t h = fours_at x y hp hq e ∙ less_is (cast_unsigned w32 x) (cast_unsigned w32 y) h
    by false true false false hp hq t h = absurd (omega arith)
    by false false true _ hp hq t h = absurd (omega arith)
    by false false false true hp hq t h = absurd (omega arith)
    by false false false false hp hq t h =
        bigs_at x y hp hq e
        ∙ text_less (length (magnitude (unsigned_abs x))) (length (magnitude (unsigned_abs y))) (sign_of x ∷ magnitude (unsigned_abs x)) (sign_of y ∷ magnitude (unsigned_abs y)) h

first_less : (n m : ℕ) (o : Ordering) → n < m → ordering_then (nat_cmp n m) o ≡ Less
first_less n m o h = ap (λ c. ordering_then c o) (less_is n m h)

contents_less : (a b : PlainTerm) → tag a ≡ tag b → weight a < weight b → contents_order a b ≡ Less
contents_less (int x) (int y) e h = int_less x y e h
contents_less (atom s) (atom t) e h = text_less (length s) (length t) s t h
contents_less (tuple xs) (tuple ys) e h = first_less (count xs) (count ys) (members_order xs ys) h
contents_less (list xs) (list ys) e h = first_less (count xs) (count ys) (members_order xs ys) h
contents_less (bin s) (bin t) e h = text_less (length s) (length t) s t h
contents_less (map ps) (map qs) e h = first_less (pair_count ps) (pair_count qs) (pairs_order ps qs) h
contents_less a b e h = absurd (apart a b e (λ k. omega (arith, k)))

within : (n : ℕ) → min n (2 ^ 48 - 1) ≤ 2 ^ 48 - 1
within n = grind arith

heavier : (n m : ℕ) → min n (2 ^ 48 - 1) < min m (2 ^ 48 - 1) → n < m
heavier n m h = grind arith

order_less : (a b : PlainTerm) → number a < number b → order a b ≡ Less
order_less a b h = by (nat_lt (tag a) (tag b)) (nat_lt (tag b) (tag a)) refl refl
  where
    by : (p q : Bool) → nat_lt (tag a) (tag b) ≡ p → nat_lt (tag b) (tag a) ≡ q → order a b ≡ Less
    by true _ hp hq = first_less (tag a) (tag b) (contents_order a b) (ltb-true (tag a) (tag b) hp)
    by false true hp hq = absurd (omega (arith, h, ltb-true (tag b) (tag a) hq, within (weight b)))
    by false false hp hq =
        let e : tag a ≡ tag b = omega (arith, ltb-false (tag a) (tag b) hp, ltb-false (tag b) (tag a) hq) in
        at_one_tag a b e ∙ contents_less a b e (heavier (weight a) (weight b) (omega (arith, h, e)))

-- so the numbers agree with the order
pub spelled_less : (a b : PlainTerm) → number a < number b → bytes_cmp (canon a) (canon b) ≡ Less
spelled_less a b h = order_is a b ∙ order_less a b h
