-- Terms that compare equal are one term, and no spelling begins another.
use Rattle.std.proofs.Common.{◌≡◌, ◌≢◌, ℕ, ◌+◌, ◌*◌, ◌^◌, ◌%◌, ◌<◌, ◌≤◌, Bool, true, false, nat_lt, ◌==◌, if◌then◌else◌, List, [], ◌∷◌, ◌++◌, length, refl, sym, ap, ap₂, ◌∙◌, Ordering, Less, Equal, Greater, nat_cmp, arith}
use Rattle.std.specs.Prelude.{ℤ, pos, negsuc, unsigned_abs}
use Rattle.std.specs.Ordering.{ordering_then, is_eq}
use Rattle.std.proofs.lemmas.Bool.{ltb-true, ltb-false}
use Rattle.std.proofs.lemmas.Bool.Decides.{same_from_decides}
use Rattle.tab_term.specs.Same.{same, same-Decides}
use Rattle.std.specs.Str.{bytes_eq}
use Rattle.std.proofs.lemmas.Slice.Eq.{bytes_eq-Decides}
use Rattle.std.specs.Cmp.Lexicographic.{slice_cmp}
use Rattle.std.specs.Int.{w32, w128, to_be_bytes, to_le_bytes, cast_unsigned, cast_signed}
use Rattle.std.specs.Int.RustNames.{FitsSigned}
use Rattle.std.proofs.Math.Facts.{to_z-of_z}
use Rattle.std.proofs.Math.Nat.{mod-eq_of_lt, div-one}
use Rattle.std.proofs.lemmas.List.{append-nil}
use Rattle.std.proofs.lemmas.Int.{fits_signed_from_abs}
use Rattle.std.specs.Ordering.{on}
use Rattle.std.specs.Cmp.{IsTotalOrder}
use Rattle.std.proofs.lemmas.Cmp.{tied_itself, nat_list_cmp_total, on_total}
use Rattle.tab_term.specs.Data.{PlainTerm, int, atom, tuple, list, bin, map, PlainTerms, none, one_more, PlainPairs, no_pair, one_pair, count, pair_count}
use Rattle.tab_term.specs.Canon.{canon, tag, int_tag, int_contents, magnitude, significant, before_zeros, is_byte, fits_four, sign_of}
use Rattle.tab_term.specs.Order.{order, by_tag, contents_order, members_order, pairs_order, bytes_cmp}
use Rattle.tab_term.specs.Numbers.{then_both, equal_is, lists_are, high_cmp, low_value, low_is, then_equal, tie_is, less_is, greater_is}
use Rattle.tab_term.specs.Compare.{canon_cmp, apart, int_at, int_tag_at}

-- ---- integers

before_value : (n : ℕ) (bs : List ℕ) → low_value (before_zeros n bs) ≡ n + 256 * low_value bs
before_value n [] = by (n == 0) refl
  where
    by : (p : Bool) → (n == 0) ≡ p → low_value (if p then [] else n ∷ []) ≡ n + 256 * 0
    by true e = grind arith
    by false e = refl
before_value n (b ∷ bs) = refl

significant_value : (ns : List ℕ) → low_value (significant ns) ≡ low_value ns
unfolding significant
significant_value [] = refl
significant_value (n ∷ ns) = before_value n (significant ns) ∙ ap (λ x. n + 256 * x) (significant_value ns)

magnitude_by : (p : Bool) (n : ℕ) → nat_lt n (2 ^ 128) ≡ p → low_value (if p then significant (to_le_bytes w128 n) else n ∷ []) ≡ n
magnitude_by true n h = significant_value (to_le_bytes w128 n) ∙ low_is 0 16 n ∙ ap (λ x. x % 256 ^ 16) (div-one n) ∙ mod-eq_of_lt (omega (arith, ltb-true n (2 ^ 128) h))
magnitude_by false n h = omega arith

magnitude_value : (n : ℕ) → low_value (magnitude n) ≡ n
unfolding magnitude
magnitude_value n = magnitude_by (nat_lt n (2 ^ 128)) n refl

abs_sign : (x y : ℤ) → unsigned_abs x ≡ unsigned_abs y → sign_of x ≡ sign_of y → x ≡ y
abs_sign (pos n) (pos m) e s = ap pos e
abs_sign (pos n) (negsuc m) e s = absurd (omega arith)
abs_sign (negsuc n) (pos m) e s = absurd (omega arith)
abs_sign (negsuc n) (negsuc m) e s = ap negsuc (omega arith)

byte_sign : (x : ℤ) → is_byte x ≡ true → sign_of x ≡ 0
byte_sign (pos n) h = refl
byte_sign (negsuc n) h = absurd cc

fits_32 : (x : ℤ) → fits_four x ≡ true → FitsSigned w32 x
fits_32 (pos n) h = fits_signed_from_abs w32 (pos n) (ltb-true n (2 ^ 31) h)
fits_32 (negsuc n) h = omega (arith, ltb-true n (2 ^ 31) h)

four_same : (x y : ℤ) → FitsSigned w32 x → FitsSigned w32 y → cast_unsigned w32 x ≡ cast_unsigned w32 y → x ≡ y
four_same x y hx hy e = sym (to_z-of_z {w = w32} hx) ∙ ap (cast_signed w32) e ∙ to_z-of_z {w = w32} hy

below : (z : ℤ) → fits_four z ≡ true → cast_unsigned w32 z < 256 ^ 4
below (pos n) h = omega (arith, ltb-true n (2 ^ 31) h)
below (negsuc n) h = omega arith

four_cmp : (x y : ℤ) → fits_four x ≡ true → fits_four y ≡ true → bytes_cmp (to_be_bytes w32 (cast_unsigned w32 x)) (to_be_bytes w32 (cast_unsigned w32 y)) ≡ nat_cmp (cast_unsigned w32 x) (cast_unsigned w32 y)
four_cmp x y hx hy = high_cmp 4 (cast_unsigned w32 x) (cast_unsigned w32 y) [] [] (below x hx) (below y hy) ∙ then_equal (nat_cmp (cast_unsigned w32 x) (cast_unsigned w32 y))

int_by : (p q r s : Bool) (x y : ℤ) → is_byte x ≡ p → fits_four x ≡ q → is_byte y ≡ r → fits_four y ≡ s → int_tag_at p q ≡ int_tag_at r s → bytes_cmp (int_at p q x) (int_at r s y) ≡ Equal → x ≡ y
int_by true _ true _ x y hp hq hr hs e c = abs_sign x y (equal_is (unsigned_abs x) (unsigned_abs y) (then_both (nat_cmp (unsigned_abs x) (unsigned_abs y)) Equal c).0) (byte_sign x hp ∙ sym (byte_sign y hr))
int_by true _ false true x y hp hq hr hs e c = absurd (omega arith)
int_by true _ false false x y hp hq hr hs e c = absurd (omega arith)
int_by false true true _ x y hp hq hr hs e c = absurd (omega arith)
int_by false false true _ x y hp hq hr hs e c = absurd (omega arith)
int_by false true false true x y hp hq hr hs e c = four_same x y (fits_32 x hq) (fits_32 y hs) (equal_is (cast_unsigned w32 x) (cast_unsigned w32 y) (sym (then_equal (nat_cmp (cast_unsigned w32 x) (cast_unsigned w32 y))) ∙ sym (high_cmp 4 (cast_unsigned w32 x) (cast_unsigned w32 y) [] [] (below x hq) (below y hs)) ∙ c))
int_by false true false false x y hp hq hr hs e c = absurd (omega arith)
int_by false false false true x y hp hq hr hs e c = absurd (omega arith)
int_by false false false false x y hp hq hr hs e c =
    let a : List ℕ = magnitude (unsigned_abs x) in
    let b : List ℕ = magnitude (unsigned_abs y) in
    let p = then_both (nat_cmp (length a) (length b)) (ordering_then (nat_cmp (sign_of x) (sign_of y)) (bytes_cmp a b)) c in
    let q = then_both (nat_cmp (sign_of x) (sign_of y)) (bytes_cmp a b) p.1 in
    abs_sign x y (sym (magnitude_value (unsigned_abs x)) ∙ ap low_value (lists_are a b q.1) ∙ magnitude_value (unsigned_abs y)) (equal_is (sign_of x) (sign_of y) q.0)

int_same : (x y : ℤ) → int_tag x ≡ int_tag y → bytes_cmp (int_contents x) (int_contents y) ≡ Equal → x ≡ y
unfolding int_contents
int_same x y e c = int_by (is_byte x) (fits_four x) (is_byte y) (fits_four y) x y refl refl refl refl e c

-- ---- all terms

tags_same : (a b : PlainTerm) (o : Ordering) → by_tag a b o ≡ Equal → (tag a ≡ tag b) × (o ≡ Equal)
tags_same a b o e = let p = then_both (nat_cmp (tag a) (tag b)) o e in (equal_is (tag a) (tag b) p.0, p.1)

pair_is : (k l x y : PlainTerm) (ps qs : PlainPairs) → k ≡ l → x ≡ y → ps ≡ qs → one_pair k x ps ≡ one_pair l y qs
pair_is k l x y ps qs a b c = cc

mutual
  contents_order_same : (a b : PlainTerm) → tag a ≡ tag b → contents_order a b ≡ Equal → a ≡ b
  contents_order_same (int x) (int y) t e = ap int (int_same x y t e)
  contents_order_same (atom x) (atom y) t e = ap atom (lists_are x y (then_both (nat_cmp (length x) (length y)) (bytes_cmp x y) e).1)
  contents_order_same (tuple xs) (tuple ys) t e = ap tuple (members_order_same xs ys (then_both (nat_cmp (count xs) (count ys)) (members_order xs ys) e).1)
  contents_order_same (list xs) (list ys) t e = ap list (members_order_same xs ys (then_both (nat_cmp (count xs) (count ys)) (members_order xs ys) e).1)
  contents_order_same (bin x) (bin y) t e = ap bin (lists_are x y (then_both (nat_cmp (length x) (length y)) (bytes_cmp x y) e).1)
  contents_order_same (map ps) (map qs) t e = ap map (pairs_order_same ps qs (then_both (nat_cmp (pair_count ps) (pair_count qs)) (pairs_order ps qs) e).1)
  contents_order_same a b t e = absurd (apart a b t (λ h. omega (arith, h)))

  members_order_same : (xs ys : PlainTerms) → members_order xs ys ≡ Equal → xs ≡ ys
  members_order_same none none e = refl
  members_order_same none (one_more y ys) e = absurd cc
  members_order_same (one_more x xs) none e = absurd cc
  members_order_same (one_more x xs) (one_more y ys) e =
      let p = then_both (by_tag x y (contents_order x y)) (members_order xs ys) e in
      let t = tags_same x y (contents_order x y) p.0 in
      ap₂ one_more (contents_order_same x y t.0 t.1) (members_order_same xs ys p.1)

  pairs_order_same : (ps qs : PlainPairs) → pairs_order ps qs ≡ Equal → ps ≡ qs
  pairs_order_same no_pair no_pair e = refl
  pairs_order_same no_pair (one_pair l y qs) e = absurd cc
  pairs_order_same (one_pair k x ps) no_pair e = absurd cc
  pairs_order_same (one_pair k x ps) (one_pair l y qs) e =
      let p = then_both (ordering_then (by_tag k l (contents_order k l)) (by_tag x y (contents_order x y))) (pairs_order ps qs) e in
      let q = then_both (by_tag k l (contents_order k l)) (by_tag x y (contents_order x y)) p.0 in
      let s = tags_same k l (contents_order k l) q.0 in
      let t = tags_same x y (contents_order x y) q.1 in
      pair_is k l x y ps qs (contents_order_same k l s.0 s.1) (contents_order_same x y t.0 t.1) (pairs_order_same ps qs p.1)

-- terms that tie are one
pub order_same : (a b : PlainTerm) → order a b ≡ Equal → a ≡ b
order_same a b e = let t = tags_same a b (contents_order a b) e in contents_order_same a b t.0 t.1

-- ---- the laws

itself : (a : List ℕ) → bytes_cmp a a ≡ Equal
itself a = tied_itself nat_list_cmp_total a

-- where spellings with what follows them are one, the terms are one, and so is what follows
pub canon_apart : (a b : PlainTerm) (u v : List ℕ) → canon a ++ u ≡ canon b ++ v → (a ≡ b) × (u ≡ v)
canon_apart a b u v e =
    let c : ordering_then (order a b) (bytes_cmp u v) ≡ Equal = sym (canon_cmp a b u v) ∙ ap (λ x. bytes_cmp x (canon b ++ v)) e ∙ itself (canon b ++ v) in
    let p = then_both (order a b) (bytes_cmp u v) c in
    (order_same a b p.0, lists_are u v p.1)

-- the order of canonical spellings is that of the terms
pub order_is : (a b : PlainTerm) → bytes_cmp (canon a) (canon b) ≡ order a b
order_is a b = ap₂ bytes_cmp (sym (append-nil (canon a))) (sym (append-nil (canon b))) ∙ canon_cmp a b [] [] ∙ then_equal (order a b)

-- terms whose canonical spellings tie are one
pub canon_same : (a b : PlainTerm) → bytes_cmp (canon a) (canon b) ≡ Equal → a ≡ b
canon_same a b e = order_same a b (sym (order_is a b) ∙ e)

-- the order of terms by their canonical spellings is total
pub canon_total : IsTotalOrder (on canon (slice_cmp nat_cmp))
canon_total = on_total canon nat_list_cmp_total

-- what the comparison does first
pub at_one_tag : (a b : PlainTerm) → tag a ≡ tag b → order a b ≡ contents_order a b
at_one_tag a b e = ap (λ o. ordering_then o (contents_order a b)) (tie_is (tag a) (tag b) e)

-- terms of different tags compare as the tags do
pub at_two_tags : (a b : PlainTerm) → tag a ≢ tag b → order a b ≡ nat_cmp (tag a) (tag b)
at_two_tags a b n = by (nat_cmp (tag a) (tag b)) (λ e. n (equal_is (tag a) (tag b) e))
  where
    by : (o : Ordering) → o ≢ Equal → ordering_then o (contents_order a b) ≡ o
    by Less n = refl
    by Equal n = absurd (n refl)
    by Greater n = refl

is_tie : (o : Ordering) → is_eq o ≡ true → o ≡ Equal
is_tie Less e = absurd cc
is_tie Equal e = refl
is_tie Greater e = absurd cc

-- terms are equal exactly where their canonical spellings tie
pub matches_same : (a b : PlainTerm) → same a b ≡ is_eq (bytes_cmp (canon a) (canon b))
matches_same a b = same_from_decides (same a b) (is_eq (bytes_cmp (canon a) (canon b))) (same-Decides a b) (λ e. canon_same a b (is_tie (bytes_cmp (canon a) (canon b)) e), λ e. ap (λ t. is_eq (bytes_cmp (canon t) (canon b))) e ∙ ap is_eq (itself (canon b)))

-- texts are equal exactly where they tie
pub matches_bytes : (a b : List ℕ) → bytes_eq a b ≡ is_eq (bytes_cmp a b)
matches_bytes a b = same_from_decides (bytes_eq a b) (is_eq (bytes_cmp a b)) (bytes_eq-Decides a b) (λ e. lists_are a b (is_tie (bytes_cmp a b) e), λ e. ap (λ t. is_eq (bytes_cmp t b)) e ∙ ap is_eq (itself b))

-- ---- for the comparison's functions

magnitude_at : (p : Bool) (n : ℕ) → p ≡ true → (if p then significant (to_le_bytes w128 n) else n ∷ []) ≡ significant (to_le_bytes w128 n)
magnitude_at true n h = refl
magnitude_at false n h = absurd cc

-- a number of 128 bits is spelled by its bytes, the lowest first, without the zeros at their end
pub magnitude_in : (n : ℕ) → n < 2 ^ 128 → magnitude n ≡ significant (to_le_bytes w128 n)
unfolding magnitude
magnitude_in n h = magnitude_at (nat_lt n (2 ^ 128)) n (grind arith)

-- of integers with one tag, where one byte holds the first, the contents compare as the integers do
pub bytes_at : (x y : ℤ) → is_byte x ≡ true → int_tag x ≡ int_tag y → bytes_cmp (int_contents x) (int_contents y) ≡ nat_cmp (unsigned_abs x) (unsigned_abs y)
unfolding int_contents
bytes_at x y h e = by (is_byte x) (fits_four x) (is_byte y) (fits_four y) h e
  where
    by : (p q r s : Bool) → p ≡ true → int_tag_at p q ≡ int_tag_at r s → bytes_cmp (int_at p q x) (int_at r s y) ≡ nat_cmp (unsigned_abs x) (unsigned_abs y)
    by true _ true _ h e = then_equal (nat_cmp (unsigned_abs x) (unsigned_abs y))
    by true _ false true h e = absurd (omega arith)
    by true _ false false h e = absurd (omega arith)
    by false _ _ _ h e = absurd cc

four_bytes_at : (x y : ℤ) → is_byte x ≡ false → fits_four x ≡ true → int_tag x ≡ int_tag y → (bytes_cmp (int_contents x) (int_contents y) ≡ bytes_cmp (to_be_bytes w32 (cast_unsigned w32 x)) (to_be_bytes w32 (cast_unsigned w32 y))) × (fits_four y ≡ true)
unfolding int_contents
four_bytes_at x y g h e = by (is_byte x) (fits_four x) (is_byte y) (fits_four y) g h e
  where
    by : (p q r s : Bool) → p ≡ false → q ≡ true → int_tag_at p q ≡ int_tag_at r s → (bytes_cmp (int_at p q x) (int_at r s y) ≡ bytes_cmp (to_be_bytes w32 (cast_unsigned w32 x)) (to_be_bytes w32 (cast_unsigned w32 y))) × (s ≡ true)
    by false true false true g h e = (refl, refl)
    by false true true _ g h e = absurd (omega arith)
    by false true false false g h e = absurd (omega arith)
    by false false _ _ g h e = absurd cc
    by true _ _ _ g h e = absurd cc

-- of integers with one tag, where four bytes and not one hold the first, they compare as 32 bits without a sign
pub fours_at : (x y : ℤ) → is_byte x ≡ false → fits_four x ≡ true → int_tag x ≡ int_tag y → bytes_cmp (int_contents x) (int_contents y) ≡ nat_cmp (cast_unsigned w32 x) (cast_unsigned w32 y)
fours_at x y g h e = let p = four_bytes_at x y g h e in p.0 ∙ four_cmp x y h p.1

-- of integers with one tag, where four bytes don't hold the first, counts come first, then signs, digits lowest first
pub bigs_at : (x y : ℤ) → is_byte x ≡ false → fits_four x ≡ false → int_tag x ≡ int_tag y → bytes_cmp (int_contents x) (int_contents y) ≡ bytes_cmp (length (magnitude (unsigned_abs x)) ∷ sign_of x ∷ magnitude (unsigned_abs x)) (length (magnitude (unsigned_abs y)) ∷ sign_of y ∷ magnitude (unsigned_abs y))
unfolding int_contents
bigs_at x y g h e = by (is_byte x) (fits_four x) (is_byte y) (fits_four y) g h e
  where
    by : (p q r s : Bool) → p ≡ false → q ≡ false → int_tag_at p q ≡ int_tag_at r s → bytes_cmp (int_at p q x) (int_at r s y) ≡ bytes_cmp (length (magnitude (unsigned_abs x)) ∷ sign_of x ∷ magnitude (unsigned_abs x)) (length (magnitude (unsigned_abs y)) ∷ sign_of y ∷ magnitude (unsigned_abs y))
    by false false false false g h e = refl
    by false false true _ g h e = absurd (omega arith)
    by false false false true g h e = absurd (omega arith)
    by false true _ _ g h e = absurd cc
    by true _ _ _ g h e = absurd cc

-- ---- two integers, whatever their tags

byte_fits : (z : ℤ) → is_byte z ≡ true → fits_four z ≡ true
byte_fits (pos n) h = grind (arith, ltb-true n 256 h)
byte_fits (negsuc n) h = absurd cc

byte_as_four : (z : ℤ) → is_byte z ≡ true → cast_unsigned w32 z ≡ unsigned_abs z
byte_as_four (pos n) h = omega (arith, ltb-true n 256 h)
byte_as_four (negsuc n) h = absurd cc

byte_below : (z : ℤ) → is_byte z ≡ true → cast_unsigned w32 z < 256
byte_below (pos n) h = omega (arith, ltb-true n 256 h)
byte_below (negsuc n) h = absurd cc

four_above : (z : ℤ) → is_byte z ≡ false → fits_four z ≡ true → 256 ≤ cast_unsigned w32 z
four_above (pos n) g h = omega (arith, ltb-false n 256 g, ltb-true n (2 ^ 31) h)
four_above (negsuc n) g h = omega (arith, ltb-true n (2 ^ 31) h)

-- the order of two integers, by whether one byte holds each, and four with a sign
abbrev two_at : Bool → Bool → Bool → Bool → ℤ → ℤ → Ordering
two_at p q r s x y = ordering_then (nat_cmp (int_tag_at p q) (int_tag_at r s)) (bytes_cmp (int_at p q x) (int_at r s y))

fours_by : (p r : Bool) (x y : ℤ) → is_byte x ≡ p → is_byte y ≡ r → fits_four x ≡ true → fits_four y ≡ true → two_at p true r true x y ≡ nat_cmp (cast_unsigned w32 x) (cast_unsigned w32 y)
fours_by true true x y hp hr hx hy = then_equal (nat_cmp (unsigned_abs x) (unsigned_abs y)) ∙ ap₂ nat_cmp (sym (byte_as_four x hp)) (sym (byte_as_four y hr))
fours_by true false x y hp hr hx hy = sym (less_is (cast_unsigned w32 x) (cast_unsigned w32 y) (omega (arith, byte_below x hp, four_above y hr hy)))
fours_by false true x y hp hr hx hy = sym (greater_is (cast_unsigned w32 x) (cast_unsigned w32 y) (omega (arith, byte_below y hr, four_above x hp hx)))
fours_by false false x y hp hr hx hy = four_cmp x y hx hy

two_is : (p q r s : Bool) (x y : ℤ) → is_byte x ≡ p → fits_four x ≡ q → is_byte y ≡ r → fits_four y ≡ s → order (int x) (int y) ≡ two_at p q r s x y
unfolding int_contents
two_is p q r s x y hp hq hr hs = cc

-- integers that four bytes hold compare by their bits, without a sign, whatever their tags
pub fours_order : (x y : ℤ) → fits_four x ≡ true → fits_four y ≡ true → order (int x) (int y) ≡ nat_cmp (cast_unsigned w32 x) (cast_unsigned w32 y)
fours_order x y hx hy = two_is (is_byte x) true (is_byte y) true x y refl hx refl hy ∙ fours_by (is_byte x) (is_byte y) x y refl refl hx hy

no_byte : (z : ℤ) → fits_four z ≡ false → is_byte z ≡ false
no_byte z h = by (is_byte z) refl
  where
    by : (p : Bool) → is_byte z ≡ p → p ≡ false
    by true e = let f = byte_fits z e in absurd cc
    by false e = refl

-- an integer that four bytes hold is before one that they don't hold
pub four_first : (x y : ℤ) → fits_four x ≡ true → fits_four y ≡ false → order (int x) (int y) ≡ Less
four_first x y hx hy = by (is_byte x) refl
  where
    by : (p : Bool) → is_byte x ≡ p → order (int x) (int y) ≡ Less
    by true e = two_is true true false false x y e hx (no_byte y hy) hy
    by false e = two_is false true false false x y e hx (no_byte y hy) hy

-- an integer that four bytes don't hold is behind one that they hold
pub four_last : (x y : ℤ) → fits_four x ≡ false → fits_four y ≡ true → order (int x) (int y) ≡ Greater
four_last x y hx hy = by (is_byte y) refl
  where
    by : (p : Bool) → is_byte y ≡ p → order (int x) (int y) ≡ Greater
    by true e = two_is false false true true x y (no_byte x hx) hx e hy
    by false e = two_is false false false true x y (no_byte x hx) hx e hy

-- integers that four bytes don't hold compare by how many digits, their signs, and their digits, the lowest first
pub bigs_order : (x y : ℤ) → fits_four x ≡ false → fits_four y ≡ false → order (int x) (int y) ≡ bytes_cmp (length (magnitude (unsigned_abs x)) ∷ sign_of x ∷ magnitude (unsigned_abs x)) (length (magnitude (unsigned_abs y)) ∷ sign_of y ∷ magnitude (unsigned_abs y))
bigs_order x y hx hy = two_is false false false false x y (no_byte x hx) hx (no_byte y hy) hy
