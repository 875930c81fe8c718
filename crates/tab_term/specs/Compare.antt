-- The order of terms is that of their spellings, whatever follows them.
use Rattle.std.proofs.Common.{◌≡◌, ◌≢◌, ℕ, ◌^◌, ◌/◌, Bool, true, false, ◌&&◌, nat_lt, ◌==◌, if◌then◌else◌, List, [], ◌∷◌, ◌++◌, length, refl, sym, ap, ap₂, ◌∙◌, Ordering, nat_cmp, arith, append_assoc}
use Rattle.std.specs.Prelude.{ℤ, unsigned_abs}
use Rattle.std.specs.Ordering.{ordering_then}
use Rattle.std.specs.Int.{w16, w32, w64, to_be_bytes, cast_unsigned, byte_at, bytes_high_first}
use Rattle.std.proofs.lemmas.Bool.{ltb-true, ltb-false}
use Rattle.std.proofs.lemmas.Nat.{mod_below}
use Rattle.tab_term.specs.Data.{PlainTerm, int, atom, tuple, list, bin, map, PlainTerms, none, one_more, PlainPairs, no_pair, one_pair, count, pair_count}
use Rattle.tab_term.specs.Canon.{canon, canons, pair_canons, tag, int_tag, int_contents, atom_tag, atom_length_field, tuple_tag, arity_field, list_tag, list_contents, length_field, wide_length_field, magnitude, is_byte, fits_four, sign_of, is_byte_term, byte_of, all_bytes, bytes_of}
use Rattle.tab_term.specs.Order.{bytes_cmp, order, by_tag, contents_order, members_order, pairs_order}
use Rattle.tab_term.specs.Numbers.{then_assoc, then_same, then_equal, equal_is, less_is, greater_is, text_cmp, high_cmp, high_length}

-- ---- lengths

wide_by : (p q : Bool) (n m : ℕ) (u v : List ℕ) → nat_lt n (2 ^ 64) ≡ p → nat_lt m (2 ^ 64) ≡ q → bytes_cmp ((if p then to_be_bytes w64 n else 256 ∷ n ∷ []) ++ u) ((if q then to_be_bytes w64 m else 256 ∷ m ∷ []) ++ v) ≡ ordering_then (nat_cmp n m) (bytes_cmp u v)
wide_by true true n m u v hn hm = high_cmp 8 n m u v (ltb-true n (2 ^ 64) hn) (ltb-true m (2 ^ 64) hm)
wide_by true false n m u v hn hm =
    ap (λ o. ordering_then o (bytes_cmp (bytes_high_first 7 n ++ u) (m ∷ v))) (less_is (byte_at 7 n) 256 (mod_below (n / 256 ^ 7) 256 (omega arith)))
    ∙ ap (λ o. ordering_then o (bytes_cmp u v)) (sym (less_is n m (omega (arith, ltb-true n (2 ^ 64) hn, ltb-false m (2 ^ 64) hm))))
wide_by false true n m u v hn hm =
    ap (λ o. ordering_then o (bytes_cmp (n ∷ u) (bytes_high_first 7 m ++ v))) (greater_is 256 (byte_at 7 m) (mod_below (m / 256 ^ 7) 256 (omega arith)))
    ∙ ap (λ o. ordering_then o (bytes_cmp u v)) (sym (greater_is n m (omega (arith, ltb-true m (2 ^ 64) hm, ltb-false n (2 ^ 64) hn))))
wide_by false false n m u v hn hm = refl

wide_cmp : (n m : ℕ) (u v : List ℕ) → bytes_cmp (wide_length_field n ++ u) (wide_length_field m ++ v) ≡ ordering_then (nat_cmp n m) (bytes_cmp u v)
wide_cmp n m u v = wide_by (nat_lt n (2 ^ 64)) (nat_lt m (2 ^ 64)) n m u v refl refl

length_by : (p q : Bool) (n m : ℕ) (u v : List ℕ) → nat_lt n 4294967295 ≡ p → nat_lt m 4294967295 ≡ q → bytes_cmp ((if p then to_be_bytes w32 n else 255 ∷ 255 ∷ 255 ∷ 255 ∷ wide_length_field n) ++ u) ((if q then to_be_bytes w32 m else 255 ∷ 255 ∷ 255 ∷ 255 ∷ wide_length_field m) ++ v) ≡ ordering_then (nat_cmp n m) (bytes_cmp u v)
length_by true true n m u v hn hm = high_cmp 4 n m u v (omega (arith, ltb-true n 4294967295 hn)) (omega (arith, ltb-true m 4294967295 hm))
length_by true false n m u v hn hm =
    high_cmp 4 n 4294967295 u (wide_length_field m ++ v) (omega (arith, ltb-true n 4294967295 hn)) (omega arith)
    ∙ ap (λ o. ordering_then o (bytes_cmp u (wide_length_field m ++ v))) (less_is n 4294967295 (ltb-true n 4294967295 hn))
    ∙ ap (λ o. ordering_then o (bytes_cmp u v)) (sym (less_is n m (omega (arith, ltb-true n 4294967295 hn, ltb-false m 4294967295 hm))))
length_by false true n m u v hn hm =
    high_cmp 4 4294967295 m (wide_length_field n ++ u) v (omega arith) (omega (arith, ltb-true m 4294967295 hm))
    ∙ ap (λ o. ordering_then o (bytes_cmp (wide_length_field n ++ u) v)) (greater_is 4294967295 m (ltb-true m 4294967295 hm))
    ∙ ap (λ o. ordering_then o (bytes_cmp u v)) (sym (greater_is n m (omega (arith, ltb-true m 4294967295 hm, ltb-false n 4294967295 hn))))
length_by false false n m u v hn hm = wide_cmp n m u v

-- fields of lengths compare as the lengths do, and where these are one what follows decides
pub length_cmp : (n m : ℕ) (u v : List ℕ) → bytes_cmp (length_field n ++ u) (length_field m ++ v) ≡ ordering_then (nat_cmp n m) (bytes_cmp u v)
unfolding length_field
length_cmp n m u v = length_by (nat_lt n 4294967295) (nat_lt m 4294967295) n m u v refl refl

-- ---- lengths of atoms and tuples, where the tags are one

-- an atom's tag, by whether its length is under 256, and under 65,536
abbrev atom_tag_at : Bool → Bool → ℕ
atom_tag_at p q = if p then 119 else (if q then 118 else 120)

-- a tuple's tag, by whether its arity is under 256
abbrev tuple_tag_at : Bool → ℕ
tuple_tag_at p = if p then 104 else 105

atom_by : (p r q s : Bool) (n m : ℕ) (u v : List ℕ) → nat_lt n (2 ^ 16) ≡ r → nat_lt m (2 ^ 16) ≡ s
    → atom_tag_at p r ≡ atom_tag_at q s
    → bytes_cmp ((if p then n ∷ [] else (if r then to_be_bytes w16 n else n ∷ [])) ++ u) ((if q then m ∷ [] else (if s then to_be_bytes w16 m else m ∷ [])) ++ v) ≡ ordering_then (nat_cmp n m) (bytes_cmp u v)
atom_by true _ true _ n m u v hn hm e = refl
atom_by true _ false true n m u v hn hm e = absurd (omega arith)
atom_by true _ false false n m u v hn hm e = absurd (omega arith)
atom_by false true true _ n m u v hn hm e = absurd (omega arith)
atom_by false false true _ n m u v hn hm e = absurd (omega arith)
atom_by false true false true n m u v hn hm e = high_cmp 2 n m u v (ltb-true n (2 ^ 16) hn) (ltb-true m (2 ^ 16) hm)
atom_by false true false false n m u v hn hm e = absurd (omega arith)
atom_by false false false true n m u v hn hm e = absurd (omega arith)
atom_by false false false false n m u v hn hm e = refl

atom_cmp : (n m : ℕ) (u v : List ℕ) → atom_tag n ≡ atom_tag m → bytes_cmp (atom_length_field n ++ u) (atom_length_field m ++ v) ≡ ordering_then (nat_cmp n m) (bytes_cmp u v)
unfolding atom_length_field
atom_cmp n m u v e = atom_by (nat_lt n 256) (nat_lt n (2 ^ 16)) (nat_lt m 256) (nat_lt m (2 ^ 16)) n m u v refl refl e

arity_by : (p q : Bool) (n m : ℕ) (u v : List ℕ) → tuple_tag_at p ≡ tuple_tag_at q
    → bytes_cmp ((if p then n ∷ [] else length_field n) ++ u) ((if q then m ∷ [] else length_field m) ++ v) ≡ ordering_then (nat_cmp n m) (bytes_cmp u v)
arity_by true true n m u v e = refl
arity_by true false n m u v e = absurd (omega arith)
arity_by false true n m u v e = absurd (omega arith)
arity_by false false n m u v e = length_cmp n m u v

arity_cmp : (n m : ℕ) (u v : List ℕ) → tuple_tag n ≡ tuple_tag m → bytes_cmp (arity_field n ++ u) (arity_field m ++ v) ≡ ordering_then (nat_cmp n m) (bytes_cmp u v)
unfolding arity_field
arity_cmp n m u v e = arity_by (nat_lt n 256) (nat_lt m 256) n m u v e

-- ---- integers

one_cmp : (n m : ℕ) (u v : List ℕ) → bytes_cmp (n ∷ u) (m ∷ v) ≡ ordering_then (bytes_cmp (n ∷ []) (m ∷ [])) (bytes_cmp u v)
one_cmp n m u v = ap (λ o. ordering_then o (bytes_cmp u v)) (sym (then_equal (nat_cmp n m)))

big_cmp : (s t : ℕ) (a b u v : List ℕ) → bytes_cmp (length a ∷ s ∷ a ++ u) (length b ∷ t ∷ b ++ v) ≡ ordering_then (bytes_cmp (length a ∷ s ∷ a) (length b ∷ t ∷ b)) (bytes_cmp u v)
big_cmp s t a b u v =
    then_same (nat_cmp (length a) (length b)) (ordering_then (nat_cmp s t) (bytes_cmp (a ++ u) (b ++ v))) (ordering_then (ordering_then (nat_cmp s t) (bytes_cmp a b)) (bytes_cmp u v))
    (λ e. ap (ordering_then (nat_cmp s t)) (text_cmp a b u v (equal_is (length a) (length b) e)) ∙ sym (then_assoc (nat_cmp s t) (bytes_cmp a b) (bytes_cmp u v)))
    ∙ sym (then_assoc (nat_cmp (length a) (length b)) (ordering_then (nat_cmp s t) (bytes_cmp a b)) (bytes_cmp u v))

-- the contents of an integer, by whether one byte holds it, and four with a sign
abbrev pub int_at : Bool → Bool → ℤ → List ℕ
int_at p q z = if p then unsigned_abs z ∷ [] else (if q then to_be_bytes w32 (cast_unsigned w32 z) else length (magnitude (unsigned_abs z)) ∷ sign_of z ∷ magnitude (unsigned_abs z))

-- the tag of an integer, by whether one byte holds it, and four with a sign
abbrev pub int_tag_at : Bool → Bool → ℕ
int_tag_at p q = if p then 97 else (if q then 98 else 110)

int_by : (p q r s : Bool) (x y : ℤ) (u v : List ℕ) → int_tag_at p q ≡ int_tag_at r s → bytes_cmp (int_at p q x ++ u) (int_at r s y ++ v) ≡ ordering_then (bytes_cmp (int_at p q x) (int_at r s y)) (bytes_cmp u v)
int_by true _ true _ x y u v e = one_cmp (unsigned_abs x) (unsigned_abs y) u v
int_by true _ false true x y u v e = absurd (omega arith)
int_by true _ false false x y u v e = absurd (omega arith)
int_by false true true _ x y u v e = absurd (omega arith)
int_by false false true _ x y u v e = absurd (omega arith)
int_by false true false true x y u v e = text_cmp (to_be_bytes w32 (cast_unsigned w32 x)) (to_be_bytes w32 (cast_unsigned w32 y)) u v (high_length 4 (cast_unsigned w32 x) ∙ sym (high_length 4 (cast_unsigned w32 y)))
int_by false true false false x y u v e = absurd (omega arith)
int_by false false false true x y u v e = absurd (omega arith)
int_by false false false false x y u v e = big_cmp (sign_of x) (sign_of y) (magnitude (unsigned_abs x)) (magnitude (unsigned_abs y)) u v

int_cmp : (x y : ℤ) (u v : List ℕ) → int_tag x ≡ int_tag y → bytes_cmp (int_contents x ++ u) (int_contents y ++ v) ≡ ordering_then (bytes_cmp (int_contents x) (int_contents y)) (bytes_cmp u v)
unfolding int_contents
int_cmp x y u v e = int_by (is_byte x) (fits_four x) (is_byte y) (fits_four y) x y u v e

-- ---- which tags are whose

-- which kind of term a tag is of, by the numbers of `code`; every number from 117 on is counted an atom's
abbrev kind : ℕ → ℕ
kind n = if nat_lt n 99 then 0 else (if nat_lt n 106 then 2 else (if nat_lt n 109 then 3 else (if nat_lt n 110 then 4 else (if nat_lt n 111 then 0 else (if nat_lt n 117 then 5 else 1)))))

-- the number of a term's kind
abbrev pub code : PlainTerm → ℕ
code (int z) = 0
code (atom s) = 1
code (tuple ts) = 2
code (list ts) = 3
code (bin b) = 4
code (map ps) = 5

either : (b : Bool) (P : ℕ → Type 0) (x y : ℕ) → P x → P y → P (if b then x else y)
either true P x y h k = h
either false P x y h k = k

kind_is : (t : PlainTerm) → kind (tag t) ≡ code t
kind_is (int z) = either (is_byte z) (λ n. kind n ≡ 0) 97 _ refl (either (fits_four z) (λ n. kind n ≡ 0) 98 110 refl refl)
kind_is (atom s) = either (nat_lt (length s) 256) (λ n. kind n ≡ 1) 119 _ refl (either (nat_lt (length s) (2 ^ 16)) (λ n. kind n ≡ 1) 118 120 refl refl)
kind_is (tuple ts) = either (nat_lt (count ts) 256) (λ n. kind n ≡ 2) 104 105 refl refl
kind_is (list ts) = either (count ts == 0) (λ n. kind n ≡ 3) 106 _ refl (either (nat_lt (count ts) (2 ^ 16) && all_bytes ts) (λ n. kind n ≡ 3) 107 108 refl refl)
kind_is (bin b) = refl
kind_is (map ps) = refl

same_kind : (a b : PlainTerm) → tag a ≡ tag b → code a ≡ code b
same_kind a b e = sym (kind_is a) ∙ ap kind e ∙ kind_is b

-- ---- lists

nothing : (ts : PlainTerms) → count ts ≡ 0 → ts ≡ none
nothing none e = refl
nothing (one_more t ts) e = absurd (omega arith)

both_true : (p q : Bool) → (p && q) ≡ true → (p ≡ true) × (q ≡ true)
both_true true true e = (refl, refl)
both_true true false e = absurd cc
both_true false q e = absurd cc

zero_is : (n : ℕ) → (n == 0) ≡ true → n ≡ 0
zero_is n h = grind arith

small_at : (p q r s : Bool) (x y : ℤ) → p ≡ true → r ≡ true → ordering_then (nat_cmp (int_tag_at p q) (int_tag_at r s)) (bytes_cmp (int_at p q x) (int_at r s y)) ≡ nat_cmp (unsigned_abs x) (unsigned_abs y)
small_at true _ true _ x y hp hr = then_equal (nat_cmp (unsigned_abs x) (unsigned_abs y))
small_at true _ false _ x y hp hr = absurd cc
small_at false _ _ _ x y hp hr = absurd cc

small_ints : (x y : ℤ) → is_byte x ≡ true → is_byte y ≡ true → by_tag (int x) (int y) (bytes_cmp (int_contents x) (int_contents y)) ≡ nat_cmp (unsigned_abs x) (unsigned_abs y)
unfolding int_contents
small_ints x y hx hy = small_at (is_byte x) (fits_four x) (is_byte y) (fits_four y) x y hx hy

-- in a list of bytes a member stands by its number alone
small_order : (x y : PlainTerm) → is_byte_term x ≡ true → is_byte_term y ≡ true → by_tag x y (contents_order x y) ≡ nat_cmp (byte_of x) (byte_of y)
small_order (int x) (int y) hx hy = small_ints x y hx hy
small_order x y hx hy = absurd cc

bytes_of_cmp : (xs ys : PlainTerms) (u v : List ℕ) → all_bytes xs ≡ true → all_bytes ys ≡ true → count xs ≡ count ys → bytes_cmp (bytes_of xs ++ u) (bytes_of ys ++ v) ≡ ordering_then (members_order xs ys) (bytes_cmp u v)
bytes_of_cmp none none u v hx hy e = refl
bytes_of_cmp none (one_more y ys) u v hx hy e = absurd (omega arith)
bytes_of_cmp (one_more x xs) none u v hx hy e = absurd (omega arith)
bytes_of_cmp (one_more x xs) (one_more y ys) u v hx hy e =
    let p = both_true (is_byte_term x) (all_bytes xs) hx in
    let q = both_true (is_byte_term y) (all_bytes ys) hy in
    ap₂ ordering_then (sym (small_order x y p.0 q.0)) (bytes_of_cmp xs ys u v p.1 q.1 (omega arith))
    ∙ sym (then_assoc (by_tag x y (contents_order x y)) (members_order xs ys) (bytes_cmp u v))

-- a list's tag, by whether it is empty, and whether it is of bytes and has under 65,536
abbrev list_tag_at : Bool → Bool → ℕ
list_tag_at p q = if p then 106 else (if q then 107 else 108)

-- a list's contents, by the same, with the spellings e of its elements
abbrev list_at : Bool → Bool → PlainTerms → List ℕ → List ℕ
list_at p q ts e = if p then [] else (if q then to_be_bytes w16 (count ts) ++ bytes_of ts else length_field (count ts) ++ e ++ 106 ∷ [])

-- elements that compare as they should, if there are as many
abbrev AreOrdered : PlainTerms → PlainTerms → List ℕ → List ℕ → Type 0
AreOrdered xs ys a b = count xs ≡ count ys → (u v : List ℕ) → bytes_cmp (a ++ u) (b ++ v) ≡ ordering_then (members_order xs ys) (bytes_cmp u v)

counted : (n m : ℕ) (a b : List ℕ) (o : Ordering) (s : Ordering) (c : Ordering) → (n ≡ m → c ≡ ordering_then o s) → ordering_then (nat_cmp n m) c ≡ ordering_then (ordering_then (nat_cmp n m) o) s
counted n m a b o s c f = then_same (nat_cmp n m) c (ordering_then o s) (λ e. f (equal_is n m e)) ∙ sym (then_assoc (nat_cmp n m) o s)

list_by : (p q r s : Bool) (xs ys : PlainTerms) (a b u v : List ℕ) → AreOrdered xs ys a b → (count xs == 0) ≡ p → (count ys == 0) ≡ r → (nat_lt (count xs) (2 ^ 16) && all_bytes xs) ≡ q → (nat_lt (count ys) (2 ^ 16) && all_bytes ys) ≡ s
    → list_tag_at p q ≡ list_tag_at r s
    → bytes_cmp (list_at p q xs a ++ u) (list_at r s ys b ++ v) ≡ ordering_then (ordering_then (nat_cmp (count xs) (count ys)) (members_order xs ys)) (bytes_cmp u v)
list_by true _ true _ xs ys a b u v f hp hr hq hs e =
    let x : xs ≡ none = nothing xs (zero_is (count xs) hp) in
    let y : ys ≡ none = nothing ys (zero_is (count ys) hr) in
    ap₂ (λ xs ys. ordering_then (ordering_then (nat_cmp (count xs) (count ys)) (members_order xs ys)) (bytes_cmp u v)) (sym x) (sym y)
list_by true _ false true xs ys a b u v f hp hr hq hs e = absurd (omega arith)
list_by true _ false false xs ys a b u v f hp hr hq hs e = absurd (omega arith)
list_by false true true _ xs ys a b u v f hp hr hq hs e = absurd (omega arith)
list_by false false true _ xs ys a b u v f hp hr hq hs e = absurd (omega arith)
list_by false true false true xs ys a b u v f hp hr hq hs e =
    let x = both_true (nat_lt (count xs) (2 ^ 16)) (all_bytes xs) hq in
    let y = both_true (nat_lt (count ys) (2 ^ 16)) (all_bytes ys) hs in
    ap₂ bytes_cmp (append_assoc (to_be_bytes w16 (count xs)) (bytes_of xs) u) (append_assoc (to_be_bytes w16 (count ys)) (bytes_of ys) v)
    ∙ high_cmp 2 (count xs) (count ys) (bytes_of xs ++ u) (bytes_of ys ++ v) (ltb-true (count xs) (2 ^ 16) x.0) (ltb-true (count ys) (2 ^ 16) y.0)
    ∙ counted (count xs) (count ys) a b (members_order xs ys) (bytes_cmp u v) (bytes_cmp (bytes_of xs ++ u) (bytes_of ys ++ v)) (λ n. bytes_of_cmp xs ys u v x.1 y.1 n)
list_by false true false false xs ys a b u v f hp hr hq hs e = absurd (omega arith)
list_by false false false true xs ys a b u v f hp hr hq hs e = absurd (omega arith)
list_by false false false false xs ys a b u v f hp hr hq hs e =
    ap₂ bytes_cmp (append_assoc (length_field (count xs) ++ a) (106 ∷ []) u ∙ append_assoc (length_field (count xs)) a (106 ∷ u)) (append_assoc (length_field (count ys) ++ b) (106 ∷ []) v ∙ append_assoc (length_field (count ys)) b (106 ∷ v))
    ∙ length_cmp (count xs) (count ys) (a ++ 106 ∷ u) (b ++ 106 ∷ v)
    ∙ counted (count xs) (count ys) a b (members_order xs ys) (bytes_cmp u v) (bytes_cmp (a ++ 106 ∷ u) (b ++ 106 ∷ v)) (λ n. f n (106 ∷ u) (106 ∷ v))

list_cmp : (xs ys : PlainTerms) (a b u v : List ℕ) → AreOrdered xs ys a b → list_tag xs ≡ list_tag ys → bytes_cmp (list_contents xs a ++ u) (list_contents ys b ++ v) ≡ ordering_then (ordering_then (nat_cmp (count xs) (count ys)) (members_order xs ys)) (bytes_cmp u v)
unfolding list_contents
list_cmp xs ys a b u v f e = list_by (count xs == 0) (nat_lt (count xs) (2 ^ 16) && all_bytes xs) (count ys == 0) (nat_lt (count ys) (2 ^ 16) && all_bytes ys) xs ys a b u v f refl refl refl refl e

-- ---- what follows the tag

-- what follows the tag in a term's canonical spelling
abbrev contents : PlainTerm → List ℕ
contents (int z) = int_contents z
contents (atom s) = atom_length_field (length s) ++ s
contents (tuple ts) = arity_field (count ts) ++ canons ts
contents (list ts) = list_contents ts (canons ts)
contents (bin b) = length_field (length b) ++ b
contents (map ps) = length_field (pair_count ps) ++ pair_canons ps

canon_is : (t : PlainTerm) → canon t ≡ tag t ∷ contents t
unfolding canon
canon_is (int z) = refl
canon_is (atom s) = refl
canon_is (tuple ts) = refl
canon_is (list ts) = refl
canon_is (bin b) = refl
canon_is (map ps) = refl

canons_none : canons none ≡ []
unfolding canon
canons_none = refl

canons_more : (t : PlainTerm) (ts : PlainTerms) → canons (one_more t ts) ≡ canon t ++ canons ts
unfolding canon
canons_more t ts = refl

pairs_none : pair_canons no_pair ≡ []
unfolding canon
pairs_none = refl

pairs_more : (k x : PlainTerm) (ps : PlainPairs) → pair_canons (one_pair k x ps) ≡ canon k ++ canon x ++ pair_canons ps
unfolding canon
pairs_more k x ps = refl

-- what follows the tags compares by contents_order, and where that ties what comes behind decides
abbrev AreCompared : PlainTerm → PlainTerm → List ℕ → List ℕ → Type 0
AreCompared a b u v = bytes_cmp (contents a ++ u) (contents b ++ v) ≡ ordering_then (contents_order a b) (bytes_cmp u v)

by_contents : (a b : PlainTerm) (u v : List ℕ) → (tag a ≡ tag b → AreCompared a b u v) → bytes_cmp (canon a ++ u) (canon b ++ v) ≡ ordering_then (order a b) (bytes_cmp u v)
by_contents a b u v f =
    ap₂ (λ x y. bytes_cmp (x ++ u) (y ++ v)) (canon_is a) (canon_is b)
    ∙ counted (tag a) (tag b) [] [] (contents_order a b) (bytes_cmp u v) (bytes_cmp (contents a ++ u) (contents b ++ v)) f

sized : (n m : ℕ) (a b u v : List ℕ) (o : Ordering) (hn hm : List ℕ) → bytes_cmp (hn ++ (a ++ u)) (hm ++ (b ++ v)) ≡ ordering_then (nat_cmp n m) (bytes_cmp (a ++ u) (b ++ v)) → (n ≡ m → bytes_cmp (a ++ u) (b ++ v) ≡ ordering_then o (bytes_cmp u v)) → bytes_cmp ((hn ++ a) ++ u) ((hm ++ b) ++ v) ≡ ordering_then (ordering_then (nat_cmp n m) o) (bytes_cmp u v)
sized n m a b u v o hn hm h f = ap₂ bytes_cmp (append_assoc hn a u) (append_assoc hm b v) ∙ h ∙ counted n m a b o (bytes_cmp u v) (bytes_cmp (a ++ u) (b ++ v)) f

-- tags of two kinds are two
pub apart : (a b : PlainTerm) → tag a ≡ tag b → code a ≢ code b → ⊥
apart a b e n = n (same_kind a b e)

mutual
  contents_cmp : (a b : PlainTerm) (u v : List ℕ) → tag a ≡ tag b → AreCompared a b u v
  contents_cmp (int x) (int y) u v e = int_cmp x y u v e
  contents_cmp (atom s) (atom t) u v e = sized (length s) (length t) s t u v (bytes_cmp s t) (atom_length_field (length s)) (atom_length_field (length t)) (atom_cmp (length s) (length t) (s ++ u) (t ++ v) e) (λ n. text_cmp s t u v n)
  contents_cmp (tuple xs) (tuple ys) u v e = sized (count xs) (count ys) (canons xs) (canons ys) u v (members_order xs ys) (arity_field (count xs)) (arity_field (count ys)) (arity_cmp (count xs) (count ys) (canons xs ++ u) (canons ys ++ v) e) (λ n. all_cmp xs ys u v n)
  contents_cmp (list xs) (list ys) u v e = list_cmp xs ys (canons xs) (canons ys) u v (λ n u v. all_cmp xs ys u v n) e
  contents_cmp (bin s) (bin t) u v e = sized (length s) (length t) s t u v (bytes_cmp s t) (length_field (length s)) (length_field (length t)) (length_cmp (length s) (length t) (s ++ u) (t ++ v)) (λ n. text_cmp s t u v n)
  contents_cmp (map ps) (map qs) u v e = sized (pair_count ps) (pair_count qs) (pair_canons ps) (pair_canons qs) u v (pairs_order ps qs) (length_field (pair_count ps)) (length_field (pair_count qs)) (length_cmp (pair_count ps) (pair_count qs) (pair_canons ps ++ u) (pair_canons qs ++ v)) (λ n. pairs_cmp ps qs u v n)
  contents_cmp a b u v e = absurd (apart a b e (λ h. omega (arith, h)))

  all_cmp : (xs ys : PlainTerms) (u v : List ℕ) → count xs ≡ count ys → bytes_cmp (canons xs ++ u) (canons ys ++ v) ≡ ordering_then (members_order xs ys) (bytes_cmp u v)
  all_cmp none none u v e = ap₂ (λ a b. bytes_cmp (a ++ u) (b ++ v)) canons_none canons_none
  all_cmp none (one_more y ys) u v e = absurd (omega arith)
  all_cmp (one_more x xs) none u v e = absurd (omega arith)
  all_cmp (one_more x xs) (one_more y ys) u v e =
      ap₂ bytes_cmp (ap (λ r. r ++ u) (canons_more x xs) ∙ append_assoc (canon x) (canons xs) u) (ap (λ r. r ++ v) (canons_more y ys) ∙ append_assoc (canon y) (canons ys) v)
      ∙ by_contents x y (canons xs ++ u) (canons ys ++ v) (λ h. contents_cmp x y (canons xs ++ u) (canons ys ++ v) h)
      ∙ ap (ordering_then (order x y)) (all_cmp xs ys u v (omega arith))
      ∙ sym (then_assoc (order x y) (members_order xs ys) (bytes_cmp u v))

  pairs_cmp : (ps qs : PlainPairs) (u v : List ℕ) → pair_count ps ≡ pair_count qs → bytes_cmp (pair_canons ps ++ u) (pair_canons qs ++ v) ≡ ordering_then (pairs_order ps qs) (bytes_cmp u v)
  pairs_cmp no_pair no_pair u v e = ap₂ (λ a b. bytes_cmp (a ++ u) (b ++ v)) pairs_none pairs_none
  pairs_cmp no_pair (one_pair l y qs) u v e = absurd (omega arith)
  pairs_cmp (one_pair k x ps) no_pair u v e = absurd (omega arith)
  pairs_cmp (one_pair k x ps) (one_pair l y qs) u v e =
      ap₂ bytes_cmp (ap (λ r. r ++ u) (pairs_more k x ps) ∙ append_assoc (canon k ++ canon x) (pair_canons ps) u ∙ append_assoc (canon k) (canon x) (pair_canons ps ++ u)) (ap (λ r. r ++ v) (pairs_more l y qs) ∙ append_assoc (canon l ++ canon y) (pair_canons qs) v ∙ append_assoc (canon l) (canon y) (pair_canons qs ++ v))
      ∙ by_contents k l (canon x ++ (pair_canons ps ++ u)) (canon y ++ (pair_canons qs ++ v)) (λ h. contents_cmp k l (canon x ++ (pair_canons ps ++ u)) (canon y ++ (pair_canons qs ++ v)) h)
      ∙ ap (ordering_then (order k l)) (by_contents x y (pair_canons ps ++ u) (pair_canons qs ++ v) (λ h. contents_cmp x y (pair_canons ps ++ u) (pair_canons qs ++ v) h) ∙ ap (ordering_then (order x y)) (pairs_cmp ps qs u v (omega arith)) ∙ sym (then_assoc (order x y) (pairs_order ps qs) (bytes_cmp u v)))
      ∙ sym (then_assoc (order k l) (ordering_then (order x y) (pairs_order ps qs)) (bytes_cmp u v))
      ∙ ap (λ o. ordering_then o (bytes_cmp u v)) (sym (then_assoc (order k l) (order x y) (pairs_order ps qs)))

-- canonical spellings compare as the terms do, and where these are one what follows decides
pub canon_cmp : (a b : PlainTerm) (u v : List ℕ) → bytes_cmp (canon a ++ u) (canon b ++ v) ≡ ordering_then (order a b) (bytes_cmp u v)
canon_cmp a b u v = by_contents a b u v (λ h. contents_cmp a b u v h)
