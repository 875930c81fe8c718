-- How long a spelling is.
use Rattle.std.proofs.Common.{◌≡◌, ◌≢◌, ℕ, suc, ◌+◌, ◌-◌, ◌^◌, ◌<◌, ◌≤◌, min, ℤ, true, false, List, [], ◌∷◌, ◌++◌, length, take, get_or, refl, unsigned_abs, ap, ◌∙◌, arith, length-append}
use Rattle.std.specs.Int.{w16, to_be_bytes}
use Rattle.tab_term.specs.declared.term.Term.{Term}
use Rattle.tab_term.specs.Data.{int, atom, tuple, list, bin, map, PlainTerms, none, one_more, PlainPairs, no_pair, count, pair_count}
use Rattle.tab_term.specs.Canon.{is_byte, fits_four, int_tag, int_contents, magnitude, length_field, atom_tag, atom_length_field, tuple_tag, arity_field, list_tag, bytes_of, canon, canons, pair_canons}
use Rattle.tab_term.specs.View.{term, terms, pairs}
use Rattle.tab_etf.proofs.CanonLemmas as is
use Rattle.tab_etf.proofs.Elements.{canons_next, pairs_next}

module _ (z : ℤ) where
  pub one_long : is_byte z ≡ true → length (int_tag z ∷ int_contents z) ≡ 2
  one_long t = ap length (is.int_one z t)

  pub four_long : is_byte z ≡ false → fits_four z ≡ true → length (int_tag z ∷ int_contents z) ≡ 5
  four_long t u = ap length (is.int_four z t u)

  pub big_long : is_byte z ≡ false → fits_four z ≡ false → length (int_tag z ∷ int_contents z) ≡ 3 + length (magnitude (unsigned_abs z))
  big_long t u = ap length (is.int_big z t u) ∙ omega arith

module _ (n : ℕ) where
  pub field_short : n < 4294967295 → length (length_field n) ≡ 4
  field_short lt = ap length (is.length_short n lt)

  pub field_long : 4294967295 ≤ n → n < 2 ^ 64 → length (length_field n) ≡ 12
  field_long le lt = ap length (is.length_long n le lt)

  pub atom_short : n < 256 → length (atom_tag n ∷ atom_length_field n) ≡ 2
  atom_short lt = ap length (is.atom_short n lt)

  pub atom_long : 256 ≤ n → n < 2 ^ 16 → length (atom_tag n ∷ atom_length_field n) ≡ 3
  atom_long le lt = ap length (is.atom_long n le lt)

  pub arity_short : n < 256 → length (arity_field n) ≡ 1
  arity_short lt = omega (arith, ap length (is.tuple_short n lt))

  pub arity_long : 256 ≤ n → length (arity_field n) ≡ length (length_field n)
  arity_long le = omega (arith, ap length (is.tuple_long n le))

-- ---- terms

pub int_length : (z : ℤ) → length (canon (int z)) ≡ length (int_tag z ∷ int_contents z)
unfolding canon
int_length z = refl

pub atom_length : (s : List ℕ) → length (canon (atom s)) ≡ length (atom_tag (length s) ∷ atom_length_field (length s)) + length s
unfolding canon
atom_length s = length-append (atom_tag (length s) ∷ atom_length_field (length s)) s

pub bin_length : (s : List ℕ) → length (canon (bin s)) ≡ 1 + length (length_field (length s)) + length s
unfolding canon
bin_length s = omega (arith, length-append (109 ∷ length_field (length s)) s)

pub tuple_length : (ts us : PlainTerms) (n : ℕ) → us ≡ ts → n ≡ count ts → length (canon (tuple ts)) ≡ 1 + length (arity_field n) + length (canons us)
unfolding canon
tuple_length ts us n e c = omega (arith, length-append (tuple_tag (count ts) ∷ arity_field (count ts)) (canons ts), ap (λ m. length (arity_field m)) c, ap (λ vs. length (canons vs)) e)

pub map_length : (ps qs : PlainPairs) (n : ℕ) → qs ≡ ps → n ≡ pair_count ps → length (canon (map ps)) ≡ 1 + length (length_field n) + length (pair_canons qs)
unfolding canon
map_length ps qs n e c = omega (arith, length-append (116 ∷ length_field (pair_count ps)) (pair_canons ps), ap (λ m. length (length_field m)) c, ap (λ rs. length (pair_canons rs)) e)

bytes_count : (ts : PlainTerms) → length (bytes_of ts) ≡ count ts
bytes_count none = refl
bytes_count (one_more t ts) = ap suc (bytes_count ts)

module _ (ts us : PlainTerms) (n : ℕ) (same : us ≡ ts) (counted : n ≡ count ts) where
  pub empty_length : list_tag ts ≡ 106 → length (canon (list ts)) ≡ 1
  unfolding canon
  empty_length e = ap length (is.list_none ts e)

  pub bytes_length : list_tag ts ≡ 107 → length (canon (list ts)) ≡ 3 + n
  unfolding canon
  bytes_length e = omega (arith, ap length (is.list_bytes ts e), length-append (to_be_bytes w16 (count ts)) (bytes_of ts), bytes_count ts, counted)

  pub others_length : list_tag ts ≢ 106 → list_tag ts ≢ 107 → length (canon (list ts)) ≡ 2 + length (length_field n) + length (canons us)
  unfolding canon
  others_length e f =
      omega (
        arith,
        ap length (is.list_others ts e f),
        length-append (length_field (count ts) ++ canons ts) (106 ∷ []),
        length-append (length_field (count ts)) (canons ts),
        ap (λ m. length (length_field m)) counted,
        ap (λ vs. length (canons vs)) same,
      )

pub canons_more : (ts : List Term) (i : ℕ) (t : Term) → i < length ts → t ≡ get_or ts i t → length (canons (terms (take (i + 1) ts))) ≡ length (canons (terms (take i ts))) + length (canon (term t))
canons_more ts i t lt e = ap length (canons_next ts i t lt e) ∙ length-append (canons (terms (take i ts))) (canon (term t))

pub pairs_more : (ps : List (Term × Term)) (i : ℕ) (p : Term × Term) → i < length ps → p ≡ get_or ps i p
    → length (pair_canons (pairs (take (i + 1) ps))) ≡ length (pair_canons (pairs (take i ps))) + length (canon (term p.0)) + length (canon (term p.1))
pairs_more ps i p lt e = omega (arith, ap length (pairs_next ps i p lt e), length-append (pair_canons (pairs (take i ps)) ++ canon (term p.0)) (canon (term p.1)), length-append (pair_canons (pairs (take i ps))) (canon (term p.0)))

pub none_length : 0 ≡ min (length (canons none)) (2 ^ 64 - 1)
unfolding canon
none_length = refl

pub no_pair_length : 0 ≡ min (length (pair_canons no_pair)) (2 ^ 64 - 1)
unfolding canon
no_pair_length = refl
