-- Which spelling is the canonical one, by cases.
use Rattle.std.proofs.Common.{◌≡◌, ◌≢◌, ℕ, ◌^◌, ◌<◌, ◌≤◌, ℤ, Bool, true, false, List, [], ◌∷◌, ◌++◌, length, refl, unsigned_abs, arith, ltb, ◌==◌, nat_lt, if◌then◌else◌, ◌&&◌}
use Rattle.std.specs.Int.{w16, w32, w64, to_be_bytes, cast_unsigned}
use Rattle.std.proofs.lemmas.Bool.{and_parts, eqb-true, le-ltb, lt-ltb, ltb-true}
use Rattle.tab_term.specs.Canon.{is_byte, fits_four, int_tag, int_contents, sign_of, magnitude, length_field, atom_tag, atom_length_field, tuple_tag, arity_field, all_bytes, bytes_of, list_tag, list_contents, canons}
use Rattle.tab_term.specs.Data.{PlainTerms, count}

-- ---- lengths

module _ (n : ℕ) where
  pub length_short : n < 4294967295 → length_field n ≡ to_be_bytes w32 n
  unfolding length_field
  length_short lt = let t : ltb n 4294967295 ≡ true = lt-ltb _ _ lt in rw t refl

  pub length_long : 4294967295 ≤ n → n < 2 ^ 64 → length_field n ≡ (255 ∷ 255 ∷ 255 ∷ 255 ∷ []) ++ to_be_bytes w64 n
  unfolding length_field
  length_long le lt =
      let t : ltb n 4294967295 ≡ false = le-ltb _ _ le in
      let u : ltb n (2 ^ 64) ≡ true = lt-ltb _ _ lt in
      rw (t, u) refl

  pub atom_short : n < 256 → atom_tag n ∷ atom_length_field n ≡ 119 ∷ n ∷ []
  unfolding atom_length_field
  atom_short lt = let t : ltb n 256 ≡ true = lt-ltb _ _ lt in rw t refl

  pub atom_long : 256 ≤ n → n < 2 ^ 16 → atom_tag n ∷ atom_length_field n ≡ 118 ∷ to_be_bytes w16 n
  unfolding atom_length_field
  atom_long le lt =
      let t : ltb n 256 ≡ false = le-ltb _ _ le in
      let u : ltb n (2 ^ 16) ≡ true = lt-ltb _ _ lt in
      rw (t, u) refl

  pub tuple_short : n < 256 → tuple_tag n ∷ arity_field n ≡ 104 ∷ n ∷ []
  unfolding arity_field
  tuple_short lt = let t : ltb n 256 ≡ true = lt-ltb _ _ lt in rw t refl

  pub tuple_long : 256 ≤ n → tuple_tag n ∷ arity_field n ≡ 105 ∷ length_field n
  unfolding arity_field
  tuple_long le = let t : ltb n 256 ≡ false = le-ltb _ _ le in rw t refl

-- ---- integers

abbrev pub big_bytes : ℤ → List ℕ
big_bytes z = 110 ∷ length (magnitude (unsigned_abs z)) ∷ sign_of z ∷ magnitude (unsigned_abs z)

module _ (z : ℤ) where
  pub int_one : is_byte z ≡ true → int_tag z ∷ int_contents z ≡ 97 ∷ unsigned_abs z ∷ []
  unfolding int_contents
  int_one t = rw t refl

  pub int_four : is_byte z ≡ false → fits_four z ≡ true → int_tag z ∷ int_contents z ≡ 98 ∷ to_be_bytes w32 (cast_unsigned w32 z)
  unfolding int_contents
  int_four t u = rw (t, u) refl

  pub int_big : is_byte z ≡ false → fits_four z ≡ false → int_tag z ∷ int_contents z ≡ big_bytes z
  unfolding int_contents
  int_big t u = rw (t, u) refl

-- ---- lists

abbrev tag_at : Bool → Bool → ℕ
tag_at p q = if p then 106 else (if q then 107 else 108)

abbrev written_at : Bool → Bool → List ℕ → List ℕ → List ℕ
written_at p q a b = tag_at p q ∷ (if p then [] else (if q then a else b))

at_none : (p q : Bool) (a b : List ℕ) → tag_at p q ≡ 106 → written_at p q a b ≡ 106 ∷ []
at_none true q a b e = refl
at_none false true a b e = absurd (omega arith)
at_none false false a b e = absurd (omega arith)

at_bytes : (p q : Bool) (a b : List ℕ) → tag_at p q ≡ 107 → (q ≡ true) × (written_at p q a b ≡ 107 ∷ a)
at_bytes true q a b e = absurd (omega arith)
at_bytes false true a b e = (refl, refl)
at_bytes false false a b e = absurd (omega arith)

at_others : (p q : Bool) (a b : List ℕ) → tag_at p q ≢ 106 → tag_at p q ≢ 107 → written_at p q a b ≡ 108 ∷ b
at_others true q a b n m = absurd (n refl)
at_others false true a b n m = absurd (m refl)
at_others false false a b n m = refl

at_empty : (p q : Bool) → tag_at p q ≡ 106 → p ≡ true
at_empty true q e = refl
at_empty false true e = absurd (omega arith)
at_empty false false e = absurd (omega arith)

at_string : (p q : Bool) → tag_at p q ≢ 106 → tag_at p q ≢ 108 → tag_at p q ≡ 107
at_string true q n m = absurd (n refl)
at_string false true n m = refl
at_string false false n m = absurd (m refl)

module _ (ts : PlainTerms) where
  abbrev written : List ℕ
  written = list_tag ts ∷ list_contents ts (canons ts)

  abbrev as_bytes : List ℕ
  as_bytes = to_be_bytes w16 (count ts) ++ bytes_of ts

  abbrev as_terms : List ℕ
  as_terms = length_field (count ts) ++ canons ts ++ 106 ∷ []

  pub list_none : list_tag ts ≡ 106 → written ≡ 106 ∷ []
  unfolding list_contents
  list_none e = at_none (count ts == 0) (nat_lt (count ts) (2 ^ 16) && all_bytes ts) as_bytes as_terms e

  bytes_at : list_tag ts ≡ 107 → ((nat_lt (count ts) (2 ^ 16) && all_bytes ts) ≡ true) × (written ≡ 107 ∷ as_bytes)
  unfolding list_contents
  bytes_at e = at_bytes (count ts == 0) (nat_lt (count ts) (2 ^ 16) && all_bytes ts) as_bytes as_terms e

  pub list_bytes : list_tag ts ≡ 107 → written ≡ 107 ∷ as_bytes
  list_bytes e = (bytes_at e).1

  pub list_short : list_tag ts ≡ 107 → count ts < 2 ^ 16
  list_short e = ltb-true (count ts) (2 ^ 16) (and_parts (nat_lt (count ts) (2 ^ 16)) (all_bytes ts) (bytes_at e).0).0

  pub list_of_bytes : list_tag ts ≡ 107 → all_bytes ts ≡ true
  list_of_bytes e = (and_parts (nat_lt (count ts) (2 ^ 16)) (all_bytes ts) (bytes_at e).0).1

  pub list_others : list_tag ts ≢ 106 → list_tag ts ≢ 107 → written ≡ 108 ∷ as_terms
  unfolding list_contents
  list_others n m = at_others (count ts == 0) (nat_lt (count ts) (2 ^ 16) && all_bytes ts) as_bytes as_terms n m

  pub list_empty : list_tag ts ≡ 106 → count ts ≡ 0
  list_empty e = eqb-true (count ts) 0 (at_empty (count ts == 0) (nat_lt (count ts) (2 ^ 16) && all_bytes ts) e)

  pub list_string : list_tag ts ≢ 106 → list_tag ts ≢ 108 → list_tag ts ≡ 107
  list_string n m = at_string (count ts == 0) (nat_lt (count ts) (2 ^ 16) && all_bytes ts) n m
