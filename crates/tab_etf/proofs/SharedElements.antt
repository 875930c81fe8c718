-- A list of shared terms is gone over: what is done, and what is left of it.
use Rattle.std.proofs.Common.{◌≡◌, ◌≢◌, ℕ, ◌+◌, ◌-◌, ◌^◌, ◌<◌, ◌≤◌, min, List, [], ◌∷◌, ◌++◌, length, Option, refl, sym, ap, ◌∙◌, arith, append_assoc, append-nil, length-append, Bool, true, false, ◌&&◌, ltb, ◌==◌, inl, inr}
use Rattle.std.proofs.lemmas.Bool.{and_parts, cases_lt, le-ltb, ne_eqb}
use Rattle.tab_term.specs.Data.{PlainTerm, int, atom, tuple, list, bin, map, PlainTerms, none, one_more, plain_terms, count}
use Rattle.tab_term.specs.Canon.{is_byte_term, all_bytes, length_field, list_tag, canon, canons}
use Rattle.tab_etf.specs.declared.writer.Writer.{Writer}
use Rattle.tab_etf.specs.Writing.{Writes}
use Rattle.tab_etf.proofs.Lengths as Lengths
use Rattle.tab_etf.proofs.WritingLemmas.{writes_as, writes_then, writes_none}

-- ---- what is written

-- with the bytes that are left, those that are written are the whole
abbrev pub WritesAllBut : {W : Type 0} → (W → Option (List ℕ)) → (W → ℕ) → Writer W → Writer W → List ℕ → List ℕ → Type 0
WritesAllBut contents faults a b left whole = (s : List ℕ) × Writes contents faults a b s × (s ++ left ≡ whole)

module _ {W : Type 0} {contents : W → Option (List ℕ)} {faults : W → ℕ} where
  pub but_all : (a : Writer W) {left whole : List ℕ} → left ≡ whole → WritesAllBut contents faults a a left whole
  but_all a e = ([], writes_none a, e)

  pub but_less : {a b c : Writer W} {s left less whole : List ℕ} → WritesAllBut contents faults a b left whole → Writes contents faults b c s → left ≡ s ++ less → WritesAllBut contents faults a c less whole
  but_less {s = s} {less = less} p q e = (p.0 ++ s, writes_then p.1 q, append_assoc p.0 s less ∙ ap (λ (r : List ℕ). p.0 ++ r) (sym e) ∙ p.2)

  pub but_none : {a b : Writer W} {left whole : List ℕ} → WritesAllBut contents faults a b left whole → left ≡ [] → Writes contents faults a b whole
  but_none p e = writes_as p.1 (sym (append-nil p.0) ∙ ap (λ (r : List ℕ). p.0 ++ r) (sym e) ∙ p.2)

pub canons_first : (before after : List PlainTerm) (t : PlainTerm) → before ≡ t ∷ after → canons (plain_terms before) ≡ canon t ++ canons (plain_terms after)
unfolding canon
canons_first before after t e = ap (λ ts. canons (plain_terms ts)) e

pub canons_end : (left : List PlainTerm) → left ≡ [] → canons (plain_terms left) ≡ []
unfolding canon
canons_end left e = ap (λ ts. canons (plain_terms ts)) e

pub and_assoc : (a b c : Bool) → ((a && b) && c) ≡ (a && (b && c))
and_assoc true b c = refl
and_assoc false b c = refl

pub all_bytes_first : (before after : List PlainTerm) (t : PlainTerm) → before ≡ t ∷ after → all_bytes (plain_terms before) ≡ true → (is_byte_term t ≡ true) × (all_bytes (plain_terms after) ≡ true)
all_bytes_first before after t e h = and_parts (is_byte_term t) (all_bytes (plain_terms after)) (sym (ap (λ ts. all_bytes (plain_terms ts)) e) ∙ h)

-- ---- how much it is

canon_some : (t : PlainTerm) → 1 ≤ length (canon t)
unfolding canon
canon_some (int z) = omega arith
canon_some (atom s) = omega arith
canon_some (tuple ts) = omega arith
canon_some (list ts) = omega arith
canon_some (bin b) = omega arith
canon_some (map ps) = omega arith

pub count_canons : (ts : PlainTerms) → count ts ≤ length (canons ts)
unfolding canon
count_canons none = omega arith
count_canons (one_more t ts) = omega (arith, canon_some t, count_canons ts, length-append (canon t) (canons ts))

module _ (ts : PlainTerms) where
  long : list_tag ts ≢ 106 → list_tag ts ≢ 107 → length (canon (list ts)) ≡ 2 + length (length_field (count ts)) + length (canons ts)
  long = Lengths.others_length ts ts (count ts) refl refl

  -- a count that saturated is that of a list whose length saturates
  pub others_length : (n : ℕ) → n ≡ min (count ts) (2 ^ 64 - 1) → list_tag ts ≢ 106 → list_tag ts ≢ 107
      → min (length (canon (list ts))) (2 ^ 64 - 1) ≡ min (length (canons ts) + (length (length_field n) + 2)) (2 ^ 64 - 1)
  others_length n e f g =
      elim (cases_lt (count ts) (2 ^ 64)) [
        | inl lt ↦ let same : n ≡ count ts = omega (arith, e, lt) in omega (arith, long f g, ap (λ m. length (length_field m)) same)
        | inr le ↦ omega (arith, long f g, le, count_canons ts)
      ]

  wide_tag : 2 ^ 16 ≤ count ts → list_tag ts ≡ 108
  wide_tag le =
      let t : ltb (count ts) (2 ^ 16) ≡ false = le-ltb _ _ le in
      let u : (count ts == 0) ≡ false = ne_eqb _ _ (omega (arith, le)) in
      rw (t, u) refl

  -- a list whose length is of four bytes has a count of eight
  pub list_fits : length (canon (list ts)) ≤ 4294967295 → count ts < 2 ^ 64
  list_fits h =
      elim (cases_lt (count ts) (2 ^ 16)) [
        | inl lt ↦ omega (arith, lt)
        | inr le ↦ omega (arith, h, long (λ e. absurd (omega (arith, e, wide_tag le))) (λ e. absurd (omega (arith, e, wide_tag le))), count_canons ts)
      ]
