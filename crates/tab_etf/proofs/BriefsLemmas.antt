-- Words and numbers as they are spelled, and bytes that are added one after another.
use Rattle.std.proofs.Common.{◌≡◌, ℕ, pos, ◌+◌, ◌^◌, ◌<◌, ◌≤◌, List, [], ◌∷◌, ◌++◌, length, refl, sym, ap, subst, ◌∙◌, append_assoc, arith, length-append}
use Rattle.std.specs.Global.{Vec}
use Rattle.std.specs.Int.{w32, to_be_bytes}
use Rattle.std.proofs.lemmas.Bool.{le-ltb, lt-ltb}
use Rattle.tab_term.specs.Canon.{canon, int_tag, int_contents, magnitude}
use Rattle.tab_term.specs.Data.{PlainTerm, int, atom, pair}
use Rattle.tab_etf.specs.Briefs.{AddsInPlace}
use Rattle.tab_etf.specs.Frames.{frame}
use Rattle.tab_etf.proofs.CanonLemmas as is
use Rattle.tab_etf.proofs.OutlinesLemmas.{pair_canon}

-- ---- spellings

pub word_canon : (s : List ℕ) → length s < 256 → canon (atom s) ≡ (119 ∷ length s ∷ []) ++ s
unfolding canon
word_canon s lt = ap (λ (h : List ℕ). h ++ s) (is.atom_short (length s) lt)

pub word_length : (s : List ℕ) → length s < 256 → length (canon (atom s)) ≡ 2 + length s
word_length s lt = ap length (word_canon s lt) ∙ length-append (119 ∷ length s ∷ []) s

module _ (n : ℕ) where
  pub number_canon : canon (int (pos n)) ≡ int_tag (pos n) ∷ int_contents (pos n)
  unfolding canon
  number_canon = refl

  pub number_one : n < 256 → int_tag (pos n) ∷ int_contents (pos n) ≡ 97 ∷ n ∷ []
  number_one lt = is.int_one (pos n) (lt-ltb _ _ lt)

  pub number_four : 256 ≤ n → n < 2 ^ 31 → int_tag (pos n) ∷ int_contents (pos n) ≡ 98 ∷ to_be_bytes w32 n
  number_four le lt = is.int_four (pos n) (le-ltb _ _ le) (lt-ltb _ _ lt)

  pub number_big : 2 ^ 31 ≤ n → int_tag (pos n) ∷ int_contents (pos n) ≡ 110 ∷ length (magnitude n) ∷ 0 ∷ magnitude n
  number_big le = is.int_big (pos n) (le-ltb _ _ (omega (arith, le))) (le-ltb _ _ le)

-- ---- one after another

pub adds_then : {a b c : Vec ℕ} {s t : List ℕ} → AddsInPlace a b s → AddsInPlace b c t → AddsInPlace a c (s ++ t)
adds_then {a} {b} {c} {s} {t} p q = record {
  items = q.items ∙ ap (λ (r : List ℕ). r ++ t) p.items ∙ append_assoc a.items s t;
  len = omega (arith, p.len, q.len, length-append s t);
  capacity = omega (arith, p.capacity, q.capacity);
}

pub adds_as : {a b : Vec ℕ} {s t : List ℕ} → AddsInPlace a b s → s ≡ t → AddsInPlace a b t
adds_as {a} {b} p e = subst (λ (r : List ℕ). AddsInPlace a b r) e p

-- a length, the version byte, and the parts of a pair behind its head
pub framed : (old now after head : List ℕ) (first second : PlainTerm) (n : ℕ) → now ≡ old → head ≡ to_be_bytes w32 n ++ 131 ∷ []
    → after ≡ now ++ (((head ++ 104 ∷ 2 ∷ []) ++ canon first) ++ canon second) → n ≡ length (131 ∷ canon (pair first second))
    → after ≡ old ++ frame (131 ∷ canon (pair first second))
framed old now after head first second n o h a e =
    let rest : List ℕ = canon first ++ canon second in
    a ∙ ap (λ (r : List ℕ). r ++ (((head ++ 104 ∷ 2 ∷ []) ++ canon first) ++ canon second)) o
    ∙ ap (λ (r : List ℕ). old ++ r)
    (append_assoc (head ++ 104 ∷ 2 ∷ []) (canon first) (canon second)
    ∙ append_assoc head (104 ∷ 2 ∷ []) rest
    ∙ ap (λ (r : List ℕ). r ++ 104 ∷ 2 ∷ rest) h
    ∙ append_assoc (to_be_bytes w32 n) (131 ∷ []) (104 ∷ 2 ∷ rest)
    ∙ ap (λ (r : List ℕ). to_be_bytes w32 n ++ 131 ∷ r) (sym (pair_canon first second))
    ∙ ap (λ m. to_be_bytes w32 m ++ 131 ∷ canon (pair first second)) e)
