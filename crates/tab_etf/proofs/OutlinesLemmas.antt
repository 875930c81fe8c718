-- The canonical spelling of a term that is given by its parts.
use Rattle.std.proofs.Common.{◌≡◌, ◌≤◌, ℕ, ◌+◌, List, [], ◌∷◌, ◌++◌, length, refl, sym, ap, ◌∙◌, arith, length-append, Option, Some, None}
use Rattle.std.proofs.lemmas.List.{append-nil}
use Rattle.tab_term.specs.Data.{PlainTerm, tuple, none, one_more, pair, triple}
use Rattle.tab_term.specs.Canon.{canon}
use Rattle.tab_term.specs.Tuples.{five}
use Rattle.tab_etf.proofs.CanonLemmas as is
use Rattle.tab_etf.specs.declared.outline.Leaf.{Leaf}
use Rattle.tab_etf.specs.declared.outline.Leaf.TheVariants as leaf
use Rattle.tab_etf.specs.declared.outline.Body.{Body}
use Rattle.tab_etf.specs.declared.outline.Body.TheVariants as body
use Rattle.tab_etf.specs.declared.outline.Outline.{Outline}
use Rattle.tab_etf.specs.declared.writer.Writer.{Writer}
use Rattle.tab_etf.specs.Writing.{Writes}
use Rattle.tab_etf.proofs.SharedElements.{list_fits}
use Rattle.tab_etf.proofs.WritingLemmas.{writes_as, writes_then}
use Rattle.tab_etf.specs.Outlines.{leaf_term, body_term, outline_term, under, head_canon, OfHead, OfBody, OfOutline, IsShort, IsShortOutline, IsWritable}

pub pair_canon : (a b : PlainTerm) → canon (pair a b) ≡ (104 ∷ 2 ∷ []) ++ (canon a ++ canon b)
unfolding canon
pair_canon a b = ap (λ (h : List ℕ). h ++ (canon a ++ (canon b ++ []))) (is.tuple_short 2 (omega arith)) ∙ ap (λ (x : List ℕ). 104 ∷ 2 ∷ (canon a ++ x)) (append-nil (canon b))

pub triple_canon : (a b c : PlainTerm) → canon (triple a b c) ≡ (104 ∷ 3 ∷ []) ++ (canon a ++ (canon b ++ canon c))
unfolding canon
triple_canon a b c = ap (λ (h : List ℕ). h ++ (canon a ++ (canon b ++ (canon c ++ [])))) (is.tuple_short 3 (omega arith)) ∙ ap (λ (x : List ℕ). 104 ∷ 3 ∷ (canon a ++ (canon b ++ x))) (append-nil (canon c))

abbrev four : PlainTerm → PlainTerm → PlainTerm → PlainTerm → PlainTerm
four a b c d = tuple (one_more a (one_more b (one_more c (one_more d none))))

pub four_canon : (a b c d : PlainTerm) → canon (four a b c d) ≡ (104 ∷ 4 ∷ []) ++ (canon a ++ (canon b ++ (canon c ++ canon d)))
unfolding canon
four_canon a b c d = ap (λ (h : List ℕ). h ++ (canon a ++ (canon b ++ (canon c ++ (canon d ++ []))))) (is.tuple_short 4 (omega arith)) ∙ ap (λ (x : List ℕ). 104 ∷ 4 ∷ (canon a ++ (canon b ++ (canon c ++ x)))) (append-nil (canon d))

pub five_canon : (a b c d e : PlainTerm) → canon (five a b c d e) ≡ (104 ∷ 5 ∷ []) ++ (canon a ++ (canon b ++ (canon c ++ (canon d ++ canon e))))
unfolding canon
five_canon a b c d e = ap (λ (h : List ℕ). h ++ (canon a ++ (canon b ++ (canon c ++ (canon d ++ (canon e ++ [])))))) (is.tuple_short 5 (omega arith)) ∙ ap (λ (x : List ℕ). 104 ∷ 5 ∷ (canon a ++ (canon b ++ (canon c ++ (canon d ++ x))))) (append-nil (canon e))

pub under_canon : (o : Option Leaf) (t : PlainTerm) → canon (under o t) ≡ head_canon o ++ canon t
under_canon None t = refl
under_canon (Some l) t = pair_canon (leaf_term l) t

pub outline_canon : (o : Outline) → canon (outline_term o) ≡ head_canon o.first ++ (head_canon o.second ++ canon (body_term o.body))
outline_canon o = under_canon o.first (under o.second (body_term o.body)) ∙ ap (λ (x : List ℕ). head_canon o.first ++ x) (under_canon o.second (body_term o.body))

pub pair_length : (a b : PlainTerm) → length (canon (pair a b)) ≡ 2 + length (canon a) + length (canon b)
pair_length a b = omega (arith, ap length (pair_canon a b), length-append (canon a) (canon b))

pub triple_length : (a b c : PlainTerm) → length (canon (triple a b c)) ≡ 2 + length (canon a) + length (canon b) + length (canon c)
triple_length a b c = omega (arith, ap length (triple_canon a b c), length-append (canon a) (canon b ++ canon c), length-append (canon b) (canon c))

pub four_length : (a b c d : PlainTerm) → length (canon (four a b c d)) ≡ 2 + length (canon a) + length (canon b) + length (canon c) + length (canon d)
four_length a b c d = omega (arith, ap length (four_canon a b c d), length-append (canon a) (canon b ++ (canon c ++ canon d)), length-append (canon b) (canon c ++ canon d), length-append (canon c) (canon d))

pub five_length : (a b c d e : PlainTerm) → length (canon (five a b c d e)) ≡ 2 + length (canon a) + length (canon b) + length (canon c) + length (canon d) + length (canon e)
five_length a b c d e =
    omega (
      arith,
      ap length (five_canon a b c d e),
      length-append (canon a) (canon b ++ (canon c ++ (canon d ++ canon e))),
      length-append (canon b) (canon c ++ (canon d ++ canon e)),
      length-append (canon c) (canon d ++ canon e),
      length-append (canon d) (canon e),
    )

pub outline_length : (o : Outline) → length (canon (outline_term o)) ≡ length (head_canon o.first) + length (head_canon o.second) + length (canon (body_term o.body))
outline_length o = omega (arith, ap length (outline_canon o), length-append (head_canon o.first) (head_canon o.second ++ canon (body_term o.body)), length-append (head_canon o.second) (canon (body_term o.body)))

-- ---- what is written, part by part

module _ {W : Type 0} {contents : W → Option (List ℕ)} {faults : W → ℕ} where
  pub writes_pair : {a b c d : Writer W} (s t : PlainTerm) → Writes contents faults a b (104 ∷ 2 ∷ []) → Writes contents faults b c (canon s) → Writes contents faults c d (canon t) → Writes contents faults a d (canon (pair s t))
  writes_pair s t p q r = writes_as (writes_then p (writes_then q r)) (sym (pair_canon s t))

  pub writes_triple : {a b c d e : Writer W} (s t u : PlainTerm) → Writes contents faults a b (104 ∷ 3 ∷ []) → Writes contents faults b c (canon s) → Writes contents faults c d (canon t) → Writes contents faults d e (canon u) → Writes contents faults a e (canon (triple s t u))
  writes_triple s t u p q r w = writes_as (writes_then p (writes_then q (writes_then r w))) (sym (triple_canon s t u))

  pub writes_four : {a b c d e f : Writer W} (s t u v : PlainTerm) → Writes contents faults a b (104 ∷ 4 ∷ []) → Writes contents faults b c (canon s) → Writes contents faults c d (canon t) → Writes contents faults d e (canon u) → Writes contents faults e f (canon v) → Writes contents faults a f (canon (four s t u v))
  writes_four s t u v p q r w x = writes_as (writes_then p (writes_then q (writes_then r (writes_then w x)))) (sym (four_canon s t u v))

  pub writes_five : {a b c d e f g : Writer W} (s t u v w : PlainTerm) → Writes contents faults a b (104 ∷ 5 ∷ []) → Writes contents faults b c (canon s) → Writes contents faults c d (canon t) → Writes contents faults d e (canon u) → Writes contents faults e f (canon v) → Writes contents faults f g (canon w) → Writes contents faults a g (canon (five s t u v w))
  writes_five s t u v w p q r x y z = writes_as (writes_then p (writes_then q (writes_then r (writes_then x (writes_then y z))))) (sym (five_canon s t u v w))

  pub writes_outline : {a b c d : Writer W} (o : Outline) → Writes contents faults a b (head_canon o.first) → Writes contents faults b c (head_canon o.second) → Writes contents faults c d (canon (body_term o.body)) → Writes contents faults a d (canon (outline_term o))
  writes_outline o p q r = writes_as (writes_then p (writes_then q r)) (sym (outline_canon o))

-- ---- what is not too long

fits_leaf : (l : Leaf) → IsShort l → length (canon (leaf_term l)) ≤ 4294967295 → IsWritable l
fits_leaf (leaf.Word text) s h = s
fits_leaf (leaf.Number n) s h = tt
fits_leaf (leaf.Held t) s h = tt
fits_leaf (leaf.List ts) s h = tt
fits_leaf (leaf.SharedList ts m) s h = (s, list_fits ts.now h)
fits_leaf (leaf.Answers ts n) s h = h
fits_leaf (leaf.Event e n) s h = h
fits_leaf (leaf.Events es n) s h = h

fits_head : (o : Option Leaf) → OfHead IsShort o → length (head_canon o) ≤ 4294967295 → OfHead IsWritable o
fits_head None s h = tt
fits_head (Some l) s h = fits_leaf l s (omega (arith, h))

fits_body : (b : Body) → OfBody IsShort b → length (canon (body_term b)) ≤ 4294967295 → OfBody IsWritable b
fits_body (body.One a) s h = fits_leaf a s h
fits_body (body.Two a b) s h =
    let e = pair_length (leaf_term a) (leaf_term b) in
    (fits_leaf a s.0 (omega (arith, e, h)), fits_leaf b s.1 (omega (arith, e, h)))
fits_body (body.Three a b c) s h =
    let e = triple_length (leaf_term a) (leaf_term b) (leaf_term c) in
    (fits_leaf a s.0 (omega (arith, e, h)), fits_leaf b s.1 (omega (arith, e, h)), fits_leaf c s.2 (omega (arith, e, h)))
fits_body (body.Four a b c d) s h =
    let e = four_length (leaf_term a) (leaf_term b) (leaf_term c) (leaf_term d) in
    (fits_leaf a s.0 (omega (arith, e, h)), fits_leaf b s.1 (omega (arith, e, h)), fits_leaf c s.2 (omega (arith, e, h)), fits_leaf d s.3 (omega (arith, e, h)))

-- what is written of an outline that is not too long has counts that fit
pub outline_fits : (o : Outline) → IsShortOutline o → length (canon (outline_term o)) ≤ 4294967295 → OfOutline IsWritable o
outline_fits o s h =
    let e = outline_length o in
    (fits_head o.first s.0 (omega (arith, e, h)), fits_head o.second s.1 (omega (arith, e, h)), fits_body o.body s.2 (omega (arith, e, h)))
