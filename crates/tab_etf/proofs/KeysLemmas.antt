-- Pairs in the order of their keys: one more put in, and one taken out.
use Rattle.std.proofs.Common.{◌≡◌, suc, Bool, true, false, ◌||◌, refl, sym, ap, ◌∙◌, max, arith}
use Rattle.std.specs.declared.cmp.Ordering.TheVariants.{Less, Equal, Greater}
use Rattle.std.specs.Ordering.{match_ordering, ordering_reverse, is_eq}
use Rattle.std.specs.Cmp.{IsTotalOrder}
use Rattle.tab_term.specs.Data.{PlainTerm, PlainPairs, no_pair, one_pair, pair_count, depth, pair_depths}
use Rattle.tab_term.specs.Same.{same}
use Rattle.tab_term.specs.OrderLaws.{matches_same, canon_total}
use Rattle.tab_etf.specs.Keys.{key_cmp, AllAbove, KeysAscend, HasOneMore, here, later, has_key, put_pair}

key_total : IsTotalOrder key_cmp
key_total = canon_total

-- ---- two keys

below_differs : (k l : PlainTerm) → key_cmp k l ≡ Less → same k l ≡ false
below_differs k l h = matches_same k l ∙ ap is_eq h

turned : (k l : PlainTerm) → key_cmp l k ≡ Less → key_cmp k l ≡ Greater
turned k l h = key_total.antisymm k l ∙ ap ordering_reverse h

above_differs : (k l : PlainTerm) → key_cmp l k ≡ Less → same k l ≡ false
above_differs k l h = matches_same k l ∙ ap is_eq (turned k l h)

neither : (p q : Bool) → p ≡ false → q ≡ false → (p || q) ≡ false
neither p q a b = rw (a, b) refl

first_not : (p q : Bool) → (p || q) ≡ false → p ≡ false
first_not true q e = absurd cc
first_not false q e = refl

second_not : (p q : Bool) → (p || q) ≡ false → q ≡ false
second_not true q e = absurd cc
second_not false q e = e

no_tie : (k l : PlainTerm) → same k l ≡ false → key_cmp k l ≡ Equal → ⊥
no_tie k l n e = let t : same k l ≡ true = matches_same k l ∙ ap is_eq e in let f : true ≡ false = sym t ∙ n in absurd cc

-- ---- one pair taken out

pub more_count : {k x : PlainTerm} {ps qs : PlainPairs} → HasOneMore k x ps qs → pair_count qs ≡ suc (pair_count ps)
more_count here = refl
more_count (later h) = ap suc (more_count h)

pub more_depth : {k x : PlainTerm} {ps qs : PlainPairs} → HasOneMore k x ps qs → pair_depths qs ≡ max (max (depth k) (depth x)) (pair_depths ps)
more_depth here = refl
more_depth (later h) = omega (arith, more_depth h)

above_of : {k x : PlainTerm} {ps qs : PlainPairs} (l : PlainTerm) → HasOneMore k x ps qs → AllAbove l qs → (key_cmp l k ≡ Less) × AllAbove l ps
above_of l here a = a
above_of l (later h) a = let b = above_of l h a.1 in (b.0, (a.0, b.1))

pub ascend_less : {k x : PlainTerm} {ps qs : PlainPairs} → HasOneMore k x ps qs → KeysAscend qs → KeysAscend ps
ascend_less here s = s.1
ascend_less (later {l} h) s = ((above_of l h s.0).1, ascend_less h s.1)

above_new : (k : PlainTerm) (ps : PlainPairs) → AllAbove k ps → has_key k ps ≡ false
above_new k no_pair a = refl
above_new k (one_pair l y ps) a = neither (same k l) (has_key k ps) (below_differs k l a.0) (above_new k ps a.1)

pub more_new : {k x : PlainTerm} {ps qs : PlainPairs} → HasOneMore k x ps qs → KeysAscend qs → has_key k ps ≡ false
more_new {k} (here {ps}) s = above_new k ps s.0
more_new {k} (later {l} {ps} h) s = neither (same k l) (has_key k ps) (above_differs k l (above_of l h s.0).0) (more_new h s.1)

put_first : (k x : PlainTerm) (ps : PlainPairs) → AllAbove k ps → put_pair k x ps ≡ one_pair k x ps
put_first k x no_pair a = refl
put_first k x (one_pair l y ps) a = rw a.0 refl

pub put_more : {k x : PlainTerm} {ps qs : PlainPairs} → HasOneMore k x ps qs → KeysAscend qs → put_pair k x ps ≡ qs
put_more {k} {x} (here {ps}) s = put_first k x ps s.0
put_more {k} (later {l} {y} h) s = rw (turned k l (above_of l h s.0).0) (ap (one_pair l y) (put_more h s.1))

-- ---- one pair put in

above_lower : (k l : PlainTerm) (ps : PlainPairs) → key_cmp k l ≡ Less → AllAbove l ps → AllAbove k ps
above_lower k l no_pair h a = tt
above_lower k l (one_pair m y ps) h a = (key_total.trans k l m h a.0, above_lower k l ps h a.1)

above_put : (j k x : PlainTerm) (ps : PlainPairs) → key_cmp j k ≡ Less → AllAbove j ps → AllAbove j (put_pair k x ps)
above_put j k x no_pair h a = (h, tt)
above_put j k x (one_pair l y ps) h a =
    elim (key_cmp k l) as (λ d. AllAbove j (match_ordering d (one_pair k x (one_pair l y ps)) (one_pair l x ps) (one_pair l y (put_pair k x ps)))) [
      | Less ↦ (h, a)
      | Equal ↦ a
      | Greater ↦ (a.0, above_put j k x ps h a.1)
    ]

pub put_ascends : (k x : PlainTerm) (ps : PlainPairs) → KeysAscend ps → KeysAscend (put_pair k x ps)
put_ascends k x no_pair s = (tt, tt)
put_ascends k x (one_pair l y ps) s =
    elim (key_cmp k l) as (λ d. key_cmp k l ≡ d → KeysAscend (match_ordering d (one_pair k x (one_pair l y ps)) (one_pair l x ps) (one_pair l y (put_pair k x ps)))) [
      | Less ↦ λ h. ((h, above_lower k l ps h s.0), s)
      | Equal ↦ λ h. s
      | Greater ↦ λ h. (above_put l k x ps (key_total.antisymm l k ∙ ap ordering_reverse h) s.0, put_ascends k x ps s.1)
    ] refl

pub put_is_more : (k x : PlainTerm) (ps : PlainPairs) → has_key k ps ≡ false → HasOneMore k x ps (put_pair k x ps)
put_is_more k x no_pair n = here
put_is_more k x (one_pair l y ps) n =
    elim (key_cmp k l) as (λ d. key_cmp k l ≡ d → HasOneMore k x (one_pair l y ps) (match_ordering d (one_pair k x (one_pair l y ps)) (one_pair l x ps) (one_pair l y (put_pair k x ps)))) [
      | Less ↦ λ h. here
      | Equal ↦ λ h. absurd (no_tie k l (first_not (same k l) (has_key k ps) n) h)
      | Greater ↦ λ h. later (put_is_more k x ps (second_not (same k l) (has_key k ps) n))
    ] refl
