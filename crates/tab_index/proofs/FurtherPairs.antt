-- What counts of further records that are made of pairs, one after the other, are of.
use Rattle.std.proofs.Common.{◌≡◌, ◌<◌, ℕ, ◌+◌, ◌-◌, List, [], Bool, true, false, ◌&&◌, take, get_or, length, sym, ap, ap₂, ◌∙◌, subst, map, arith}
use Rattle.std.specs.Prelude.{if◌then◌else◌}
use Rattle.std.specs.Cmp.{IsEquivalence}
use Rattle.std.specs.List.{count_by}
use Rattle.std.specs.List.Sorted.{IsPermutation}
use Rattle.std.proofs.lemmas.List.Sums.{sum_by_more}
use Rattle.std.proofs.lemmas.List.Sorted.{sum_by-IsPermutation}
use Rattle.tab_term.specs.declared.term.Term.{Term}
use Rattle.tab_term.specs.Data.{PlainTerm}
use Rattle.tab_term.specs.Same.{same, same_equiv}
use Rattle.tab_term.specs.View.{term}
use Rattle.tab_model.specs.Tables.{Rows, key, at, has_key}
use Rattle.tab_model.specs.WholeTables.{element}
use Rattle.tab_index.specs.IndexOf.{Entry, has_pair, has_value, is_pair}
use Rattle.tab_index.specs.FurtherOf.{KeyCounts, AreFilled, further_of, how_many, IsAdded, IsFurtherOf}
use Rattle.tab_index.specs.Pairs.{Pair, pair_of, are_paired, HasPairs, CountsPairs}
use Rattle.tab_index.proofs.CountLemmas.{bit, count-map, count-filter, count_same, none_counted, some_counted}

same_sym : (a b : PlainTerm) → same a b ≡ same b a
same_sym = IsEquivalence.symm same_equiv

-- how many pairs are this value and key
abbrev pairs_with : Term → Term → List Pair → ℕ
pairs_with v k qs = count_by (λ q. same (term v) q.0 && same (term k) q.1) qs

count_of_rows : (p : ℕ) (rows : Rows) (v k : Term) → pairs_with v k (map (pair_of p) rows) ≡ how_many p (term v) (at rows (term k))
count_of_rows p rows v k =
    count-map (λ (q : Pair). same (term v) q.0 && same (term k) q.1) (pair_of p) rows
    ∙ count_same (λ r. same (term v) (element p r) && same (term k) (key r)) (λ r. has_value p (term v) r && has_key (term k) r) rows (λ r. ap₂ (λ a b. a && b) (same_sym (term v) (element p r)) (same_sym (term k) (key r)))
    ∙ sym (count-filter (has_value p (term v)) (has_key (term k)) rows)

-- counts of the pairs of records, in any order, are counts of those
pub further_of_pairs : (p : ℕ) (rows : Rows) (qs rs : List Pair) (ms : List KeyCounts) → qs ≡ map (pair_of p) rows → IsPermutation qs rs → CountsPairs rs ms → IsFurtherOf rows p ms
further_of_pairs p rows qs rs ms are moved has = record {
  counts = λ v k. has.counts v k
      ∙ ap (λ n. n - 1) (sum_by-IsPermutation (λ (q : Pair). bit (same (term v) q.0 && same (term k) q.1)) qs rs moved ∙ ap (pairs_with v k) are ∙ count_of_rows p rows v k);
  filled = has.filled;
}

-- where no counts are kept
none_filled : AreFilled []
none_filled = record { keys = λ k h. cc; counts = λ k v h. cc }

pub no_counts : (qs : List Pair) (ms : List KeyCounts) → ms ≡ [] → CountsPairs (take 0 qs) ms
no_counts qs ms none = record { counts = λ v k. ap (λ z. further_of z v k) none; filled = subst AreFilled (sym none) none_filled }

pub one_more_counted : (qs : List Pair) (i : ℕ) (q : Pair) (es : List Entry) (ms ns : List KeyCounts) → i < length qs → q ≡ get_or qs i q → HasPairs (take i qs) es → CountsPairs (take i qs) ms → IsAdded es ms ns q.0 q.1 → CountsPairs (take (i + 1) qs) ns
one_more_counted qs i q es ms ns within is has was w = record {
  counts = λ v k. w.counts v k
      ∙ cases v k (is_pair q.0 q.1 v k) (has_pair es v k) (has.pairs v k) (was.counts v k)
      (sum_by_more (λ (z : Pair). bit (same (term v) z.0 && same (term k) z.1)) qs i q within ∙ ap (λ (z : Pair). pairs_with v k (take i qs) + bit (same (term v) z.0 && same (term k) z.1)) (sym is));
  filled = w.filled was.filled;
}
  where
    cases : (v k : Term) (b c : Bool) → c ≡ are_paired (take i qs) (term v) (term k) → further_of ms v k ≡ pairs_with v k (take i qs) - 1 → pairs_with v k (take (i + 1) qs) ≡ pairs_with v k (take i qs) + bit b
        → (if b && c then further_of ms v k + 1 else further_of ms v k) ≡ pairs_with v k (take (i + 1) qs) - 1
    cases v k true true there f more = let some = some_counted (λ (z : Pair). same (term v) z.0 && same (term k) z.1) (take i qs) (sym there) in omega (arith, some, f, more)
    cases v k true false none f more = let no = none_counted (λ (z : Pair). same (term v) z.0 && same (term k) z.1) (take i qs) (sym none) in omega (arith, no, f, more)
    cases v k false c there f more = omega (arith, f, more)
