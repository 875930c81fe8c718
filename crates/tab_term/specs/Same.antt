-- When two terms are one, and when a pattern matches a term.
use Rattle.std.specs.Prelude.{◌≡◌, Bool, true, false, ◌&&◌, refl}
use Rattle.std.specs.Ordering.{int_eq}
use Rattle.std.specs.Str.{bytes_eq}
use Rattle.std.specs.Cmp.{IsEquivalence}
use Rattle.std.specs.Bool.{Decides}
use Rattle.std.proofs.Common.{ap, ap₂, sym}
use Rattle.std.proofs.lemmas.Bool.{false≢true}
use Rattle.std.proofs.lemmas.Bool.Decides.{Decides-int_eq, Decides-and, Decides-like, same_from_decides}
use Rattle.std.proofs.lemmas.Slice.Eq.{bytes_eq-Decides}
use Rattle.tab_term.specs.Data.{PlainTerm, int, atom, tuple, list, bin, map, PlainTerms, none, one_more, PlainPairs, no_pair, one_pair}

-- terms of one kind with equal contents, to every depth; a map's pairs in their order
abbrev mutual
  -- two terms are equal
  pub same : PlainTerm → PlainTerm → Bool
  same (int x) (int y) = int_eq x y
  same (atom x) (atom y) = bytes_eq x y
  same (tuple xs) (tuple ys) = all_same xs ys
  same (list xs) (list ys) = all_same xs ys
  same (bin x) (bin y) = bytes_eq x y
  same (map xs) (map ys) = pairs_same xs ys
  same a b = false

  -- as many terms on both sides, and each equal to its own
  pub all_same : PlainTerms → PlainTerms → Bool
  all_same none none = true
  all_same (one_more x xs) (one_more y ys) = same x y && all_same xs ys
  all_same xs ys = false

  -- as many pairs on both sides, and each key and value equal to its own
  pub pairs_same : PlainPairs → PlainPairs → Bool
  pairs_same no_pair no_pair = true
  pairs_same (one_pair k x xs) (one_pair l y ys) = same k l && (same x y && pairs_same xs ys)
  pairs_same xs ys = false

mutual
  -- terms are equal exactly where they are one
  pub same-Decides : (a b : PlainTerm) → Decides (same a b) (a ≡ b)
  same-Decides (int x) (int y) = Decides-like (int_eq x y) (ap int) (λ e. cc) (Decides-int_eq x y)
  same-Decides (atom x) (atom y) = Decides-like (bytes_eq x y) (ap atom) (λ e. cc) (bytes_eq-Decides x y)
  same-Decides (tuple xs) (tuple ys) = Decides-like (all_same xs ys) (ap tuple) (λ e. cc) (all_same-Decides xs ys)
  same-Decides (list xs) (list ys) = Decides-like (all_same xs ys) (ap list) (λ e. cc) (all_same-Decides xs ys)
  same-Decides (bin x) (bin y) = Decides-like (bytes_eq x y) (ap bin) (λ e. cc) (bytes_eq-Decides x y)
  same-Decides (map xs) (map ys) = Decides-like (pairs_same xs ys) (ap map) (λ e. cc) (pairs_same-Decides xs ys)
  same-Decides a b = (λ e. absurd (false≢true e), λ e. absurd cc)

  -- lists of elements are equal exactly where they are one
  pub all_same-Decides : (xs ys : PlainTerms) → Decides (all_same xs ys) (xs ≡ ys)
  all_same-Decides none none = (λ _. refl, λ _. refl)
  all_same-Decides (one_more x xs) (one_more y ys) = Decides-like (same x y && all_same xs ys) (λ p. ap₂ one_more p.0 p.1) (λ e. (cc, cc)) (Decides-and (same x y) (all_same xs ys) (same-Decides x y) (all_same-Decides xs ys))
  all_same-Decides xs ys = (λ e. absurd (false≢true e), λ e. absurd cc)

  -- pairs are equal exactly where they are one
  pub pairs_same-Decides : (xs ys : PlainPairs) → Decides (pairs_same xs ys) (xs ≡ ys)
  pairs_same-Decides no_pair no_pair = (λ _. refl, λ _. refl)
  pairs_same-Decides (one_pair k x xs) (one_pair l y ys) = Decides-like (same k l && (same x y && pairs_same xs ys)) (λ p. cc3 p) (λ e. (cc, (cc, cc))) (Decides-and (same k l) (same x y && pairs_same xs ys) (same-Decides k l) (Decides-and (same x y) (pairs_same xs ys) (same-Decides x y) (pairs_same-Decides xs ys)))
    where
      cc3 : (k ≡ l) × ((x ≡ y) × (xs ≡ ys)) → one_pair k x xs ≡ one_pair l y ys
      cc3 p = let a = p.0 in let b = p.1.0 in let c = p.1.1 in cc
  pairs_same-Decides xs ys = (λ e. absurd (false≢true e), λ e. absurd cc)

-- equality of terms is an equivalence
pub same_equiv : IsEquivalence same
same_equiv = record {
  refl = λ x. (same-Decides x x).1 refl;
  symm = λ x y. same_from_decides (same x y) (same y x) (same-Decides x y) (Decides-like (same y x) sym sym (same-Decides y x));
  congr = λ x y z e. ap (λ t. same t z) ((same-Decides x y).0 e);
}

-- equality of texts is an equivalence
pub bytes_equiv : IsEquivalence bytes_eq
bytes_equiv = record {
  refl = λ x. (bytes_eq-Decides x x).1 refl;
  symm = λ x y. same_from_decides (bytes_eq x y) (bytes_eq y x) (bytes_eq-Decides x y) (Decides-like (bytes_eq y x) sym sym (bytes_eq-Decides y x));
  congr = λ x y z e. ap (λ t. bytes_eq t z) ((bytes_eq-Decides x y).0 e);
}
