-- The order of byte lists, and of terms: it is strict and total.
use Rattle.std.proofs.Common.{◌≡◌, ℕ, List, true, false, ◌||◌, refl, sym, ap, ◌∙◌, Ordering, Less, Equal, Greater, nat_cmp}
use Rattle.std.specs.Ordering.{is_lt, ordering_reverse}
use Rattle.std.specs.Cmp.Lexicographic.{slice_cmp}
use Rattle.std.specs.Cmp.{IsTotalOrder}
use Rattle.std.proofs.lemmas.Bool.{false≢true, or_left, or_right}
use Rattle.std.proofs.lemmas.Cmp.{nat_list_cmp_total}
use Rattle.tab_term.specs.Canon.{canon}
use Rattle.tab_term.specs.Data.{PlainTerm}
use Rattle.tab_term.specs.OrderLaws.{canon_same}
use Rattle.tab_term.specs.Numbers.{lists_are}
use Rattle.tab_term.specs.Same.{same, same-Decides}
use Rattle.tab_model.specs.Names.{before, less}

lt_is : (o : Ordering) → is_lt o ≡ true → o ≡ Less
lt_is Less h = refl
lt_is Equal h = cc
lt_is Greater h = cc

pub before-asym : (a b : List ℕ) → before a b ≡ true → before b a ≡ false
before-asym a b h =
    ap is_lt (IsTotalOrder.antisymm nat_list_cmp_total b a ∙ ap ordering_reverse (lt_is (slice_cmp nat_cmp a b) h))

pub before-trans : (a b c : List ℕ) → before a b ≡ true → before b c ≡ true → before a c ≡ true
before-trans a b c h k =
    ap is_lt (IsTotalOrder.trans nat_list_cmp_total a b c (lt_is (slice_cmp nat_cmp a b) h) (lt_is (slice_cmp nat_cmp b c) k))

pub less-asym : (a b : PlainTerm) → less a b ≡ true → less b a ≡ false
less-asym a b h = before-asym (canon a) (canon b) h

pub less-trans : (a b c : PlainTerm) → less a b ≡ true → less b c ≡ true → less a c ≡ true
less-trans a b c h k = before-trans (canon a) (canon b) (canon c) h k

pub less-irrefl : (a : PlainTerm) → less a a ≡ true → false ≡ true
less-irrefl a h = sym (less-asym a a h) ∙ h

-- of two byte lists one comes before the other, or they are one
pub before-linear : (a b : List ℕ) → before a b ≡ false → (before b a ≡ false) → a ≡ b
before-linear a b h k = by_case (slice_cmp nat_cmp a b) refl h
  where
    by_case : (o : Ordering) → slice_cmp nat_cmp a b ≡ o → is_lt o ≡ false → a ≡ b
    by_case Less e h = cc
    by_case Equal e h = lists_are a b e
    by_case Greater e h = absurd (false≢true (sym k ∙ ap is_lt (IsTotalOrder.antisymm nat_list_cmp_total b a ∙ ap ordering_reverse e)))

-- of two terms one comes before the other, or they are one
pub less-linear : (a b : PlainTerm) → less a b ≡ false → (same b a || less b a) ≡ true
less-linear a b h = by_case (slice_cmp nat_cmp (canon a) (canon b)) refl h
  where
    by_case : (o : Ordering) → slice_cmp nat_cmp (canon a) (canon b) ≡ o → is_lt o ≡ false → (same b a || less b a) ≡ true
    by_case Less e h = cc
    by_case Equal e h = or_left (same b a) (less b a) ((same-Decides b a).1 (sym (canon_same a b e)))
    by_case Greater e h = or_right (same b a) (less b a) (ap is_lt (IsTotalOrder.antisymm nat_list_cmp_total (canon b) (canon a) ∙ ap ordering_reverse e))
