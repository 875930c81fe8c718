-- The order of terms, member by member. It is that of their canonical spellings as lists of bytes (Compare, OrderLaws).
use Rattle.std.specs.Prelude.{ℕ, List, length}
use Rattle.std.specs.Ordering.{nat_cmp, on, ordering_then}
use Rattle.std.proofs.Common.{Ordering, Less, Equal, Greater}
use Rattle.std.specs.Cmp.Lexicographic.{slice_cmp}
use Rattle.tab_term.specs.Data.{PlainTerm, int, atom, tuple, list, bin, map, PlainTerms, none, one_more, PlainPairs, no_pair, one_pair, count, pair_count}
use Rattle.tab_term.specs.Canon.{canon, tag, int_contents}
use Rattle.tab_term.specs.View.{term}
use Rattle.tab_term.specs.declared.term.Term.{Term}

-- byte by byte, as names are ordered too
abbrev pub bytes_cmp : List ℕ → List ℕ → Ordering
bytes_cmp = slice_cmp nat_cmp

-- terms of the program by their canonical spellings
abbrev pub term_cmp : Term → Term → Ordering
term_cmp = on (λ t. canon (term t)) bytes_cmp

-- the lesser tag first, and where the tags are one the answer o
abbrev pub by_tag : PlainTerm → PlainTerm → Ordering → Ordering
by_tag a b o = ordering_then (nat_cmp (tag a) (tag b)) o

-- the order of what follows the tags: counts or lengths first, then members from the first on
abbrev mutual
  -- where the tags are one
  pub contents_order : PlainTerm → PlainTerm → Ordering
  contents_order (int x) (int y) = slice_cmp nat_cmp (int_contents x) (int_contents y)
  contents_order (atom s) (atom t) = ordering_then (nat_cmp (length s) (length t)) (slice_cmp nat_cmp s t)
  contents_order (tuple xs) (tuple ys) = ordering_then (nat_cmp (count xs) (count ys)) (members_order xs ys)
  contents_order (list xs) (list ys) = ordering_then (nat_cmp (count xs) (count ys)) (members_order xs ys)
  contents_order (bin s) (bin t) = ordering_then (nat_cmp (length s) (length t)) (slice_cmp nat_cmp s t)
  contents_order (map ps) (map qs) = ordering_then (nat_cmp (pair_count ps) (pair_count qs)) (pairs_order ps qs)
  contents_order a b = Equal

  -- the first members that differ decide; where one list ends before the other, it is the lesser
  pub members_order : PlainTerms → PlainTerms → Ordering
  members_order none none = Equal
  members_order none (one_more y ys) = Less
  members_order (one_more x xs) none = Greater
  members_order (one_more x xs) (one_more y ys) = ordering_then (by_tag x y (contents_order x y)) (members_order xs ys)

  -- the first keys or values that differ decide; where one map ends before the other, it is the lesser
  pub pairs_order : PlainPairs → PlainPairs → Ordering
  pairs_order no_pair no_pair = Equal
  pairs_order no_pair (one_pair l y qs) = Less
  pairs_order (one_pair k x ps) no_pair = Greater
  pairs_order (one_pair k x ps) (one_pair l y qs) = ordering_then (ordering_then (by_tag k l (contents_order k l)) (by_tag x y (contents_order x y))) (pairs_order ps qs)

-- terms by their tags, and where these are one by what follows them
abbrev pub order : PlainTerm → PlainTerm → Ordering
order a b = by_tag a b (contents_order a b)
