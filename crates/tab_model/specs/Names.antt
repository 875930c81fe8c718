-- Words of terms, as bytes; their order and equality (this project's own rule: names and terms are ordered by their bytes).
use Rattle.std.specs.Prelude.{ℕ, pos, List, [], ◌∷◌, Bool}
use Rattle.std.specs.List.{list_any}
use Rattle.std.specs.Ordering.{nat_cmp, is_lt}
use Rattle.std.specs.Cmp.Lexicographic.{slice_cmp}
use Rattle.std.specs.Str.{bytes_eq}
use Rattle.tab_term.specs.Data.{PlainTerm, int, atom, PlainTerms, none, one_more}
use Rattle.tab_term.specs.Canon.{canon}
-- lists of terms as the elements of a term, and back
pub use Rattle.tab_term.specs.Data.{plain_terms, terms_list}

-- byte lists in their order
abbrev pub before : List ℕ → List ℕ → Bool
before a b = is_lt (slice_cmp nat_cmp a b)

-- terms in the order of their canonical bytes
abbrev pub less : PlainTerm → PlainTerm → Bool
less a b = before (canon a) (canon b)

-- the name is in the list
abbrev pub has_name : List (List ℕ) → List ℕ → Bool
has_name names n = list_any (bytes_eq n) names

-- a number from 0 on as a term
abbrev pub number : ℕ → PlainTerm
number n = int (pos n)

-- names as the elements of a term, each an atom
abbrev pub names : List (List ℕ) → PlainTerms
names [] = none
names (n ∷ ns) = one_more (atom n) (names ns)

-- numbers as the elements of a term, each an integer
abbrev pub numbers : List ℕ → PlainTerms
numbers [] = none
numbers (n ∷ ns) = one_more (number n) (numbers ns)
