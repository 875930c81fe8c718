-- The term that a value of the program is.
use Rattle.std.specs.Prelude.{List, [], ◌∷◌}
use Rattle.tab_term.specs.declared.term.Term.{Term}
use Rattle.tab_term.specs.declared.term.Term.TheVariants as is
use Rattle.tab_term.specs.Data.{PlainTerm, int, atom, tuple, list, bin, map, PlainTerms, none, one_more, PlainPairs, no_pair, one_pair}

-- the term that a value of the program is, whose members are seen as terms already
abbrev pub term : Term → PlainTerm
term (is.Int z) = int z
term (is.Atom a) = atom a
term (is.Tuple ts) = tuple ts
term (is.List ts) = list ts
term (is.Bin b) = bin b
term (is.Map ps) = map ps

-- the terms that these values are, in their order
abbrev pub terms : List Term → PlainTerms
terms [] = none
terms (t ∷ ts) = one_more (term t) (terms ts)

-- the pairs that these pairs of values are, in their order
abbrev pub pairs : List (Term × Term) → PlainPairs
pairs [] = no_pair
pairs (p ∷ ps) = one_pair (term p.0) (term p.1) (pairs ps)
