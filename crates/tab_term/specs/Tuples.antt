-- Tuples and their elements.
use Rattle.std.specs.Prelude.{ℕ, suc, zero, ◌-◌, pos, codes}
use Rattle.tab_term.specs.Data.{PlainTerm, int, atom, tuple, list, bin, map, PlainTerms, none, one_more, pair}

-- the element at an index, counted from 0; `[]` if there is none
abbrev pub nth : ℕ → PlainTerms → PlainTerm
nth n none = list none
nth zero (one_more t ts) = t
nth (suc n) (one_more t ts) = nth n ts

-- the element of a record at a position, counted from 1
abbrev pub element : ℕ → PlainTerm → PlainTerm
element p (tuple ts) = nth (p - 1) ts
element p (int z) = list none
element p (atom s) = list none
element p (list ts) = list none
element p (bin b) = list none
element p (map ps) = list none

-- a tuple of five elements
abbrev pub five : PlainTerm → PlainTerm → PlainTerm → PlainTerm → PlainTerm → PlainTerm
five a b c d e = tuple (one_more a (one_more b (one_more c (one_more d (one_more e none)))))

-- the activity id of an event, {tid, Age} (this project's own)
abbrev pub tid : ℕ → PlainTerm
tid age = pair (atom (codes "tid")) (int (pos age))
