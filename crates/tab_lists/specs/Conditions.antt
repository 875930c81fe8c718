-- Which records are found (Mnesia Reference Manual, match_object/1 and index_read/3).
use Rattle.std.specs.Prelude.{◌≡◌, Bool, true, List, Option, Some, None}
use Rattle.std.specs.List.{filter}
use Rattle.tab_term.specs.Data.{PlainTerm}
use Rattle.tab_term.specs.Pattern.{matches}
use Rattle.tab_term.specs.Same.{same}
use Rattle.tab_term.specs.View.{term}
use Rattle.tab_lists.specs.declared.condition.Condition.{Condition}
use Rattle.tab_lists.specs.declared.condition.Condition.TheVariants as condition
use Rattle.tab_term.specs.Tuples.{element}

-- a record fits a pattern, or has a value at a position
abbrev pub meets : Condition → PlainTerm → Bool
meets (condition.Matches p) r = matches (term p) r
meets (condition.Has n v) r = same (element n r) (term v)

-- the records that meet a condition; all, where there is none
abbrev pub chosen : Option Condition → List PlainTerm → List PlainTerm
chosen None rs = rs
chosen (Some c) rs = filter (meets c) rs

-- whether a record is among them
abbrev pub is_chosen : Option Condition → PlainTerm → Bool
is_chosen None r = true
is_chosen (Some c) r = meets c r

-- of all records, those that meet the condition are those that fit the pattern
abbrev pub AsksFor : Option Condition → PlainTerm → Type 0
AsksFor c p = (rs : List PlainTerm) → chosen c rs ≡ filter (matches p) rs
