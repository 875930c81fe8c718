-- Begin and end markers and overflow, as a subscriber is told them (this project's own).
use Rattle.std.specs.Prelude.{ℕ, suc, pos, List, Bool, true, false, ◌&&◌, ◌||◌, if◌then◌else◌, Option, Some, None, codes}
use Rattle.std.specs.List.{list_all}
use Rattle.std.specs.Str.{bytes_eq}
use Rattle.tab_term.specs.Data.{PlainTerm, int, atom, tuple, list, none, one_more}
use Rattle.tab_model.specs.Names.{terms_list}
use Rattle.tab_model.specs.Tables.{Rows}

-- a record of the table: arity 3 or more, the table's name first
abbrev pub is_row_of : List ℕ → PlainTerm → Bool
is_row_of t (tuple (one_more (atom n) (one_more k (one_more v vs)))) = bytes_eq n t
is_row_of t x = false

-- the term is the atom of this text
abbrev pub is_named : List ℕ → PlainTerm → Bool
is_named t (atom n) = bytes_eq n t
is_named t x = false

-- the term is one of the atoms simple and detailed
abbrev pub is_level : PlainTerm → Bool
is_level x = is_named (codes "simple") x || is_named (codes "detailed") x

-- the term is one of the atoms unsubscribed and deleted
abbrev pub is_ending : PlainTerm → Bool
is_ending x = is_named (codes "unsubscribed") x || is_named (codes "deleted") x

-- a commit's number, from 1 on
abbrev pub is_commit : PlainTerm → Bool
is_commit (int (pos (suc n))) = true
is_commit x = false

-- the members of a list, where each is a record of the table
abbrev pub rows_in : List ℕ → PlainTerm → Option Rows
rows_in t (list rs) = if list_all (is_row_of t) (terms_list rs) then Some (terms_list rs) else None
rows_in t x = None

-- the records of `{mnesia_table_begin, Tab, Level, Records}`
abbrev pub dumped : List ℕ → PlainTerm → Option Rows
dumped t (tuple (one_more word (one_more name (one_more level (one_more records none))))) =
    if is_named (codes "mnesia_table_begin") word && (is_named t name && is_level level) then rows_in t records else None
dumped t x = None

-- `{mnesia_overflow, N}`
abbrev pub is_overflow : PlainTerm → Bool
is_overflow (tuple (one_more word (one_more n none))) = is_named (codes "mnesia_overflow") word && is_commit n
is_overflow x = false

-- `{mnesia_table_end, Tab, Ending}`
abbrev pub is_end_mark : List ℕ → PlainTerm → Bool
is_end_mark t (tuple (one_more word (one_more name (one_more ending none)))) =
    is_named (codes "mnesia_table_end") word && (is_named t name && is_ending ending)
is_end_mark t x = false
