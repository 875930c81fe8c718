-- What a mirror of a table does with a term (this project's own): the records of a dump marker are its rows, and the events
-- that follow change them, up to an end marker or an overflow.
use Rattle.std.specs.Prelude.{ℕ, List, [], ◌∷◌, Bool, true, false, ◌||◌, Option, Some, None}
use Rattle.tab_term.specs.Data.{PlainTerm}
use Rattle.tab_model.specs.declared.data.Change.{Change}
use Rattle.tab_model.specs.declared.data.Kind.{Kind}
use Rattle.tab_model.specs.Shapes.{change_of, in_table}
use Rattle.tab_model.specs.Tables.{Rows, put, apply}
use Rattle.tab_events.specs.declared.mirrored.Mirrored.{Mirrored}
use Rattle.tab_events.specs.declared.mirrored.Mirrored.TheVariants.{Begun, Applied, Ended, Other}
use Rattle.tab_events.specs.Marks.{dumped, is_overflow, is_end_mark}

-- a mirror: of which table, and its rows where they stand
pub record Held : Type 0 where
  pub table : List ℕ
  pub kind : Kind
  pub rows : Option Rows

-- the records, one after another
abbrev pub put_all : Kind → Rows → List PlainTerm → Rows
put_all kind rows [] = rows
put_all kind rows (r ∷ rs) = put_all kind (put kind rows r) rs

-- an event while rows stand
abbrev pub changed : Kind → Option Rows → Option Change → Option Rows × Mirrored
changed kind None c = (None, Other)
changed kind (Some rows) None = (Some rows, Other)
changed kind (Some rows) (Some c) = (Some (apply kind rows c), Applied)

-- an overflow or an end marker leaves no rows; any other term is taken as an event of the table
abbrev pub unless_ended : List ℕ → Kind → Option Rows → PlainTerm → Bool → Option Rows × Mirrored
unless_ended t kind rows x true = (None, Ended)
unless_ended t kind rows x false = changed kind rows (in_table t (change_of x))

-- a dump's records are the rows, whatever was there; any other term is an end or an event
abbrev pub unless_dumped : List ℕ → Kind → Option Rows → PlainTerm → Option Rows → Option Rows × Mirrored
unless_dumped t kind rows x (Some dump) = (Some (put_all kind [] dump), Begun)
unless_dumped t kind rows x None = unless_ended t kind rows x (is_overflow x || is_end_mark t x)

-- what a term leaves of a mirror's rows, and what it was
abbrev pub fed : List ℕ → Kind → Option Rows → PlainTerm → Option Rows × Mirrored
fed t kind rows x = unless_dumped t kind rows x (dumped t x)
