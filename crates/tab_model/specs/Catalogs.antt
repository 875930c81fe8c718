-- All tables, in the order of their names' bytes (the order is this project's own rule).
use Rattle.std.specs.Prelude.{◌≡◌, ℕ, List, [], ◌∷◌, true, if◌then◌else◌, Option, Some, None, find as first_of}
use Rattle.std.specs.Str.{bytes_eq}
use Rattle.tab_term.specs.Data.{PlainTerm}
use Rattle.tab_model.specs.declared.data.TableDef.{TableDef}
use Rattle.tab_model.specs.Names.{before}
use Rattle.tab_model.specs.Tables.{Rows, at, is_ordered}

-- a table: its definition and its records
pub record Table : Type 0 where
  pub def : TableDef
  pub rows : Rows

-- all tables, as a list in the order of their names' bytes
abbrev pub Catalog : Type 0
Catalog = List Table

-- a table's name
abbrev pub name_of : Table → List ℕ
name_of t = t.def.name

-- the table of a name
abbrev pub find : Catalog → List ℕ → Option Table
find w n = first_of (λ t. bytes_eq (name_of t) n) w

-- in place of the table of that name, or where its name stands in order
abbrev pub place : Catalog → Table → Catalog
place [] t = t ∷ []
place (u ∷ w) t = if bytes_eq (name_of u) (name_of t) then t ∷ w else (if before (name_of t) (name_of u) then t ∷ u ∷ w else u ∷ place w t)

-- all but the table of that name
abbrev pub without : Catalog → List ℕ → Catalog
without [] n = []
without (t ∷ w) n = if bytes_eq (name_of t) n then without w n else t ∷ without w n

-- the records of a table; none without a table
abbrev pub rows_in : Option Table → Rows
rows_in None = []
rows_in (Some t) = t.rows

-- the records of a table; none where it does not stand
abbrev pub rows_of : Catalog → List ℕ → Rows
rows_of w n = rows_in (find w n)

-- the records of a table at a key
abbrev pub cell : Catalog → List ℕ → PlainTerm → Rows
cell w n k = at (rows_of w n) k

-- the table with these records, and its definition as it was
abbrev pub with_rows : Table → Rows → Table
with_rows t rows = record { def = t.def; rows = rows }

-- the table with this definition, and its records as they were
abbrev pub with_def : Table → TableDef → Table
with_def t def = record { def = def; rows = t.rows }

-- every table's rows are in canonical order
abbrev pub IsOrderedCatalog : Catalog → Type 0
IsOrderedCatalog w = (n : List ℕ) (t : Table) → find w n ≡ Some t → is_ordered t.rows ≡ true
