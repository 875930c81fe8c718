-- A table's records with their indexes.
use Rattle.std.specs.Prelude.{◌≡◌, ◌≤◌, ℕ, List, [], ◌∷◌, ◌++◌, Bool, true, false, ◌&&◌, map, length, take, drop, Option, Some, None, IfSome}
use Rattle.tab_model.specs.Definitions.{add_number}
use Rattle.std.specs.List.{All}
use Rattle.tab_index.specs.declared.index.Index.{Index}
use Rattle.tab_index.specs.FurtherOf.{IsFurtherOf, AreApart}
use Rattle.tab_index.specs.IndexOf.{IsIndexOf, has_value}
use Rattle.tab_term.specs.declared.term.Term.{Term}
use Rattle.tab_term.specs.Data.{PlainTerm}
use Rattle.tab_term.specs.Same.{same}
use Rattle.tab_term.specs.View.{term}
use Rattle.tab_model.specs.declared.data.Change.{Change}
use Rattle.tab_model.specs.declared.data.Change.TheVariants as change
use Rattle.tab_model.specs.declared.data.Kind.{Kind}
use Rattle.tab_model.specs.declared.data.TableDef.{TableDef}
use Rattle.tab_model.specs.Tables.{Rows, is_ordered, key, rows_after}

-- the positions of the indexes, in their order
abbrev pub positions : List Index → List ℕ
positions indexes = map (λ i. i.position) indexes

-- an index of these records, which counts the further records of a key that have a value
pub record IsOf (rows : Rows) (i : Index) : Type 0 where
  pub index : IsIndexOf rows i.position i.keys
  pub further : IsFurtherOf rows i.position i.further.by_key

-- each is an index of these records
abbrev pub AreIndexesOf : Rows → List Index → Type 0
AreIndexesOf rows indexes = All (IsOf rows) indexes

-- where a new position belongs among those of indexes
pub record IsPlace (indexes : List Index) (p n : ℕ) : Type 0 where
  pub within : n ≤ length indexes
  pub added : add_number p (positions indexes) ≡ positions (take n indexes) ++ p ∷ positions (drop n indexes)

-- what a table keeps without its indexes
pub record IsBare (def : TableDef) (rows : Kind × Rows) : Type 0 where
  pub kind : rows.0 ≡ def.kind
  pub ordered : is_ordered rows.1 ≡ true
  pub apart : AreApart rows.1

-- ---- changes that the indexes lack

-- the records that indexes are of, and the changes that were made to them since
abbrev pub Pending : Type 0
Pending = (Kind × Rows) × List Change

-- the records that a table's indexes are of
abbrev pub indexed_rows : Rows → Option Pending → Rows
indexed_rows rows None = rows
indexed_rows rows (Some b) = b.0.1

-- the changes lead to these records
pub record LeadsTo (def : TableDef) (rows : Rows) (b : Pending) : Type 0 where
  pub bare : IsBare def b.0
  pub after : rows_after def.kind b.0.1 b.1 ≡ rows

-- whether a change deletes one record, and it has this key
abbrev pub deletes_one : PlainTerm → Change → Bool
deletes_one k (change.Write r) = false
deletes_one k (change.Delete t j) = false
deletes_one k (change.DeleteObject r) = same (key (term r)) k

-- the key that a change deletes
abbrev pub key_deleted : Change → Option Term
key_deleted (change.Write r) = None
key_deleted (change.Delete t k) = Some k
key_deleted (change.DeleteObject r) = None

-- the record that a change writes
abbrev pub row_written : Change → Option Term
row_written (change.Write r) = Some r
row_written (change.Delete t k) = None
row_written (change.DeleteObject r) = None

-- whether a change writes a record with this value at a position, and this key
abbrev pub writes : ℕ → PlainTerm → PlainTerm → Change → Bool
writes p x k (change.Write r) = has_value p x (term r) && same k (key (term r))
writes p x k (change.Delete t j) = false
writes p x k (change.DeleteObject r) = false

-- what a table keeps
pub record IsIndexed (def : TableDef) (rows : Kind × Rows) (indexes : List Index) (backlog : Option Pending) : Type 0 where
  pub kind : rows.0 ≡ def.kind
  pub ordered : is_ordered rows.1 ≡ true
  pub apart : AreApart rows.1
  pub positions_are : positions indexes ≡ def.indexes
  pub indexes_are : AreIndexesOf (indexed_rows rows.1 backlog) indexes
  pub leads : IfSome backlog (LeadsTo def rows.1)
