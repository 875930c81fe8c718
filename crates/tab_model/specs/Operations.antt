-- What each operation asks of one table, alone (Mnesia Reference Manual, the functions of those names; no_exists, bad_type
-- and no_index as failures of the operation: this project's own profile of the manual's aborts).
use Rattle.std.specs.Prelude.{ℕ, List, [], if◌then◌else◌, Option, Some, None}
use Rattle.tab_term.specs.Data.{PlainTerm, int, atom, tuple, list, bin, map, PlainTerms, none, one_more}
use Rattle.tab_term.specs.View.{term}
use Rattle.tab_term.specs.declared.term.Term.{Term}
use Rattle.tab_model.specs.declared.data.TableDef.{TableDef}
use Rattle.tab_model.specs.declared.data.Operation.{Operation}
use Rattle.tab_model.specs.declared.data.Operation.TheVariants as op
use Rattle.tab_model.specs.declared.data.Change.{Change}
use Rattle.tab_model.specs.declared.data.Change.TheVariants as change
use Rattle.tab_model.specs.declared.data.Reply.{Reply}
use Rattle.tab_model.specs.declared.data.Reply.TheVariants as reply
use Rattle.tab_model.specs.Names.{plain_terms}
use Rattle.tab_model.specs.Tables.{Rows, at, key, keys, apply}
use Rattle.tab_model.specs.WholeTables.{index_read, match_object}
use Rattle.tab_model.specs.Definitions.{position, is_indexed, fits_def}
use Rattle.tab_model.specs.Catalogs.{Catalog, Table, find, place, with_rows}

-- the text of the first element, as UTF-8 bytes; empty where there is none or it is no atom
abbrev pub tag_in : PlainTerms → List ℕ
tag_in none = []
tag_in (one_more (atom s) ts) = s
tag_in (one_more (int z) ts) = []
tag_in (one_more (tuple us) ts) = []
tag_in (one_more (list us) ts) = []
tag_in (one_more (bin b) ts) = []
tag_in (one_more (map ps) ts) = []

-- the first element of a record
abbrev pub tag : PlainTerm → List ℕ
tag (tuple ts) = tag_in ts
tag (int z) = []
tag (atom s) = []
tag (list ts) = []
tag (bin b) = []
tag (map ps) = []

-- the table that an operation speaks of
abbrev pub table_of : Operation → List ℕ
table_of (op.Read t k) = t
table_of (op.ReadForWrite t k) = t
table_of (op.Write r) = tag (term r)
table_of (op.Delete t k) = t
table_of (op.DeleteObject r) = tag (term r)
table_of (op.IndexRead t x a) = t
table_of (op.MatchObject p) = tag (term p)
table_of (op.AllKeys t) = t
table_of (op.ReadLockTable t) = t
table_of (op.WriteLockTable t) = t

-- the update that an operation makes, if it makes one
abbrev pub change_of_op : Operation → Option Change
change_of_op (op.Read t k) = None
change_of_op (op.ReadForWrite t k) = None
change_of_op (op.Write r) = Some (change.Write r)
change_of_op (op.Delete t k) = Some (change.Delete t k)
change_of_op (op.DeleteObject r) = Some (change.DeleteObject r)
change_of_op (op.IndexRead t x a) = None
change_of_op (op.MatchObject p) = None
change_of_op (op.AllKeys t) = None
change_of_op (op.ReadLockTable t) = None
change_of_op (op.WriteLockTable t) = None

-- a record or pattern that does not fit the definition
abbrev pub bad_type : TableDef → Term → Option Reply
bad_type def r = if fits_def def (term r) then None else Some (reply.BadType def.name r)

-- the failure of an operation on a table that is there
abbrev pub failure_at : Table → Operation → Option Reply
failure_at t (op.Read n k) = None
failure_at t (op.ReadForWrite n k) = None
failure_at t (op.Write r) = bad_type t.def r
failure_at t (op.Delete n k) = None
failure_at t (op.DeleteObject r) = bad_type t.def r
failure_at t (op.IndexRead n x a) = if is_indexed t.def (position t.def (term a)) then None else Some (reply.NoIndex n a)
failure_at t (op.MatchObject p) = bad_type t.def p
failure_at t (op.AllKeys n) = None
failure_at t (op.ReadLockTable n) = None
failure_at t (op.WriteLockTable n) = None

-- the records whose attribute at a position has this value; none where there is no position
abbrev pub by_position : Rows → Option ℕ → PlainTerm → Rows
by_position rows None x = []
by_position rows (Some p) x = index_read rows p x

-- the answer of an operation that doesn't fail
abbrev pub answer_at : Table → Operation → Reply
answer_at t (op.Read n k) = reply.Found (plain_terms (at t.rows (term k)))
answer_at t (op.ReadForWrite n k) = reply.Found (plain_terms (at t.rows (term k)))
answer_at t (op.Write r) = reply.Done
answer_at t (op.Delete n k) = reply.Done
answer_at t (op.DeleteObject r) = reply.Done
answer_at t (op.IndexRead n x a) = reply.Found (plain_terms (by_position t.rows (position t.def (term a)) (term x)))
answer_at t (op.MatchObject p) = reply.Found (plain_terms (match_object t.rows (term p)))
answer_at t (op.AllKeys n) = reply.Found (plain_terms (keys t.rows))
answer_at t (op.ReadLockTable n) = reply.Done
answer_at t (op.WriteLockTable n) = reply.Done

-- an operation's failure on its table, if it fails; that there is no such table is the first failure
abbrev pub failure_in : Option Table → Operation → Option Reply
failure_in None o = Some (reply.NoTable (table_of o))
failure_in (Some t) o = failure_at t o

-- the failure of an operation on all tables
abbrev pub failure : Catalog → Operation → Option Reply
failure w o = failure_in (find w (table_of o)) o

-- the table that a change is made in
abbrev pub table_of_change : Change → List ℕ
table_of_change (change.Write r) = tag (term r)
table_of_change (change.Delete t k) = t
table_of_change (change.DeleteObject r) = tag (term r)

-- the key that a change is made at
abbrev pub key_of_change : Change → PlainTerm
key_of_change (change.Write r) = key (term r)
key_of_change (change.Delete t k) = term k
key_of_change (change.DeleteObject r) = key (term r)

-- the tables with one of them changed; as they were where that is not there
abbrev pub change_table : Catalog → Option Table → Change → Catalog
change_table w None c = w
change_table w (Some t) c = place w (with_rows t (apply t.def.kind t.rows c))

-- the tables after one change
abbrev pub change_catalog : Catalog → Change → Catalog
change_catalog w c = change_table w (find w (table_of_change c)) c

-- the tables after a change, or as they were without one
abbrev pub change_by : Catalog → Option Change → Catalog
change_by w None = w
change_by w (Some c) = change_catalog w c

-- the tables after an operation that does not fail
abbrev pub effect : Catalog → Operation → Catalog
effect w o = change_by w (change_of_op o)

-- the answer of an operation that does not fail, on its table; without one it fails, and this answer is not used
abbrev pub answer_in : Option Table → Operation → Reply
answer_in None o = reply.Done
answer_in (Some t) o = answer_at t o

-- the failure of an operation where it fails, else its answer
abbrev pub answer_or : Option Reply → Option Table → Operation → Reply
answer_or (Some r) t o = r
answer_or None t o = answer_in t o

-- the reply of an operation, failures too
abbrev pub answer : Catalog → Operation → Reply
answer w o = answer_or (failure w o) (find w (table_of o)) o
