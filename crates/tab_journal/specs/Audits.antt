-- Whether a journal is what its base and the tables say, entry by entry (this project's own).
use Rattle.std.specs.Prelude.{◌≡◌, ◌≢◌, ℕ, List, [], ◌∷◌, Bool, true, false, ◌&&◌, ◌==◌, Option, Some, None}
use Rattle.std.specs.Str.{bytes_eq}
use Rattle.tab_term.specs.Data.{PlainTerms}
use Rattle.tab_term.specs.View.{term}
use Rattle.tab_term.specs.Same.{same, all_same}
use Rattle.tab_term.specs.declared.term.Term.{Term}
use Rattle.tab_model.specs.declared.data.Kind.{Kind}
use Rattle.tab_model.specs.declared.data.Kind.TheVariants.{Set, Bag}
use Rattle.tab_model.specs.declared.data.TableDef.{TableDef}
use Rattle.tab_model.specs.declared.data.Move.{Move}
use Rattle.tab_model.specs.declared.data.Entry.{Entry}
use Rattle.tab_model.specs.declared.data.Reply.{Reply}
use Rattle.tab_model.specs.declared.data.Reply.TheVariants as reply
use Rattle.tab_model.specs.declared.data.Schema.{Schema}
use Rattle.tab_model.specs.Schemas.{schema_refusal, schema_effect}
use Rattle.tab_model.specs.Alone.{Mid, start, next, after, reply_to, replies}
use Rattle.tab_model.specs.Log.{serial_from, catalog_after, IsRight, IsLegal}
use Rattle.tab_model.specs.Tables.{Rows}
use Rattle.tab_model.specs.Catalogs.{Catalog, Table, IsOrderedCatalog}

-- ---- the same reply, of those that operations have

-- the reply is ok
abbrev pub is_done : Reply → Bool
is_done reply.Done = true
is_done r = false

-- the reply is these records, in this order
abbrev pub is_found : PlainTerms → Reply → Bool
is_found ts (reply.Found us) = all_same ts us
is_found ts r = false

-- the reply is that there is no table of this name
abbrev pub is_no_table : List ℕ → Reply → Bool
is_no_table t (reply.NoTable u) = bytes_eq t u
is_no_table t r = false

-- the reply is that this record doesn't fit the table of this name
abbrev pub is_bad_type : List ℕ → Term → Reply → Bool
is_bad_type t x (reply.BadType u y) = bytes_eq t u && same (term x) (term y)
is_bad_type t x r = false

-- the reply is that the table of this name has no index at this attribute
abbrev pub is_no_index : List ℕ → Term → Reply → Bool
is_no_index t x (reply.NoIndex u y) = bytes_eq t u && same (term x) (term y)
is_no_index t x r = false

-- the two are the same answer of an operation; of other replies none is the same as any
abbrev pub is_answer : Reply → Reply → Bool
is_answer reply.Done r = is_done r
is_answer (reply.Found ts) r = is_found ts r
is_answer (reply.NoTable t) r = is_no_table t r
is_answer (reply.BadType t x) r = is_bad_type t x r
is_answer (reply.NoIndex t x) r = is_no_index t x r
is_answer x r = false

-- ---- the same tables

-- the same names in the same order
abbrev pub same_names : List (List ℕ) → List (List ℕ) → Bool
same_names [] [] = true
same_names (t ∷ ts) (u ∷ us) = bytes_eq t u && same_names ts us
same_names ts us = false

-- both are sets, or both are bags
abbrev pub same_kind : Kind → Kind → Bool
same_kind Set Set = true
same_kind Bag Bag = true
same_kind k l = false

-- the same numbers in the same order
abbrev pub same_numbers : List ℕ → List ℕ → Bool
same_numbers [] [] = true
same_numbers (n ∷ ns) (m ∷ ms) = (n == m) && same_numbers ns ms
same_numbers ns ms = false

-- the same name, type, attributes and positions of indexes
abbrev pub same_def : TableDef → TableDef → Bool
same_def d e = (bytes_eq d.name e.name && same_kind d.kind e.kind) && (same_names d.attributes e.attributes && same_numbers d.indexes e.indexes)

-- the same records in the same order
abbrev pub same_rows : Rows → Rows → Bool
same_rows [] [] = true
same_rows (x ∷ xs) (y ∷ ys) = same x y && same_rows xs ys
same_rows xs ys = false

-- the same definition, and the same records in the same order
abbrev pub same_table : Table → Table → Bool
same_table t u = same_def t.def u.def && same_rows t.rows u.rows

-- the same tables in the same order
abbrev pub same_tables : Catalog → Catalog → Bool
same_tables [] [] = true
same_tables (t ∷ w) (u ∷ v) = same_table t u && same_tables w v
same_tables w v = false

-- ---- a transaction that is run again

-- the tables in its midst are all in order
abbrev pub AllOrdered : List Catalog → Type 0
AllOrdered [] = Unit {0}
AllOrdered (w ∷ ws) = IsOrderedCatalog w × AllOrdered ws

-- the tables become others
abbrev pub with_now : Mid → Catalog → Mid
with_now m w = record m { now = w }

-- a move that is told this, or another thing
abbrev pub Follows : Mid → Move → Option Reply → Option Mid → Type 0
Follows m x r None = reply_to m x ≢ r
Follows m x r (Some n) = (reply_to m x ≡ r) × (n ≡ next m x)

-- all its moves are told these
abbrev pub RunsAs : Catalog → ℕ → List Move → List (Option Reply) → Option Catalog → Type 0
RunsAs w age xs rs None = replies (start w age) xs ≢ rs
RunsAs w age xs rs (Some v) = (replies (start w age) xs ≡ rs) × (v ≡ (after (start w age) xs).now)

-- a schema command is not refused on these tables, and leaves others
abbrev pub Changes : Catalog → Schema → Option Catalog → Type 0
Changes w c None = schema_refusal w c ≢ None
Changes w c (Some v) = (schema_refusal w c ≡ None) × (v ≡ schema_effect w c)

-- an entry is right on these tables, and leaves others
abbrev pub Enters : Catalog → ℕ → Entry → Option Catalog → Type 0
Enters w commits e None = IsRight w commits e → ⊥
Enters w commits e (Some v) = IsRight w commits e × (v ≡ catalog_after w e)

-- a log from these tables on
abbrev pub Leads : Catalog → ℕ → List Entry → Catalog → Type 0
Leads w commits log tables = IsLegal w commits log × (serial_from w log ≡ tables)
