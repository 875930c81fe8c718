-- Schema commands on whole tables (Mnesia Reference Manual, create_table/2, delete_table/1, add_table_index/2,
-- del_table_index/2; the terms of the refusals, but for already_exists and no_exists, are this project's own).
use Rattle.std.specs.Prelude.{ℕ, List, [], Bool, true, false, ◌||◌, not, if◌then◌else◌, Option, Some, None, codes}
use Rattle.tab_term.specs.Data.{atom, PlainTerms, pair}
use Rattle.tab_term.specs.View.{term}
use Rattle.tab_term.specs.declared.term.Term.{Term}
use Rattle.tab_model.specs.declared.data.TableDef.{TableDef}
use Rattle.tab_model.specs.declared.data.Schema.{Schema}
use Rattle.tab_model.specs.declared.data.Schema.TheVariants.{Create, Remove, AddIndex, DelIndex}
use Rattle.tab_model.specs.declared.data.Reply.{Reply}
use Rattle.tab_model.specs.declared.data.Reply.TheVariants as reply
use Rattle.tab_model.specs.Definitions.{position, is_indexed, add_number, less_number, with_indexes, Parsed, Good, Bad, parse_options}
use Rattle.tab_model.specs.Catalogs.{Catalog, Table, find, place, without, with_def}
use Rattle.tab_model.specs.Shapes.{term_value}

-- the table that a schema command names
abbrev pub table_of_schema : Schema → List ℕ
table_of_schema (Create t os) = t
table_of_schema (Remove t) = t
table_of_schema (AddIndex t a) = t
table_of_schema (DelIndex t a) = t

-- there is a position
abbrev pub is_some_position : Option ℕ → Bool
is_some_position None = false
is_some_position (Some p) = true

-- the refusal of a new table for its options' first fault, if they have one
abbrev pub bad_parse : List ℕ → Parsed → Option Reply
bad_parse t (Good def) = None
bad_parse t (Bad what) = Some (reply.BadDefinition t (term_value what))

-- the refusals of a schema command on a catalog, but for locks and limits
-- what refuses a new table: one of that name, or its options' first fault
abbrev pub create_refusal : List ℕ → PlainTerms → Option Table → Option Reply
create_refusal t os (Some x) = Some (reply.AlreadyExists t)
create_refusal t os None = bad_parse t (parse_options t os)

-- what refuses to delete a table: no such table
abbrev pub remove_refusal : List ℕ → Option Table → Option Reply
remove_refusal t (Some x) = None
remove_refusal t None = Some (reply.NoTable t)

-- what refuses a new index: no such table, no such attribute behind the key, or an index there already
abbrev pub add_refusal : List ℕ → Term → Option Table → Option Reply
add_refusal t a None = Some (reply.NoTable t)
add_refusal t a (Some x) =
    if not (is_some_position (position x.def (term a))) || is_indexed x.def (position x.def (term a))
    then Some (reply.BadDefinition t (term_value (pair (atom (codes "index")) (term a)))) else None

-- what refuses to take an index away: no such table, or no index there
abbrev pub del_refusal : List ℕ → Term → Option Table → Option Reply
del_refusal t a None = Some (reply.NoTable t)
del_refusal t a (Some x) = if is_indexed x.def (position x.def (term a)) then None else Some (reply.NoIndex t a)

-- what refuses a schema command on these tables
abbrev pub schema_refusal : Catalog → Schema → Option Reply
schema_refusal w (Create t os) = create_refusal t os (find w t)
schema_refusal w (Remove t) = remove_refusal t (find w t)
schema_refusal w (AddIndex t a) = add_refusal t a (find w t)
schema_refusal w (DelIndex t a) = del_refusal t a (find w t)

-- the tables with a new one of this definition, which is empty; as they were where there is a fault
abbrev pub create_parsed : Catalog → Parsed → Catalog
create_parsed w (Good def) = place w (record { def = def; rows = [] })
create_parsed w (Bad what) = w

-- the definition with an index at the position too, where there is a position
abbrev pub add_at : TableDef → Option ℕ → TableDef
add_at def None = def
add_at def (Some p) = with_indexes def (add_number p def.indexes)

-- the definition without an index at the position, where there is a position
abbrev pub del_at : TableDef → Option ℕ → TableDef
del_at def None = def
del_at def (Some p) = with_indexes def (less_number p def.indexes)

-- the tables, one of which has an index more; as they were where that table is not there
abbrev pub add_effect : Catalog → Term → Option Table → Catalog
add_effect w a None = w
add_effect w a (Some x) = place w (with_def x (add_at x.def (position x.def (term a))))

-- the tables, one of which has an index less; as they were where that table is not there
abbrev pub del_effect : Catalog → Term → Option Table → Catalog
del_effect w a None = w
del_effect w a (Some x) = place w (with_def x (del_at x.def (position x.def (term a))))

-- the tables after a schema command that is done
abbrev pub schema_effect : Catalog → Schema → Catalog
schema_effect w (Create t os) = create_parsed w (parse_options t os)
schema_effect w (Remove t) = without w t
schema_effect w (AddIndex t a) = add_effect w a (find w t)
schema_effect w (DelIndex t a) = del_effect w a (find w t)

-- the table that a schema command ends
abbrev pub removed_table : Schema → Option (List ℕ)
removed_table (Create t os) = None
removed_table (Remove t) = Some t
removed_table (AddIndex t a) = None
removed_table (DelIndex t a) = None
