-- What a transaction left at the keys that it touched, over tables that are only lent (Mnesia User's Guide, "Transaction
-- Properties": atomicity and isolation; how they are kept is this project's own rule).
use Rattle.std.specs.Prelude.{ℕ, List, [], ◌∷◌, ◌++◌, if◌then◌else◌, Option, Some, None}
use Rattle.std.specs.List.{list_any}
use Rattle.tab_term.specs.Same.{same}
use Rattle.tab_term.specs.View.{term}
use Rattle.tab_term.specs.declared.term.Term.{Term}
use Rattle.tab_term.specs.Data.{PlainTerm, PlainTerms}
use Rattle.tab_term.specs.Order.{bytes_cmp, term_cmp}
use Rattle.tab_map.specs.Entries.{lookup, insert_entry}
use Rattle.tab_model.specs.declared.data.Kind.{Kind}
use Rattle.tab_model.specs.declared.data.Kind.TheVariants.{Set, Bag}
use Rattle.tab_model.specs.declared.data.Change.{Change}
use Rattle.tab_model.specs.declared.data.Change.TheVariants as change
use Rattle.tab_model.specs.Names.{plain_terms, terms_list}
use Rattle.tab_model.specs.Tables.{Rows, at, delete_object}
use Rattle.tab_model.specs.Operations.{key_of_change}
use Rattle.tab_model.specs.Shapes.{term_value}
use Rattle.tab_model.specs.Catalogs.{Table}

-- the touched keys of one table, each with what stands there now; a key whose records are gone stays, with none
abbrev pub Touched : Type 0
Touched = List (Term × PlainTerms)

-- the touched keys of each table, by its name
abbrev pub Overlay : Type 0
Overlay = List (List ℕ × Touched)

-- the touched keys, if there are any
abbrev pub touched_in : Option Touched → Touched
touched_in None = []
touched_in (Some es) = es

-- the touched keys of a table
abbrev pub touched : Overlay → List ℕ → Touched
touched v t = touched_in (lookup bytes_cmp t v)

-- the records that the transaction left, or those that the committed table has
abbrev pub or_committed : Option PlainTerms → Rows → Rows
or_committed None rows = rows
or_committed (Some ts) rows = terms_list ts

-- what stands at a key for the transaction: what it left there, else what the committed table has there
abbrev pub seen_at : Touched → Rows → PlainTerm → Rows
seen_at es rows k = or_committed (lookup term_cmp (term_value k) es) (at rows k)

-- a bag's records with one more, once
abbrev pub with_row : Rows → PlainTerm → Rows
with_row rows r = if list_any (same r) rows then rows else rows ++ r ∷ []

-- a change, made on the records of its key (Mnesia Reference Manual, write/3, delete/3, delete_object/3)
abbrev pub left : Kind → Rows → Change → Rows
left Set rows (change.Write r) = term r ∷ []
left Bag rows (change.Write r) = with_row rows (term r)
left kind rows (change.Delete t k) = []
left kind rows (change.DeleteObject r) = delete_object rows (term r)

-- a change, made on what the transaction sees at its key
abbrev pub touch_key : Kind → Rows → Touched → Change → Touched
touch_key kind rows es c = insert_entry term_cmp (term_value (key_of_change c), plain_terms (left kind (seen_at es rows (key_of_change c)) c)) es

-- a change, made on what the transaction sees of the table that is lent
abbrev pub touch : Table → Overlay → Change → Overlay
touch x v c = insert_entry bytes_cmp (x.def.name, touch_key x.def.kind x.rows (touched v x.def.name) c) v

-- a change of a committed table, if there is one; nothing changes where there is none
abbrev pub touch_in : Option Table → Overlay → Change → Overlay
touch_in None v c = v
touch_in (Some x) v c = touch x v c
