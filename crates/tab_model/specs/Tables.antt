-- A table's records, as one list in canonical order: by key, then by insertion (the order is this project's own rule; what
-- a write and the deletions do to a set and a bag: Mnesia Reference Manual, write/3, delete/3, delete_object/3).
use Rattle.std.specs.Prelude.{◌≡◌, List, [], ◌∷◌, Bool, true, false, not, ◌&&◌, ◌||◌, if◌then◌else◌}
use Rattle.std.specs.List.{filter, list_any, list_all}
use Rattle.tab_term.specs.Data.{PlainTerm, int, atom, tuple, list, bin, map, PlainTerms, none, one_more}
use Rattle.tab_term.specs.Same.{same}
use Rattle.tab_term.specs.View.{term}
use Rattle.tab_model.specs.declared.data.Kind.{Kind}
use Rattle.tab_model.specs.declared.data.Kind.TheVariants.{Set, Bag}
use Rattle.tab_model.specs.declared.data.Change.{Change}
use Rattle.tab_model.specs.declared.data.Change.TheVariants as change
use Rattle.tab_model.specs.Names.{less}

-- a list of records; those of a table in canonical order
abbrev pub Rows : Type 0
Rows = List PlainTerm

-- the second element of a record
abbrev pub second : PlainTerms → PlainTerm
second none = list none
second (one_more t none) = list none
second (one_more t (one_more u us)) = u

-- the key of a record: its second element (Mnesia Reference Manual, "Definition": the attribute list)
abbrev pub key : PlainTerm → PlainTerm
key (tuple ts) = second ts
key (int z) = list none
key (atom s) = list none
key (list ts) = list none
key (bin b) = list none
key (map ps) = list none

-- the record has this key
abbrev pub has_key : PlainTerm → PlainTerm → Bool
has_key k r = same (key r) k

-- the records of a key, in their order
abbrev pub at : Rows → PlainTerm → Rows
at rows k = filter (has_key k) rows

-- all records of a key go (delete/3)
abbrev pub delete : Rows → PlainTerm → Rows
delete rows k = filter (λ r. not (has_key k r)) rows

-- the equal record goes (delete_object/3)
abbrev pub delete_object : Rows → PlainTerm → Rows
delete_object rows r = filter (λ x. not (same r x)) rows

-- after all records whose key isn't greater
abbrev pub insert : PlainTerm → Rows → Rows
insert r [] = r ∷ []
insert r (x ∷ rows) = if less (key r) (key x) then r ∷ x ∷ rows else x ∷ insert r rows

-- a bag's equal record that is there already stays where it is (this project's own rule)
abbrev pub put_bag : Rows → PlainTerm → Bool → Rows
put_bag rows r true = rows
put_bag rows r false = insert r rows

-- a set keeps the newest record of a key; a bag keeps all, each once
abbrev pub put : Kind → Rows → PlainTerm → Rows
put Set rows r = insert r (delete rows (key r))
put Bag rows r = put_bag rows r (list_any (same r) rows)

-- the rows after one change
abbrev pub apply : Kind → Rows → Change → Rows
apply kind rows (change.Write r) = put kind rows (term r)
apply kind rows (change.Delete t k) = delete rows (term k)
apply kind rows (change.DeleteObject r) = delete_object rows (term r)

-- the rows after changes, in turn
abbrev pub rows_after : Kind → Rows → List Change → Rows
rows_after kind rows [] = rows
rows_after kind rows (c ∷ cs) = rows_after kind (apply kind rows c) cs

-- these records put one by one among those, which are in canonical order
abbrev pub whole_onto : Rows → Rows → Rows
whole_onto [] done = done
whole_onto (r ∷ rs) done = whole_onto rs (insert r done)

-- any list of records in canonical order
abbrev pub whole : Rows → Rows
whole rows = whole_onto rows []

-- the key of x is that of r, or a greater one
abbrev pub follows : PlainTerm → PlainTerm → Bool
follows r x = same (key r) (key x) || less (key r) (key x)

-- keys ascend
abbrev pub is_ordered : Rows → Bool
is_ordered [] = true
is_ordered (r ∷ rows) = list_all (follows r) rows && is_ordered rows

-- the same records at every key: the same table
abbrev pub SameTable : Rows → Rows → Type 0
SameTable a b = (k : PlainTerm) → at a k ≡ at b k

-- each key once, where equal keys stand together
abbrev pub keys : Rows → Rows
keys [] = []
keys (r ∷ rows) = key r ∷ filter (λ k. not (same (key r) k)) (keys rows)
