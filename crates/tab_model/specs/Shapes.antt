-- Events as terms, and back (Mnesia User's Guide, "Mnesia Event Handling", table events; the detailed term of delete_object
-- and the activity id {tid, Age} are this project's own).
use Rattle.std.specs.Prelude.{◌≡◌, ◌<◌, ℕ, suc, List, Bool, true, false, if◌then◌else◌, Option, Some, None, pos, codes}
use Rattle.std.specs.Str.{bytes_eq}
use Rattle.tab_term.specs.Data.{PlainTerm, int, atom, tuple, list, bin, map, PlainTerms, none, one_more, pair, triple}
use Rattle.tab_term.specs.View.{term}
use Rattle.tab_term.specs.declared.term.Term.{Term}
use Rattle.tab_term.specs.declared.term.Term.TheVariants as is
use Rattle.tab_model.specs.declared.data.Level.{Level}
use Rattle.tab_model.specs.declared.data.Level.TheVariants.{Simple, Detailed}
use Rattle.tab_model.specs.declared.data.Change.{Change}
use Rattle.tab_model.specs.declared.data.Change.TheVariants as change
use Rattle.tab_model.specs.declared.data.Event.{Event}
use Rattle.tab_model.specs.Operations.{table_of_change}
pub use Rattle.tab_term.specs.Tuples.{tid, five}

-- the value of the program that a term is
abbrev pub term_value : PlainTerm → Term
term_value (int z) = is.Int z
term_value (atom s) = is.Atom s
term_value (tuple ts) = is.Tuple ts
term_value (list ts) = is.List ts
term_value (bin b) = is.Bin b
term_value (map ps) = is.Map ps

-- the simple terms
abbrev pub simple : Change → ℕ → PlainTerm
simple (change.Write r) age = triple (atom (codes "write")) (term r) (tid age)
simple (change.Delete t k) age = triple (atom (codes "delete")) (pair (atom t) (term k)) (tid age)
simple (change.DeleteObject r) age = triple (atom (codes "delete_object")) (term r) (tid age)

-- the detailed terms
abbrev pub detailed_term : Change → List ℕ → PlainTerms → ℕ → PlainTerm
detailed_term (change.Write r) t old age = five (atom (codes "write")) (atom t) (term r) (list old) (tid age)
detailed_term (change.Delete t' k) t old age = five (atom (codes "delete")) (atom t) (pair (atom t') (term k)) (list old) (tid age)
detailed_term (change.DeleteObject r) t old age = five (atom (codes "delete")) (atom t) (term r) (list old) (tid age)

-- the second element of an event's term, which tells the change at a level
abbrev pub body : Level → Event → PlainTerm
body Simple e = simple e.change e.age
body Detailed e = detailed_term e.change e.tab e.old e.age

-- an event's term at a level
abbrev pub shape : Level → Event → PlainTerm
shape l e = pair (atom (codes "mnesia_table_event")) (body l e)

-- ---- the change of a shaped event, and of no other term (Mnesia User's Guide, "Mnesia Event Handling"; where it is
-- silent, this project's own rule: a detailed event of delete_object has the tag delete, the record and its old records)

-- a record: a tuple of arity 3 or more whose first element is an atom
abbrev pub is_record : PlainTerm → Bool
is_record (tuple (one_more (atom t) (one_more k (one_more v vs)))) = true
is_record x = false

-- `{tid, Age}`, Age from 1 on
abbrev pub is_id : PlainTerm → Bool
is_id (tuple (one_more (atom n) (one_more (int (pos (suc a))) none))) = bytes_eq n (codes "tid")
is_id x = false

-- the write of a record; none where the term is no record
abbrev pub write_in : PlainTerm → Option Change
write_in x = if is_record x then Some (change.Write (term_value x)) else None

-- the deletion of a record; none where the term is no record
abbrev pub object_deletion_in : PlainTerm → Option Change
object_deletion_in x = if is_record x then Some (change.DeleteObject (term_value x)) else None

-- `{Tab, Key}`
abbrev pub key_deletion_in : PlainTerm → Option Change
key_deletion_in (tuple (one_more (atom t) (one_more k none))) = Some (change.Delete t (term_value k))
key_deletion_in x = None

-- a deletion of a key has arity 2, a record 3 or more
abbrev pub deletion_in : PlainTerm → Option Change
deletion_in (tuple (one_more (atom t) (one_more k none))) = Some (change.Delete t (term_value k))
deletion_in x = object_deletion_in x

-- the change where it is made in the table; none where it is made in another
abbrev pub in_table : List ℕ → Option Change → Option Change
in_table t None = None
in_table t (Some c) = if bytes_eq (table_of_change c) t then Some c else None

-- the change that a simple event tells, by its tag n and the record or `{Tab, Key}` behind it
abbrev pub simple_change : List ℕ → PlainTerm → Option Change
simple_change n x =
    if bytes_eq n (codes "write") then write_in x
    else (if bytes_eq n (codes "delete") then key_deletion_in x
    else (if bytes_eq n (codes "delete_object") then object_deletion_in x else None))

-- the change that a detailed event tells, by its tag n, its table t, and the record or `{Tab, Key}` behind them
abbrev pub detailed_change : List ℕ → List ℕ → PlainTerm → Option Change
detailed_change n t x =
    if bytes_eq n (codes "write") then in_table t (write_in x)
    else (if bytes_eq n (codes "delete") then in_table t (deletion_in x) else None)

-- the change of `{n, x, i}`, where i is an activity id
abbrev pub simple_body : List ℕ → PlainTerm → PlainTerm → Option Change
simple_body n x i = if is_id i then simple_change n x else None

-- the change of `{n, t, x, old, i}`, where t is an atom, old a list and i an activity id
abbrev pub detailed_body : List ℕ → PlainTerm → PlainTerm → PlainTerm → PlainTerm → Option Change
detailed_body n (atom t) x (list old) i = if is_id i then detailed_change n t x else None
detailed_body n t x old i = None

-- the change of a body of n, x, y and a rest: of three elements a simple one, of five a detailed one, else none
abbrev pub by_rest : List ℕ → PlainTerm → PlainTerm → PlainTerms → Option Change
by_rest n x y none = simple_body n x y
by_rest n x y (one_more old none) = None
by_rest n x y (one_more old (one_more i none)) = detailed_body n x y old i
by_rest n x y (one_more old (one_more i (one_more z zs))) = None

-- the change that a body of these elements tells; none where they are fewer than three or the first is no atom
abbrev pub change_in_body : PlainTerms → Option Change
change_in_body (one_more (atom n) (one_more x (one_more y rest))) = by_rest n x y rest
change_in_body ts = None

-- the change that a tuple of these elements tells: `mnesia_table_event` and a body, which is a tuple
abbrev pub change_in : PlainTerms → Option Change
change_in (one_more (atom n) (one_more (tuple ts) none)) = if bytes_eq n (codes "mnesia_table_event") then change_in_body ts else None
change_in ts = None

-- the change that an event's term tells; none of any other term
abbrev pub change_of : PlainTerm → Option Change
change_of (tuple ts) = change_in ts
change_of t = None

-- ---- which events have a shape

-- the change has no record, or one of 3 elements or more with an atom as the first
abbrev pub is_whole : Change → Bool
is_whole (change.Write r) = is_record (term r)
is_whole (change.Delete t k) = true
is_whole (change.DeleteObject r) = is_record (term r)

-- an event whose record, if it has one, has arity 3 or more and an atom first; of that record's or key's table; its age
-- from 1 on
pub record IsShaped (e : Event) : Type 0 where
  pub whole : is_whole e.change ≡ true
  pub table : table_of_change e.change ≡ e.tab
  pub age : 0 < e.age

-- a term is the shape, at some level, of an event with this change
pub record ShapesChange (x : PlainTerm) (c : Change) : Type 0 where
  pub level : Level
  pub event : Event
  pub is : shape level event ≡ x
  pub change_is : event.change ≡ c
  pub shaped : IsShaped event
