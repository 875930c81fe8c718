-- Definitions of tables: options of create_table and their faults, positions, which records fit (Mnesia Reference Manual,
-- create_table/2; that other options are refused, and the order of faults: this project's own rule).
use Rattle.std.specs.Prelude.{ℕ, ◌+◌, List, [], ◌∷◌, Bool, true, false, not, ◌&&◌, ◌||◌, ◌==◌, nat_lt, length, if◌then◌else◌, Option, Some, None, pos, codes, is_some}
use Rattle.std.specs.List.{list_any}
use Rattle.std.specs.Str.{bytes_eq}
use Rattle.tab_term.specs.Data.{PlainTerm, int, atom, tuple, list, bin, map, PlainTerms, none, one_more, count, pair}
use Rattle.tab_term.specs.Same.{same}
use Rattle.tab_model.specs.declared.data.Kind.{Kind}
use Rattle.tab_model.specs.declared.data.Kind.TheVariants.{Set, Bag}
use Rattle.tab_model.specs.declared.data.TableDef.{TableDef}
use Rattle.tab_model.specs.Names.{has_name}

-- the position of an attribute that a term names, by name or number; never the key
abbrev pub position_from : ℕ → List (List ℕ) → PlainTerm → Option ℕ
position_from p [] t = None
position_from p (a ∷ names) t = if same t (atom a) || same t (int (pos p)) then Some p else position_from (p + 1) names t

-- the names of the attributes behind the key, which is the first
abbrev pub after_key : List (List ℕ) → List (List ℕ)
after_key [] = []
after_key (k ∷ names) = names

-- the position, 3 or more, that a term names
abbrev pub position : TableDef → PlainTerm → Option ℕ
position def t = position_from 3 (after_key def.attributes) t

-- the number is in the list
abbrev pub has_number : List ℕ → ℕ → Bool
has_number ps p = list_any (λ q. q == p) ps

-- whether there is an index at a position
abbrev pub is_indexed : TableDef → Option ℕ → Bool
is_indexed def None = false
is_indexed def (Some p) = has_number def.indexes p

-- the elements are the table's name and then one for each attribute
abbrev pub fits_head : TableDef → PlainTerms → Bool
fits_head def none = false
fits_head def (one_more t ts) = same t (atom def.name) && (count ts == length def.attributes)

-- a record fits: its first element is the table's name, its arity one more than the attributes
abbrev pub fits_def : TableDef → PlainTerm → Bool
fits_def def (tuple ts) = fits_head def ts
fits_def def (int z) = false
fits_def def (atom s) = false
fits_def def (list ts) = false
fits_def def (bin b) = false
fits_def def (map ps) = false

-- ascending, each once
abbrev pub add_number : ℕ → List ℕ → List ℕ
add_number p [] = p ∷ []
add_number p (q ∷ qs) = if p == q then q ∷ qs else (if nat_lt p q then p ∷ q ∷ qs else q ∷ add_number p qs)

-- the numbers without one, the others in their order
abbrev pub less_number : ℕ → List ℕ → List ℕ
less_number p [] = []
less_number p (q ∷ qs) = if p == q then less_number p qs else q ∷ less_number p qs

-- the term is `set` or `bag`
abbrev pub is_kind : PlainTerm → Bool
is_kind t = same t (atom (codes "set")) || same t (atom (codes "bag"))

-- the term is a list
abbrev pub is_list : PlainTerm → Bool
is_list (list ts) = true
is_list (int z) = false
is_list (atom s) = false
is_list (tuple ts) = false
is_list (bin b) = false
is_list (map ps) = false

-- n is the name of an option, and x a value that it may have; values of `attributes` and `index` are looked at later
abbrev pub is_value : List ℕ → List ℕ → PlainTerm → Bool
is_value tab n x =
    (bytes_eq n (codes "type") && is_kind x) || bytes_eq n (codes "attributes") || bytes_eq n (codes "index")
    || (bytes_eq n (codes "ram_copies") && is_list x) || (bytes_eq n (codes "record_name") && same x (atom tab))

-- the name of a term that is an option
abbrev pub name_of_option : List ℕ → PlainTerm → PlainTerm → Option (List ℕ)
name_of_option tab (atom n) x = if is_value tab n x then Some n else None
name_of_option tab (int z) x = None
name_of_option tab (tuple ts) x = None
name_of_option tab (list ts) x = None
name_of_option tab (bin b) x = None
name_of_option tab (map ps) x = None

-- the name of the option that a tuple of these elements is: two elements, a name and a value that it may have
abbrev pub option_of_two : List ℕ → PlainTerms → Option (List ℕ)
option_of_two tab none = None
option_of_two tab (one_more a none) = None
option_of_two tab (one_more a (one_more b none)) = name_of_option tab a b
option_of_two tab (one_more a (one_more b (one_more c ts))) = None

-- the name of the option that a term is; none where it is no option
abbrev pub option_name : List ℕ → PlainTerm → Option (List ℕ)
option_name tab (tuple ts) = option_of_two tab ts
option_name tab (int z) = None
option_name tab (atom s) = None
option_name tab (list ts) = None
option_name tab (bin b) = None
option_name tab (map ps) = None

-- there is a name, and it was not seen before
abbrev pub is_new_name : List (List ℕ) → Option (List ℕ) → Bool
is_new_name seen None = false
is_new_name seen (Some n) = not (has_name seen n)

-- the names that were seen, and this one where there is one
abbrev pub with_name : List (List ℕ) → Option (List ℕ) → List (List ℕ)
with_name seen None = seen
with_name seen (Some n) = n ∷ seen

-- the first that is no option, or the second one of its name
abbrev pub bad_option : List ℕ → List (List ℕ) → PlainTerms → Option PlainTerm
bad_option tab seen none = None
bad_option tab seen (one_more o os) =
    if is_new_name seen (option_name tab o) then bad_option tab (with_name seen (option_name tab o)) os else Some o

-- there is a name, and it is n
abbrev pub is_named : List ℕ → Option (List ℕ) → Bool
is_named n None = false
is_named n (Some m) = bytes_eq n m

-- the second element of a tuple; `[]` where there is none
abbrev pub value_in : PlainTerm → PlainTerm
value_in (tuple (one_more a (one_more b ts))) = b
value_in (tuple none) = list none
value_in (tuple (one_more a none)) = list none
value_in (int z) = list none
value_in (atom s) = list none
value_in (list ts) = list none
value_in (bin b) = list none
value_in (map ps) = list none

-- the value of an option, or what stands for none
abbrev pub value_of : List ℕ → List ℕ → PlainTerm → PlainTerms → PlainTerm
value_of tab n other none = other
value_of tab n other (one_more o os) = if is_named n (option_name tab o) then value_in o else value_of tab n other os

-- a name before the others; None where those are not all atoms
abbrev pub and_atom : List ℕ → Option (List (List ℕ)) → Option (List (List ℕ))
and_atom s None = None
and_atom s (Some names) = Some (s ∷ names)

-- the texts of the terms, where all are atoms; else None
abbrev pub atoms_in : PlainTerms → Option (List (List ℕ))
atoms_in none = Some []
atoms_in (one_more (atom s) ts) = and_atom s (atoms_in ts)
atoms_in (one_more (int z) ts) = None
atoms_in (one_more (tuple us) ts) = None
atoms_in (one_more (list us) ts) = None
atoms_in (one_more (bin b) ts) = None
atoms_in (one_more (map ps) ts) = None

-- no name is in the list twice
abbrev pub are_different : List (List ℕ) → Bool
are_different [] = true
are_different (n ∷ names) = not (has_name names n) && are_different names

-- 2 to 255 different names
abbrev pub good_names : Option (List (List ℕ)) → Option (List (List ℕ))
good_names None = None
good_names (Some names) = if nat_lt 1 (length names) && (nat_lt (length names) 256 && are_different names) then Some names else None

-- the names that a value of `attributes` gives, where it is a list of 2 to 255 different atoms; else None
abbrev pub attributes_in : PlainTerm → Option (List (List ℕ))
attributes_in (list ts) = good_names (atoms_in ts)
attributes_in (int z) = None
attributes_in (atom s) = None
attributes_in (tuple ts) = None
attributes_in (bin b) = None
attributes_in (map ps) = None

-- the type that a value of `type` gives: bag for `bag`, set for all else
abbrev pub kind_in : PlainTerm → Kind
kind_in t = if same t (atom (codes "bag")) then Bag else Set

-- a definition, or what is wrong
pub data Parsed : Type 0 where
  Good : TableDef → Parsed
  Bad : PlainTerm → Parsed

-- the definition with indexes at these positions, and at no others
abbrev pub with_indexes : TableDef → List ℕ → TableDef
with_indexes def ps = record { name = def.name; kind = def.kind; attributes = def.attributes; indexes = ps }

-- the fault `{index, X}`
abbrev pub index_fault : PlainTerm → Parsed
index_fault x = Bad (pair (atom (codes "index")) x)

-- the first of these entries that names no position; None where each has one
abbrev pub first_fault : TableDef → PlainTerms → Option PlainTerm
first_fault def none = None
first_fault def (one_more e es) = if is_some (position def e) then first_fault def es else Some e

-- the positions with one more, where there is one; ascending, each once
abbrev pub add_position : Option ℕ → List ℕ → List ℕ
add_position None ps = ps
add_position (Some p) ps = add_number p ps

-- the positions that the entries of `index` name, ascending, each once; an entry that names none is left out
abbrev pub positions : TableDef → PlainTerms → List ℕ
positions def none = []
positions def (one_more e es) = add_position (position def e) (positions def es)

-- the definition with an index at each position that the entries name, or the fault of the entry that names none
abbrev pub with_entries : TableDef → PlainTerms → Option PlainTerm → Parsed
with_entries def es (Some e) = index_fault e
with_entries def es None = Good (with_indexes def (positions def es))

-- the definition with the indexes that a value of `index` asks for, or its first fault; it has to be a list
abbrev pub with_index_option : TableDef → PlainTerm → Parsed
with_index_option def (list es) = with_entries def es (first_fault def es)
with_index_option def (int z) = index_fault (int z)
with_index_option def (atom s) = index_fault (atom s)
with_index_option def (tuple ts) = index_fault (tuple ts)
with_index_option def (bin b) = index_fault (bin b)
with_index_option def (map ps) = index_fault (map ps)

-- the value of `attributes` where that option is not given: `[key, val]`
abbrev pub default_names : PlainTerm
default_names = list (one_more (atom (codes "key")) (one_more (atom (codes "val")) none))

-- the definition with these attributes, and the type and indexes of the options; or the fault of attributes or index
abbrev pub with_names : List ℕ → PlainTerms → Option (List (List ℕ)) → Parsed
with_names tab os None = Bad (atom (codes "attributes"))
with_names tab os (Some names) =
    with_index_option (record { name = tab; kind = kind_in (value_of tab (codes "type") (atom (codes "set")) os); attributes = names; indexes = [] }) (value_of tab (codes "index") (list none) os)

-- the fault of an option, where one is wrong by itself; else the definition, or the fault of attributes or index
abbrev pub without_fault : List ℕ → PlainTerms → Option PlainTerm → Parsed
without_fault tab os (Some o) = Bad o
without_fault tab os None = with_names tab os (attributes_in (value_of tab (codes "attributes") default_names os))

-- the definition that the options of create_table give, or the first fault
abbrev pub parse_options : List ℕ → PlainTerms → Parsed
parse_options tab os = without_fault tab os (bad_option tab [] os)
