-- Records as a map keeps them: by key, each key's records in the order of insertion.
use Rattle.std.specs.Prelude.{List, [], ◌∷◌, ◌++◌, Option, Some, None, Bool, true, false, if◌then◌else◌}
use Rattle.tab_term.specs.declared.term.Term.{Term}
use Rattle.tab_term.specs.Order.{term_cmp}
use Rattle.tab_term.specs.View.{term}
use Rattle.tab_term.specs.Data.{PlainTerm, PlainTerms, none, one_more, terms_list}
use Rattle.tab_map.specs.Entries.{lookup, insert_entry}

-- a key with its records
abbrev pub Entry : Type 0
Entry = Term × PlainTerms

-- the records of all keys, one key after another
abbrev pub joined : List Entry → List PlainTerm
joined [] = []
joined (e ∷ es) = terms_list e.1 ++ joined es

-- there is a record
abbrev pub is_filled : PlainTerms → Bool
is_filled none = false
is_filled (one_more t ts) = true

-- the keys at which records stand, in their order
abbrev pub filled_keys : List Entry → List PlainTerm
filled_keys [] = []
filled_keys (e ∷ es) = if is_filled e.1 then term e.0 ∷ filled_keys es else filled_keys es

-- each key that a transaction touched, with what stands there now, in the place of the table's
abbrev pub merged : List Entry → List Entry → List Entry
merged [] es = es
merged (x ∷ xs) es = insert_entry term_cmp x (merged xs es)

-- the key with its records, where it has an entry, before the others
abbrev pub entry_onto : Term → Option PlainTerms → List Entry → List Entry
entry_onto k None es = es
entry_onto k (Some ts) es = (k, ts) ∷ es

-- the entries at these keys
abbrev pub at_keys : List Term → List Entry → List Entry
at_keys [] es = []
at_keys (k ∷ ks) es = entry_onto k (lookup term_cmp k es) (at_keys ks es)
