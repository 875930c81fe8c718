-- An index of records at a position: which values stand in it, and with which keys (Mnesia Reference Manual,
-- add_table_index/2).
use Rattle.std.specs.Prelude.{◌≡◌, ◌≢◌, ℕ, List, [], Bool, false, not, ◌&&◌, ◌||◌, Option, None, Some}
use Rattle.std.specs.List.{list_any}
use Rattle.tab_term.specs.declared.term.Term.{Term}
use Rattle.tab_term.specs.Data.{PlainTerm}
use Rattle.tab_term.specs.Order.{term_cmp}
use Rattle.tab_term.specs.Same.{same}
use Rattle.tab_term.specs.View.{term}
use Rattle.tab_map.specs.Entries.{lookup}
use Rattle.tab_map.specs.KeyList.{contains_key}
use Rattle.tab_model.specs.Tables.{Rows, at}
use Rattle.tab_model.specs.WholeTables.{element}

-- a value, and the keys of the records that have it
abbrev pub Entry : Type 0
Entry = Term × List Term

-- the keys of a value, none where the index has no such value
abbrev pub keys_in : Option (List Term) → List Term
keys_in None = []
keys_in (Some ks) = ks

-- whether a key stands with a value
abbrev pub has_pair : List Entry → Term → Term → Bool
has_pair es v k = contains_key term_cmp k (keys_in (lookup term_cmp v es))

-- whether a record has a value at a position
abbrev pub has_value : ℕ → PlainTerm → PlainTerm → Bool
has_value p x r = same (element p r) x

-- no value stands without keys
abbrev pub IsFilled : List Entry → Type 0
IsFilled es = (v : Term) → lookup term_cmp v es ≢ Some []

-- a value and a key stand in it exactly where some record of that key has that value at the position
pub record IsIndexOf (rows : Rows) (p : ℕ) (es : List Entry) : Type 0 where
  pub pairs : (v k : Term) → has_pair es v k ≡ list_any (has_value p (term v)) (at rows (term k))
  pub filled : IsFilled es

-- two values, and two keys, are one
abbrev pub is_pair : PlainTerm → PlainTerm → Term → Term → Bool
is_pair x k v j = same (term v) x && same (term j) k

-- with one pair more
pub record IsWith (es fs : List Entry) (x k : PlainTerm) : Type 0 where
  pub pairs : (v j : Term) → has_pair fs v j ≡ (is_pair x k v j || has_pair es v j)
  pub filled : IsFilled es → IsFilled fs

-- without one pair
pub record IsWithout (es fs : List Entry) (x k : PlainTerm) : Type 0 where
  pub pairs : (v j : Term) → has_pair fs v j ≡ (not (is_pair x k v j) && has_pair es v j)
  pub filled : IsFilled es → IsFilled fs

-- keys among which are all of which a record has a value at a position
abbrev pub AreKeysWith : Rows → ℕ → PlainTerm → List Term → Type 0
AreKeysWith rows p x ks = (k : Term) → contains_key term_cmp k ks ≡ false → list_any (has_value p x) (at rows (term k)) ≡ false
