-- Records as a map keeps them: by key, each key's records in the order of insertion.
use Rattle.std.specs.Prelude.{◌≡◌, ◌≢◌, ℕ, List, [], ◌∷◌, ◌++◌, true, length}
use Rattle.std.specs.List.{list_all}
use Rattle.tab_term.specs.View.{term}
use Rattle.tab_term.specs.Data.{PlainTerm, PlainTerms}
use Rattle.tab_map.specs.Entries.{Ascends}
use Rattle.tab_model.specs.Names.{plain_terms, terms_list}
use Rattle.tab_model.specs.Tables.{has_key}
use Rattle.tab_term.specs.Order.{term_cmp}
pub use Rattle.tab_lists.specs.ByKey.{Entry, joined}

-- a key has records, and they have that key
pub record IsKeyed (e : Entry) : Type 0 where
  pub keyed : list_all (has_key (term e.0)) (terms_list e.1) ≡ true
  pub filled : terms_list e.1 ≢ []

-- each key has records, and they have that key
abbrev pub AllKeyed : List Entry → Type 0
AllKeyed [] = Unit {0}
AllKeyed (e ∷ es) = IsKeyed e × AllKeyed es

-- what the map of a table's records keeps
pub record IsInOrder (es : List Entry) : Type 0 where
  pub ascends : Ascends term_cmp es
  pub keyed : AllKeyed es

-- records with one more after them
abbrev pub followed_by : PlainTerms → PlainTerm → PlainTerms
followed_by records row = plain_terms (terms_list records ++ row ∷ [])

-- what a table keeps: its records by key, and how many they are
pub record IsKept (es : List Entry) (size : ℕ) : Type 0 where
  pub order : IsInOrder es
  pub counted : size ≡ length (joined es)
