-- When a term fits a pattern (Mnesia Reference Manual, match_object/1: the atom '_' is the wildcard).
use Rattle.std.specs.Prelude.{ℕ, List, [], ◌∷◌, Bool, true, false, ◌&&◌, ◌||◌}
use Rattle.std.specs.Str.{bytes_eq}
use Rattle.tab_term.specs.Data.{PlainTerm, atom, tuple, list, PlainTerms, none, one_more}
use Rattle.tab_term.specs.Same.{same}

-- '_'
abbrev pub is_wildcard : List ℕ → Bool
is_wildcard name = bytes_eq name (95 ∷ [])

-- a term fits a pattern where both are equal, but for '_' outside of maps, which fits every term
abbrev mutual
  -- the pattern comes first
  pub matches : PlainTerm → PlainTerm → Bool
  matches (atom name) t = is_wildcard name || same (atom name) t
  matches (tuple ps) (tuple ts) = all_match ps ts
  matches (list ps) (list ts) = all_match ps ts
  matches p t = same p t

  -- as many terms as patterns, and each fits its own
  pub all_match : PlainTerms → PlainTerms → Bool
  all_match none none = true
  all_match (one_more p ps) (one_more t ts) = matches p t && all_match ps ts
  all_match ps ts = false

-- a map is compared whole, so a '_' inside one is no wildcard (this project's own rule)
abbrev mutual
  -- a '_' is somewhere in the term, outside of maps
  pub has_wildcard : PlainTerm → Bool
  has_wildcard (atom name) = is_wildcard name
  has_wildcard (tuple ts) = any_wildcard ts
  has_wildcard (list ts) = any_wildcard ts
  has_wildcard t = false

  -- one of the terms has a '_' outside of maps
  pub any_wildcard : PlainTerms → Bool
  any_wildcard none = false
  any_wildcard (one_more t ts) = has_wildcard t || any_wildcard ts
