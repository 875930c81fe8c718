-- A map from the terms that name attributes to their positions.
use Rattle.std.specs.Prelude.{◌≡◌, ℕ, List}
use Rattle.tab_term.specs.Order.{term_cmp}
use Rattle.tab_term.specs.View.{term}
use Rattle.tab_term.specs.declared.term.Term.{Term}
use Rattle.tab_map.specs.Entries.{lookup}
use Rattle.tab_model.specs.Definitions.{position_from}

-- the map has the position of each term that names one of these attributes, the first of which is at p
abbrev pub AreNamed : ℕ → List (List ℕ) → List (Term × ℕ) → Type 0
AreNamed p names m = (t : Term) → lookup term_cmp t m ≡ position_from p names (term t)
