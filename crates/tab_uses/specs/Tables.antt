-- What a query of a table finds first.
use Rattle.std.specs.Prelude.{◌≡◌, Option, None, Some, [], ◌∷◌}
use Rattle.tab_term.specs.View.{term}
use Rattle.tab_term.specs.declared.term.Term.{Term}
use Rattle.tab_model.specs.Tables.{Rows}

-- the first of these records; None if there is none
abbrev pub IsFirst : Option Term → Rows → Type 0
IsFirst None rows = rows ≡ []
IsFirst (Some r) rows = (others : Rows) × (rows ≡ term r ∷ others)
