-- Changes of one table.
use Rattle.std.specs.Prelude.{◌≡◌, ◌≢◌, ℕ, Bool, List, []}
use Rattle.std.specs.List.{All}
use Rattle.std.specs.Str.{bytes_eq}
use Rattle.tab_model.specs.declared.data.Change.{Change}
use Rattle.tab_model.specs.Operations.{table_of_change}

-- whether a change is of the table of this name
abbrev pub is_of : List ℕ → Change → Bool
is_of name c = bytes_eq (table_of_change c) name

-- at least one change, and all of the table of this name
pub record AreOf (name : List ℕ) (cs : List Change) : Type 0 where
  pub some : cs ≢ []
  pub all : All (λ c. table_of_change c ≡ name) cs
