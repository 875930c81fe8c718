-- Tables as a map keeps them, by name.
use Rattle.std.specs.Prelude.{◌≡◌, ℕ, List, [], ◌∷◌, map}
use Rattle.tab_map.specs.Entries.{Ascends}
use Rattle.tab_model.specs.Catalogs.{Catalog, Table, name_of}
use Rattle.tab_term.specs.Order.{bytes_cmp}

-- a name and the table under it
abbrev pub Entry : Type 0
Entry = List ℕ × Table

-- the tables of the entries, in their order
abbrev pub catalog_of : List Entry → Catalog
catalog_of es = map (λ e. e.1) es

-- each table is under its own name
abbrev pub AllNamed : List Entry → Type 0
AllNamed [] = Unit {0}
AllNamed (e ∷ es) = (name_of e.1 ≡ e.0) × AllNamed es

-- each table stands at its own name, and the names ascend
pub record AreNamed (es : List Entry) : Type 0 where
  pub ascends : Ascends bytes_cmp es
  pub named : AllNamed es
