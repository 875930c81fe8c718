-- How the program keeps the levels: the innermost overlay, all surviving updates in one list, and for each open level the
-- overlay that it goes back to and how many updates there were.
use Rattle.std.specs.Prelude.{◌≡◌, ◌≤◌, ℕ, List, [], ◌∷◌, false, Some, take, length}
use Rattle.std.specs.List.{list_any}
use Rattle.tab_term.specs.Data.{PlainTerms}
use Rattle.tab_term.specs.Order.{term_cmp}
use Rattle.tab_term.specs.Same.{same}
use Rattle.tab_term.specs.View.{term}
use Rattle.tab_term.specs.declared.term.Term.{Term}
use Rattle.tab_map.specs.Entries.{lookup}
use Rattle.tab_model.specs.declared.data.Change.{Change}
use Rattle.tab_model.specs.declared.data.Change.TheVariants.{Write}
use Rattle.tab_model.specs.declared.data.Kind.TheVariants.{Bag}
use Rattle.tab_model.specs.Names.{terms_list}
use Rattle.tab_model.specs.Catalogs.{Table}
use Rattle.tab_model.specs.declared.data.Move.{Move}
use Rattle.tab_model.specs.State.{count_moves}
use Rattle.tab_txstore.specs.Overlays.{Overlay, touched}
use Rattle.tab_txstore.specs.Stores.{Level, Levels}
use Rattle.tab_txstore.specs.declared.levels.Saved.{Saved}

-- what a saved level goes back to: its overlay, and the first of the updates, as many as there were
abbrev pub level : List Change → Saved → Level
level us x = record { overlay = x.overlay; updates = take x.updates us }

-- outermost first in the program, innermost first here
abbrev pub levels_onto : List Change → List Level → List Saved → List Level
levels_onto us done [] = done
levels_onto us done (x ∷ xs) = levels_onto us (level us x ∷ done) xs

-- the levels of the program: the overlay and the updates as they are, and the saved levels, outermost first
abbrev pub levels_of : Overlay → List Change → List Saved → Levels
levels_of v us xs = record { now = record { overlay = v; updates = us }; saved = levels_onto us [] xs }

-- inner levels began with no fewer updates, and there are no fewer now
abbrev pub Rises : ℕ → List Saved → ℕ → Type 0
Rises n [] m = n ≤ m
Rises n (x ∷ xs) m = (n ≤ x.updates) × Rises x.updates xs m

-- how many of the moves count towards the limit
pub record IsCounted (xs : List Move) (n : ℕ) : Type 0 where
  pub count : n ≡ count_moves xs
  pub fits : n ≤ length xs

-- a write that a bag puts after other records of its key, which were touched before
pub record Appends (x : Table) (v : Overlay) (key : Term) (c : Change) (row : Term) : Type 0 where
  pub write : c ≡ Write row
  pub kind : x.def.kind ≡ Bag
  pub records : PlainTerms
  pub there : lookup term_cmp key (touched v x.def.name) ≡ Some records
  pub new : list_any (same (term row)) (terms_list records) ≡ false
