-- The updates that survive a transaction, and their events (Mnesia User's Guide, "Mnesia Event Handling"; one event for each
-- update, in order, none merged: this project's own rule).
use Rattle.std.specs.Prelude.{ℕ, List, [], ◌∷◌, ◌++◌, Bool, true, false, if◌then◌else◌, Option, Some, None}
use Rattle.tab_model.specs.declared.data.Move.{Move}
use Rattle.tab_model.specs.declared.data.Move.TheVariants.{Do, Open, Close, Undo}
use Rattle.tab_model.specs.declared.data.Reply.{Reply}
use Rattle.tab_model.specs.declared.data.Reply.TheVariants as reply
use Rattle.tab_model.specs.declared.data.Change.{Change}
use Rattle.tab_model.specs.declared.data.Event.{Event}
use Rattle.tab_model.specs.Names.{plain_terms}
use Rattle.tab_model.specs.Catalogs.{Catalog, cell}
use Rattle.tab_model.specs.Operations.{change_of_op, table_of_change, key_of_change, change_catalog}

-- the saved updates without those of the innermost level, where any are saved
abbrev pub drop_level : List (List Change) → List (List Change)
drop_level [] = []
drop_level (x ∷ xs) = xs

-- what stood when the innermost level began; level 1 began with nothing
abbrev pub top_level : List (List Change) → List Change
top_level [] = []
top_level (x ∷ xs) = x

-- the replies of an operation that ends its level
abbrev pub is_failure : Option Reply → Bool
is_failure (Some (reply.NoTable t)) = true
is_failure (Some (reply.BadType t r)) = true
is_failure (Some (reply.NoIndex t a)) = true
is_failure r = false

-- the updates, with one more behind them where there is one
abbrev pub with_change : List Change → Option Change → List Change
with_change cs None = cs
with_change cs (Some c) = cs ++ c ∷ []

-- the updates that no level's end undid, read off the replies
abbrev pub survivors : List Change → List (List Change) → List Move → List (Option Reply) → List Change
survivors cur saved [] rs = cur
survivors cur saved (x ∷ xs) [] = cur
survivors cur saved (Do o ∷ xs) (r ∷ rs) =
    if is_failure r then survivors (top_level saved) (drop_level saved) xs rs else survivors (with_change cur (change_of_op o)) saved xs rs
survivors cur saved (Open ∷ xs) (r ∷ rs) = survivors cur (cur ∷ saved) xs rs
survivors cur saved (Close ∷ xs) (r ∷ rs) = survivors cur (drop_level saved) xs rs
survivors cur saved (Undo ∷ xs) (r ∷ rs) = survivors (top_level saved) (drop_level saved) xs rs

-- those of a whole transaction
abbrev pub surviving_changes : List Move → List (Option Reply) → List Change
surviving_changes xs rs = survivors [] [] xs rs

-- the event of a change, with the records of its key just before
abbrev pub event_of : Catalog → ℕ → Change → Event
event_of w age c = record { tab = table_of_change c; change = c; old = plain_terms (cell w (table_of_change c) (key_of_change c)); age = age }

-- the events of changes, made in turn
abbrev pub events : Catalog → ℕ → List Change → List Event
events w age [] = []
events w age (c ∷ cs) = event_of w age c ∷ events (change_catalog w c) age cs

-- the tables after changes, in turn
abbrev pub change_all : Catalog → List Change → Catalog
change_all w [] = w
change_all w (c ∷ cs) = change_all (change_catalog w c) cs
