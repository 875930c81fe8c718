-- The items that a log owes to each session (this project's own: batches, markers and overflow).
use Rattle.std.specs.Prelude.{ℕ, List, [], ◌∷◌, ◌++◌, Bool, true, false, ◌==◌, if◌then◌else◌, Option, Some, None, filter_map}
use Rattle.tab_term.specs.Data.{PlainTerm, PlainTerms}
use Rattle.tab_model.specs.declared.data.Level.{Level}
use Rattle.tab_model.specs.declared.data.Event.{Event}
use Rattle.tab_model.specs.declared.data.Item.{Item}
use Rattle.tab_model.specs.declared.data.Item.TheVariants.{Began, Batch, Ended}
use Rattle.tab_model.specs.declared.data.Ending.TheVariants as ending
use Rattle.tab_model.specs.declared.data.Entry.{Entry}
use Rattle.tab_model.specs.declared.data.Entry.TheVariants.{Committed, Changed, Subscribed, Unsubscribed}
use Rattle.tab_model.specs.Names.{plain_terms}
use Rattle.tab_model.specs.Catalogs.{Catalog, rows_of}
use Rattle.tab_model.specs.Events.{events, surviving_changes}
use Rattle.tab_model.specs.Shapes.{shape}
use Rattle.tab_model.specs.Schemas.{removed_table}
use Rattle.tab_model.specs.Log.{serial, in_force, has_session}

-- a commit's events at the levels of a session, as one item where there are any
abbrev pub as_batch : ℕ → List PlainTerm → List Item
as_batch n [] = []
as_batch n (e ∷ es) = Batch n (plain_terms (e ∷ es)) ∷ []

-- an event's term at the level of a subscription; none without one
abbrev pub shape_at : Option Level → Event → Option PlainTerm
shape_at None e = None
shape_at (Some l) e = Some (shape l e)

-- the item of a commit for who is subscribed at these levels
abbrev pub batch_for : (List ℕ → Option Level) → ℕ → List Event → List Item
batch_for levels n es = as_batch n (filter_map (λ e. shape_at (levels e.tab) e) es)

-- the records that a begin marker carries, where a dump was asked for
abbrev pub dump_of : Catalog → List ℕ → Bool → Option PlainTerms
dump_of w t true = Some (plain_terms (rows_of w t))
dump_of w t false = None

-- the end marker of a deleted table, where there is a subscription to it
abbrev pub ended_item : List ℕ → Option Level → List Item
ended_item t None = []
ended_item t (Some l) = Ended t ending.Deleted ∷ []

-- the item of a table's deletion for who is subscribed to it
abbrev pub end_for : (List ℕ → Option Level) → Option (List ℕ) → List Item
end_for levels None = []
end_for levels (Some t) = ended_item t (levels t)

-- who overflowed in an entry is due nothing of it
abbrev pub unless_over : Bool → List Item → List Item
unless_over true items = []
unless_over false items = items

-- what an entry owes to a session that has these levels, on the tables before it
abbrev pub expected_on : Catalog → (List ℕ → Option Level) → ℕ → Entry → List Item
expected_on w levels s (Committed n x age xs rs over) =
    unless_over (has_session over s) (batch_for levels n (events w age (surviving_changes xs rs)))
expected_on w levels s (Changed c over) =
    unless_over (has_session over s) (end_for levels (removed_table c))
expected_on w levels s (Subscribed x t l dump) =
    if x == s then Began t l (dump_of w t dump) ∷ [] else []
expected_on w levels s (Unsubscribed x t) = if x == s then Ended t ending.Unsubscribed ∷ [] else []

-- what an entry owes to a session, after the log before it
abbrev pub expected_items : ℕ → List Entry → Entry → List Item
expected_items s log e = expected_on (serial log) (in_force s log) s e

-- what the second log owes to a session, in order, where the first log came before it
abbrev pub slice_after : ℕ → List Entry → List Entry → List Item
slice_after s log [] = []
slice_after s log (e ∷ es) = expected_items s log e ++ slice_after s (log ++ e ∷ []) es

-- all that a log owes to a session, in order
abbrev pub slice : ℕ → List Entry → List Item
slice s log = slice_after s [] log
