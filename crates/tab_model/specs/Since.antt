-- What a log says of one table: its changes, its deletion, and the subscriptions that stand (this project's own).
use Rattle.std.specs.Prelude.{◌≡◌, ℕ, List, [], ◌∷◌, ◌++◌, Bool, true, false, ◌&&◌, ◌||◌, ◌==◌, Some, is_some, ◌<◌, filter_map}
use Rattle.std.specs.List.{filter, list_any}
use Rattle.std.specs.Str.{bytes_eq}
use Rattle.tab_term.specs.Data.{PlainTerms}
use Rattle.tab_model.specs.declared.data.Change.{Change}
use Rattle.tab_model.specs.declared.data.Level.{Level}
use Rattle.tab_model.specs.declared.data.Entry.{Entry}
use Rattle.tab_model.specs.declared.data.Entry.TheVariants.{Committed, Changed, Subscribed, Unsubscribed}
use Rattle.tab_model.specs.declared.data.Item.{Item}
use Rattle.tab_model.specs.declared.data.Item.TheVariants.{Began, Batch, Ended}
use Rattle.tab_model.specs.Names.{terms_list}
use Rattle.tab_model.specs.Shapes.{change_of}
use Rattle.tab_model.specs.Operations.{table_of_change}
use Rattle.tab_model.specs.Events.{surviving_changes}
use Rattle.tab_model.specs.Schemas.{removed_table}
use Rattle.tab_model.specs.Tables.{Rows, rows_after}
use Rattle.tab_model.specs.Catalogs.{Catalog, Table, find}
use Rattle.tab_model.specs.Log.{has_session, is_removed, catalog_after, serial}
use Rattle.tab_model.specs.Slices.{dump_of, slice_after}

-- the change is made in the table
abbrev pub is_of : List ℕ → Change → Bool
is_of t c = bytes_eq (table_of_change c) t

-- the changes that one entry made to a table, in order (this project's own rule: one for each update that survived)
abbrev pub changes_in : List ℕ → Entry → List Change
changes_in t (Committed n s age xs rs over) = filter (is_of t) (surviving_changes xs rs)
changes_in t (Changed c over) = []
changes_in t (Subscribed s u l dump) = []
changes_in t (Unsubscribed s u) = []

-- the changes of a table in a whole log, in the log's order
abbrev pub changes_on : List ℕ → List Entry → List Change
changes_on t [] = []
changes_on t (e ∷ es) = changes_in t e ++ changes_on t es

-- whether an entry deletes a table
abbrev pub is_deletion_of : List ℕ → Entry → Bool
is_deletion_of t (Committed n s age xs rs over) = false
is_deletion_of t (Changed c over) = is_removed t (removed_table c)
is_deletion_of t (Subscribed s u l dump) = false
is_deletion_of t (Unsubscribed s u) = false

-- whether a session overflowed in an entry
abbrev pub is_overflow_of : ℕ → Entry → Bool
is_overflow_of s (Committed n x age xs rs over) = has_session over s
is_overflow_of s (Changed c over) = has_session over s
is_overflow_of s (Subscribed x u l dump) = false
is_overflow_of s (Unsubscribed x u) = false

-- whether an entry is a session's unsubscribing of a table
abbrev pub is_unsubscription_of : ℕ → List ℕ → Entry → Bool
is_unsubscription_of s t (Committed n x age xs rs over) = false
is_unsubscription_of s t (Changed c over) = false
is_unsubscription_of s t (Subscribed x u l dump) = false
is_unsubscription_of s t (Unsubscribed x u) = (x == s) && bytes_eq u t

-- what ends a session's subscription to a table
abbrev pub is_end_of : ℕ → List ℕ → Entry → Bool
is_end_of s t e = is_unsubscription_of s t e || (is_deletion_of t e || is_overflow_of s e)

-- whether an entry begins a session's subscription to a table
abbrev pub is_subscription_of : ℕ → List ℕ → Entry → Bool
is_subscription_of s t (Committed n x age xs rs over) = false
is_subscription_of s t (Changed c over) = false
is_subscription_of s t (Subscribed x u l dump) = (x == s) && bytes_eq u t
is_subscription_of s t (Unsubscribed x u) = false

-- a subscription that stands at a log's end: a Subscribed entry of the session for the table, and nothing after it that
-- ends it (an unsubscribing, the table's deletion, the session's overflow) or begins it anew
pub record IsInForceSince (s : ℕ) (t : List ℕ) (l : Level) (log : List Entry) : Type 0 where
  pub earlier : List Entry
  pub dump : Bool
  pub since : List Entry
  pub is : log ≡ earlier ++ Subscribed s t l dump ∷ since
  pub not_ended : list_any (is_end_of s t) since ≡ false
  pub not_anew : list_any (is_subscription_of s t) since ≡ false

-- a subscription was made on a table that stood then
abbrev pub WasInForce : Catalog → Entry → Type 0
WasInForce w (Committed n s age xs rs over) = Unit {0}
WasInForce w (Changed c over) = Unit {0}
WasInForce w (Subscribed s t l dump) = is_some (find w t) ≡ true
WasInForce w (Unsubscribed s t) = Unit {0}

-- each subscription of a log, which is run from these tables, was made on a table that was there then
abbrev pub AllWereInForce : Catalog → List Entry → Type 0
AllWereInForce w [] = Unit {0}
AllWereInForce w (e ∷ es) = WasInForce w e × AllWereInForce (catalog_after w e) es

-- the changes of a table that items tell, read off the terms of their events
abbrev pub changes_in_items : List ℕ → List Item → List Change
changes_in_items t [] = []
changes_in_items t (Began u l dump ∷ items) = changes_in_items t items
changes_in_items t (Batch n es ∷ items) = filter (is_of t) (filter_map change_of (terms_list es)) ++ changes_in_items t items
changes_in_items t (Ended u ending ∷ items) = changes_in_items t items

-- the age of each commit is from 1 on
abbrev pub HasAge : Entry → Type 0
HasAge (Committed n s age xs rs over) = 0 < age
HasAge (Changed c over) = Unit {0}
HasAge (Subscribed s t l dump) = Unit {0}
HasAge (Unsubscribed s t) = Unit {0}

-- the age of each commit of a log is from 1 on
abbrev pub AllAged : List Entry → Type 0
AllAged [] = Unit {0}
AllAged (e ∷ es) = HasAge e × AllAged es

-- a table's rows are those of it at the beginning of a subscription that stands, with the changes since applied: those of
-- the log, and those that the items due since the begin marker tell; and so are the records of its dump, where the marker has one
pub record RowsSince (s : ℕ) (t : List ℕ) (l : Level) (log : List Entry) (rows : Rows) : Type 0 where
  pub subscription : IsInForceSince s t l log
  pub table : Table
  pub stood : find (serial subscription.earlier) t ≡ Some table
  pub now : rows ≡ rows_after table.def.kind table.rows (changes_on t subscription.since)
  pub told : rows ≡ rows_after table.def.kind table.rows (changes_in_items t (slice_after s (subscription.earlier ++ Subscribed s t l subscription.dump ∷ []) subscription.since))
  pub dumped : (records : PlainTerms) → dump_of (serial subscription.earlier) t subscription.dump ≡ Some records → rows ≡ rows_after table.def.kind (terms_list records) (changes_on t subscription.since)
