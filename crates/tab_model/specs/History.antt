-- A journal and the base that it starts from: the tables, the last commit's number and the subscriptions in force, all as
-- they were before its first entry (this project's own: what stands of a log whose oldest entries were folded away).
use Rattle.std.specs.Prelude.{◌≡◌, ℕ, List, [], ◌∷◌, ◌++◌, Bool, true, false, not, ◌&&◌, ◌||◌, ◌==◌, if◌then◌else◌, Option, Some, None, is_some}
use Rattle.std.specs.List.{filter}
use Rattle.std.specs.Str.{bytes_eq}
use Rattle.tab_model.specs.declared.data.Level.{Level}
use Rattle.tab_model.specs.declared.data.Item.{Item}
use Rattle.tab_model.specs.declared.data.Entry.{Entry}
use Rattle.tab_model.specs.declared.data.Entry.TheVariants.{Committed, Changed, Subscribed, Unsubscribed}
use Rattle.tab_model.specs.Catalogs.{Catalog}
use Rattle.tab_model.specs.declared.data.Schema.{Schema}
use Rattle.tab_model.specs.Events.{surviving_changes, change_all}
use Rattle.tab_model.specs.Schemas.{removed_table, schema_refusal, schema_effect}
use Rattle.tab_model.specs.Log.{serial_from, in_force_from, is_removed, has_session, IsLegal}
use Rattle.tab_model.specs.Slices.{expected_on}

-- a subscription in force: its session, its table and its level
pub record Subscription : Type 0 where
  pub session : ℕ
  pub table : List ℕ
  pub level : Level

-- where a journal starts from: the tables, the last commit's number, the subscriptions in force
pub record Base : Type 0 where
  pub tables : Catalog
  pub commits : ℕ
  pub subscriptions : List Subscription

-- before all
abbrev pub empty : Base
empty = record { tables = []; commits = 0; subscriptions = [] }

-- the subscription is that of the session to the table
abbrev pub is_of : ℕ → List ℕ → Subscription → Bool
is_of s t x = (x.session == s) && bytes_eq x.table t

-- the level of a session on a table, if it is subscribed
abbrev pub level_at : List Subscription → ℕ → List ℕ → Option Level
level_at [] s t = None
level_at (x ∷ xs) s t = if is_of s t x then Some x.level else level_at xs s t

-- the same after a log from the base: what stood in the base counts as standing before the first entry
abbrev pub in_force_since : Base → ℕ → List Entry → List ℕ → Option Level
in_force_since b s log t = in_force_from s t (level_at b.subscriptions s t) log

-- what an entry owes to a session, after the log before it
abbrev pub expected_since : Base → ℕ → List Entry → Entry → List Item
expected_since b s log e = expected_on (serial_from b.tables log) (in_force_since b s log) s e

-- what the second log owes to a session, in order, where the first log came before it, from the base
abbrev pub slice_since_after : Base → ℕ → List Entry → List Entry → List Item
slice_since_after b s log [] = []
slice_since_after b s log (e ∷ es) = expected_since b s log e ++ slice_since_after b s (log ++ e ∷ []) es

-- all that a log from a base owes to a session, in order
abbrev pub slice_since : Base → ℕ → List Entry → List Item
slice_since b s log = slice_since_after b s [] log

-- running a log from a base is legal and ends in these tables
pub record IsHistory (b : Base) (log : List Entry) (tables : Catalog) : Type 0 where
  pub legal : IsLegal b.tables b.commits log
  pub ends : serial_from b.tables log ≡ tables

-- a subscription stands after a commit unless its session overflowed, after a deletion unless it was on that table besides
abbrev pub outlasts : List ℕ → Option (List ℕ) → Subscription → Bool
outlasts over gone x = not (is_removed x.table gone || has_session over x.session)

-- a session subscribes: where it is still joined, that is its subscription to the table
abbrev pub with_subscription : Bool → List Subscription → Subscription → List Subscription
with_subscription false xs x = xs
with_subscription true xs x = filter (λ y. not (is_of x.session x.table y)) xs ++ x ∷ []

-- the subscriptions after one entry; joined says whether a session that subscribes is still joined
abbrev pub subscriptions_after : Bool → List Subscription → Entry → List Subscription
subscriptions_after joined xs (Committed n s age ms rs over) = filter (outlasts over None) xs
subscriptions_after joined xs (Changed c over) = filter (outlasts over (removed_table c)) xs
subscriptions_after joined xs (Subscribed s t l dump) = with_subscription joined xs (record { session = s; table = t; level = l })
subscriptions_after joined xs (Unsubscribed s t) = filter (λ y. not (is_of s t y)) xs

-- the tables after a schema command, or those before it where it is refused
abbrev pub after_schema : Catalog → Schema → Catalog
after_schema w c = if is_some (schema_refusal w c) then w else schema_effect w c

-- the tables after one entry, read off what it was told: its surviving updates, or its schema command
abbrev pub tables_after : Catalog → Entry → Catalog
tables_after w (Committed n s age ms rs over) = change_all w (surviving_changes ms rs)
tables_after w (Changed c over) = after_schema w c
tables_after w (Subscribed s t l dump) = w
tables_after w (Unsubscribed s t) = w

-- the last commit's number after one entry
abbrev pub number_after : ℕ → Entry → ℕ
number_after c (Committed n s age ms rs over) = n
number_after c (Changed x over) = c
number_after c (Subscribed s t l dump) = c
number_after c (Unsubscribed s t) = c

-- one entry folded into a base
abbrev pub after_fold : Bool → Base → Entry → Base
after_fold joined b e = record { tables = tables_after b.tables e; commits = number_after b.commits e; subscriptions = subscriptions_after joined b.subscriptions e }

-- where an entry is a subscription of that session, its session is said to be joined
abbrev pub Admits : Bool → ℕ → Entry → Type 0
Admits joined s (Committed n x age xs rs over) = Unit {0}
Admits joined s (Changed c over) = Unit {0}
Admits joined s (Subscribed x t l dump) = x ≡ s → joined ≡ true
Admits joined s (Unsubscribed x t) = Unit {0}

-- a session has left: its subscriptions go
abbrev pub without_subscriber : Base → ℕ → Base
without_subscriber b s = record { tables = b.tables; commits = b.commits; subscriptions = filter (λ x. not (x.session == s)) b.subscriptions }
