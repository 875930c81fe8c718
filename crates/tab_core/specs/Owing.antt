-- What a commit owes to those who watch the tables that it changes (Mnesia User's Guide, "Mnesia Event Handling").
use Rattle.std.specs.Prelude.{◌≡◌, ℕ, List, Bool, true, false, Option, Some, None, IfSome}
use Rattle.tab_model.specs.declared.data.Entry.{Entry}
use Rattle.tab_model.specs.declared.data.Entry.TheVariants.{Committed, Changed, Subscribed, Unsubscribed}
use Rattle.std.specs.List.{filter, list_any}
use Rattle.tab_model.specs.declared.data.Change.{Change}
use Rattle.tab_model.specs.declared.data.Event.{Event}
use Rattle.tab_model.specs.Events.{change_all, events, surviving_changes}
use Rattle.tab_model.specs.Operations.{table_of_change}
use Rattle.tab_model.specs.State.{State, Transaction}
use Rattle.tab_model.specs.Catalogs.{Catalog}
use Rattle.tab_core.specs.Outermost.{outermost}
use Rattle.tab_subs.specs.Subscribers.{has_watcher}
use Rattle.tab_core.specs.Joined.{Subscriber}
use Rattle.tab_core.specs.declared.committing.Updated.{Updated}

-- some session watches the event's table
abbrev pub is_watched : List Subscriber → Event → Bool
is_watched bs e = has_watcher bs e.tab

-- some session watches the table of one of the changes
abbrev pub are_watched : List Subscriber → List Change → Bool
are_watched bs cs = list_any (λ c. has_watcher bs (table_of_change c)) cs

-- the tables after the changes, if they are there, and the events that someone watches
pub record Updates (w : Catalog) (bs : List Subscriber) (age : ℕ) (cs : List Change) (u : Updated) : Type 0 where
  pub tables : IfSome u.tables (λ t. t ≡ change_all w cs)
  pub events : u.events.items ≡ filter (is_watched bs) (events w age cs)

-- nothing where no one watches
abbrev pub Owes : Catalog → List Subscriber → ℕ → List Change → Option Updated → Type 0
Owes w bs age cs None = are_watched bs cs ≡ false
Owes w bs age cs (Some u) = (are_watched bs cs ≡ true) × Updates w bs age cs u

-- they are those of the session's transaction, which its commit ends
pub record Commits (σ : State) (bs : List Subscriber) (n : ℕ) (u : Updated) : Type 0 where
  pub transaction : Transaction
  pub ends : outermost σ n ≡ Some transaction
  pub updates : Updates σ.tables bs transaction.age (surviving_changes transaction.moves transaction.told) u

-- an entry with those who overflowed in it
abbrev pub with_overflowed : List ℕ → Entry → Entry
with_overflowed over (Committed n s age moves told none) = Committed n s age moves told over
with_overflowed over (Changed c none) = Changed c over
with_overflowed over (Subscribed s t l dump) = Subscribed s t l dump
with_overflowed over (Unsubscribed s t) = Unsubscribed s t
