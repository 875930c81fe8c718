-- What is due for a commit or for a table's deletion, and its delivery (this project's own).
use Rattle.std.specs.Prelude.{◌≡◌, ℕ, List, [], ◌∷◌, Bool, true, false, Option, Some, None, length, nat_le, IfSome}
use Rattle.tab_model.specs.declared.data.Item.{Item}
use Rattle.tab_model.specs.declared.data.Item.TheVariants.{Batch}
use Rattle.tab_model.specs.declared.data.Event.{Event}
use Rattle.tab_model.specs.declared.data.Level.{Level}
use Rattle.tab_term.specs.Data.{none, one_more}
use Rattle.tab_model.specs.Shapes.{shape}
use Rattle.tab_model.specs.Log.{has_session}
use Rattle.tab_model.specs.State.{Outbox, without_watch}
use Rattle.tab_model.specs.Outcome.{with_items}
use Rattle.tab_subs.specs.Subscribers.{Subscriber, overflowed, given}

-- the number of an overflow, the items of each subscriber in their order, and the table that is gone
pub record Owed : Type 0 where
  pub number : ℕ
  pub items : List (List Item)
  pub ended : Option (List ℕ)

-- the item of a commit with one event, for who watches its table at this level
abbrev pub only_batch : ℕ → Level → Event → Item
only_batch n l e = Batch n (one_more (shape l e) none)

-- there are none past the last
abbrev pub first_of : List (List Item) → List Item
first_of [] = []
first_of (x ∷ xs) = x

-- the items of all subscribers but the first
abbrev pub rest_of : List (List Item) → List (List Item)
rest_of [] = []
rest_of (x ∷ xs) = xs

-- a subscriber without its subscription to the table that is gone, if one is
abbrev pub unwatched : {T : Type 0} → Option (List ℕ) → Subscriber T → Subscriber T
unwatched None s = s
unwatched (Some t) s = record s { watching = without_watch s.watching t }

-- who refused is in the first list
abbrev pub given_all : {T : Type 0} → ℕ → List ℕ → Option (List ℕ) → List (List Item) → List (Subscriber T) → List (Subscriber T)
given_all n over t items [] = []
given_all n over t items (s ∷ ss) = given n over (first_of items) (unwatched t s) ∷ given_all n over t (rest_of items) ss

-- an item is refused where the post's capacity says so, if it has one; and nothing is refused where nothing is due
abbrev pub IsDecided : Bool → List Item → Outbox → Type 0
IsDecided b [] o = b ≡ false
IsDecided b (x ∷ xs) o = IfSome o.capacity (λ c. b ≡ nat_le c (length o.items))

-- for each subscriber it is decided so whether it is in the list, by the items that are due to it
abbrev pub AreDecided : {T : Type 0} → List ℕ → List (List Item) → List (Subscriber T) → Type 0
AreDecided over items [] = Unit {0}
AreDecided over items (s ∷ ss) = IsDecided (has_session over s.number) (first_of items) s.outbox × AreDecided over (rest_of items) ss

-- the list with n before it where the Bool is true
abbrev pub joined_if : Bool → ℕ → List ℕ → List ℕ
joined_if true n ns = n ∷ ns
joined_if false n ns = ns

-- the subscribers that are in the list, in their order
abbrev pub those_in : {T : Type 0} → List ℕ → List (Subscriber T) → List ℕ
those_in over [] = []
those_in over (s ∷ ss) = joined_if (has_session over s.number) s.number (those_in over ss)

-- what a delivery leaves, and who overflowed in it
pub record Delivers {T : Type 0} (expected : Owed) (old new : List (Subscriber T)) (over : List ℕ) : Type 0 where
  pub over_are : over ≡ those_in over old
  pub given : new ≡ given_all expected.number over expected.ended expected.items old
  pub decided : AreDecided over expected.items old

-- one subscriber after its item, which its post refused or not
abbrev pub received : {T : Type 0} → ℕ → Bool → List Item → Subscriber T → Subscriber T
received n true items s = overflowed n s
received n false items s = record s { outbox = with_items s.outbox items }
