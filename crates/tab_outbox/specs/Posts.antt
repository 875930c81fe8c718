-- What a post says of its answers (this project's own).
use Rattle.std.specs.Prelude.{◌≡◌, ℕ, List, ◌∷◌, Some, None}
use Rattle.tab_model.specs.declared.data.Item.{Item}
use Rattle.tab_model.specs.State.{Outbox}
use Rattle.tab_model.specs.Outcome.{items_to_take}
use Rattle.tab_outbox.specs.declared.refused.Refused.{Refused}
use Rattle.tab_outbox.specs.declared.refused.Refused.TheVariants.{Full, Gone}

-- the item that is handed back
abbrev pub refused_item : Refused → Item
refused_item (Full x) = x
refused_item (Gone x) = x

-- the post refused the item because it is full, not because nobody takes from it any more
abbrev pub IsFull : Refused → Type 0
IsFull (Full x) = Unit {0}
IsFull (Gone x) = ⊥

-- the first item that can be taken is taken
pub record GivesFirst (old new : Outbox) (x : Item) : Type 0 where
  pub first : items_to_take old old.capacity ≡ x ∷ new.items
  pub refusals : new.refusals ≡ old.refusals
  pub capacity : new.capacity ≡ old.capacity
  pub mailbox : new.mailbox ≡ old.mailbox

-- a ring of items, and how often it refused one
pub record Ring : Type 0 where
  pub items : List Item
  pub refusals : ℕ
  pub capacity : ℕ

-- its capacity decides
abbrev pub as_outbox : Ring → Outbox
as_outbox r = record { items = r.items; refusals = r.refusals; capacity = Some r.capacity; mailbox = None }
