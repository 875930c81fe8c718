-- What becomes of an item that is put into a new mailbox, by what the post and the other end show then.
use Rattle.std.specs.Prelude.{◌≡◌, ℕ, List, [], ◌∷◌}
use Rattle.tab_model.specs.declared.data.Item.{Item}
use Rattle.tab_model.specs.State.{Outbox}
use Rattle.tab_model.specs.Outcome.{with_items, with_refusal}
use Rattle.tab_outbox.specs.declared.refused.Refused.{Refused}
use Rattle.tab_outbox.specs.declared.refused.Refused.TheVariants.{Gone}
use Rattle.tab_post.specs.Ends.{empty_outbox}

-- it was put, and taken at the other end
pub record IsTaken (item x : Item) (mailbox : ℕ) (post : Outbox) (taken : List Item) : Type 0 where
  pub same : x ≡ item
  pub put : post ≡ with_items (empty_outbox mailbox) (item ∷ [])
  pub all : taken ≡ item ∷ []

-- the post refused it once, and not because it was full
pub record IsHandedBack (item : Item) (r : Refused) (mailbox : ℕ) (post : Outbox) (taken : List Item) : Type 0 where
  pub gone : r ≡ Gone item
  pub refused : post ≡ with_refusal (empty_outbox mailbox)
  pub none : taken ≡ []
