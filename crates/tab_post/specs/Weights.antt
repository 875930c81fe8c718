-- What a post knows of the weights of the items in its channel (this project's own).
use Rattle.std.specs.Prelude.{◌≡◌, ℕ, ◌<◌, ◌≤◌, ◌^◌, Bool, false, List, [], ◌∷◌, ◌++◌, Option, Some, None, option_map, length, map, min, nat_le, sum, sum_by, drop}
use Rattle.std.specs.Option.{ForSome}
use Rattle.circular_buffer.specs.Buffer.{keep_last}
use Rattle.tab_model.specs.Bytes.{item_memory}
use Rattle.tab_model.specs.declared.data.Item.{Item}
use Rattle.tab_post.specs.Rule.{EndsWith}

-- the weight that makes a channel full, the number of weights that are kept at most, and the weights, oldest first
pub record Weighing : Type 0 where
  pub limit : ℕ
  pub room : ℕ
  pub weights : List ℕ

-- an item's bytes, at most as many as make a channel full
abbrev pub weight_of : ℕ → Item → ℕ
weight_of most x = min (item_memory x) most

-- the weights are those of the last items that were sent
abbrev pub IsOfLast : Weighing → List Item → Type 0
IsOfLast w sent = w.weights ≡ map (weight_of w.limit) (keep_last (length w.weights) sent)

-- the same of a post that may have no limit, with a channel of this capacity
abbrev pub IsWeighed : Option Weighing → ℕ → List Item → Type 0
IsWeighed weights capacity sent = ForSome weights (λ w. (w.room ≡ capacity) × IsOfLast w sent)

-- of a mailbox with this room, what a post keeps before the first item, if there is a limit
abbrev pub no_weights : ℕ → Option ℕ → Option Weighing
no_weights room = option_map (λ most. record { limit = most; room = room; weights = [] })

-- there is a limit, and the last items that had been sent, at most as many as the channel holds, weigh that much
abbrev pub WasHeavy : Option ℕ → ℕ → List Item → Type 0
WasHeavy None capacity sent = ⊥
WasHeavy (Some most) capacity sent = (items : List Item) × (length items ≤ capacity) × EndsWith sent items × (most ≤ sum_by item_memory items)

-- the weights make the channel full, if there is a limit
abbrev pub is_heavy : Option Weighing → Bool
is_heavy None = false
is_heavy (Some w) = nat_le w.limit (sum w.weights)

-- the limit is a number of 32 bits, and each weight has a place
abbrev pub AreWithin : Weighing → Type 0
AreWithin w = (w.limit < 2 ^ 32) × (length w.weights ≤ w.room)

-- some oldest weights are dropped, if there is a limit
abbrev pub Drops : Option Weighing → Option Weighing → Type 0
Drops None after = after ≡ None
Drops (Some w) after = (n : ℕ) × (after ≡ Some (record w { weights = drop n w.weights }))

-- a weight is kept too, and the oldest is not if it has no place
abbrev pub with_bytes : Option Weighing → ℕ → Option Weighing
with_bytes None bytes = None
with_bytes (Some w) bytes = Some (record w { weights = keep_last w.room (w.weights ++ min bytes w.limit ∷ []) })

-- without some oldest weights they did not make the channel full, and the item's weight is kept too
abbrev pub Weighs : Option Weighing → Item → Option Weighing → Type 0
Weighs old x new = (rest : Option Weighing) × Drops old rest × (is_heavy rest ≡ false) × (new ≡ with_bytes rest (item_memory x))
