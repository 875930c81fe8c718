-- The rule of a mailbox (this project's own): what was sent is what was taken, followed by what the channel holds.
use Rattle.std.specs.Prelude.{◌≡◌, ℕ, Bool, true, List, ◌++◌}
use mathlib.Core.Option.{some}
use lib.ListN.{get_elem?}
use Rattle.tab_model.specs.declared.data.Item.{Item}
use Rattle.tab_post.specs.declared.rule.PassView.{PassView}

-- what a pass knows: whether it sends, whether it takes, and the items that it sent and took
abbrev pub pass_view : Bool → Bool → List Item → List Item → PassView
pass_view a b sent taken = record { sends = a; takes = b; sent = sent; taken = taken }

-- the first list ends with the second
abbrev pub EndsWith : List Item → List Item → Type 0
EndsWith all xs = (others : List Item) × (all ≡ others ++ xs)

-- a pass that sends is the writer's and knows all that was sent; one that takes is the reader's and knows all that was taken
abbrev pub Knows : ℕ → ℕ → List Item → List Item → ℕ → PassView → Type 0
Knows writer reader sent taken port v = (v.sends ≡ true → (port ≡ writer) × (v.sent ≡ sent)) × (v.takes ≡ true → (port ≡ reader) × (v.taken ≡ taken))

-- what was sent is what was taken, followed by these items, and each pass knows what is its own of that
abbrev pub Relayed : List Item → List PassView → Type 0
Relayed items views = (writer : ℕ) × (reader : ℕ) × (sent : List Item) × (taken : List Item) × (sent ≡ taken ++ items)
    × ((port : ℕ) (v : PassView) → get_elem? views port ≡ some v → Knows writer reader sent taken port v)
