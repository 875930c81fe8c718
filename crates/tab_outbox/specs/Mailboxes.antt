-- What a post and an end show when they meet (this project's own).
use Rattle.std.specs.Prelude.{◌≡◌, ◌≢◌, ℕ, List, [], ◌∷◌, ◌++◌, Option, Some, None}
use Rattle.tab_model.specs.declared.data.Item.{Item}
use Rattle.tab_model.specs.State.{Outbox}
use Rattle.tab_outbox.specs.declared.mailbox.Met.{Met}
use Rattle.tab_outbox.specs.declared.mailbox.Met.TheVariants.{Apart, Going, All}

-- the first list starts with the second
abbrev pub StartsWith : List Item → List Item → Type 0
StartsWith all xs = (others : List Item) × (all ≡ xs ++ others)

-- of what was put, the one list was taken before and the other after: one item more, or all of it
abbrev pub Takes : List Item → List Item → Met → List Item → Type 0
Takes put before Apart after = ⊥
Takes put before (Going x) after = (after ≡ before ++ x ∷ []) × StartsWith put after
Takes put before All after = (after ≡ before) × (after ≡ put)

-- a post b and an end of mailbox n
abbrev pub Tells : Outbox → ℕ → List Item → Met → List Item → Type 0
Tells b n before Apart after = (b.mailbox ≢ Some n) × (after ≡ before)
Tells b n before (Going x) after = (b.mailbox ≡ Some n) × Takes b.items before (Going x) after
Tells b n before All after = (b.mailbox ≡ Some n) × Takes b.items before All after

-- the same of a post that may not be there
abbrev pub Meets : Option Outbox → ℕ → List Item → Option Met → List Item → Type 0
Meets None n before None after = after ≡ before
Meets None n before (Some m) after = ⊥
Meets (Some b) n before None after = ⊥
Meets (Some b) n before (Some m) after = Tells b n before m after
