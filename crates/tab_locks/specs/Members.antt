-- Lists compared by their members alone: by whether some member passes, for each test.
use Rattle.std.specs.Prelude.{◌≡◌, List, Bool, not, ◌&&◌, ◌||◌}
use Rattle.std.specs.List.{list_any}

-- the members of the old list, and x
abbrev pub HasMore : {X : Type 0} → X → List X → List X → Type 0
HasMore {X} x old new = (p : X → Bool) → list_any p new ≡ (p x || list_any p old)

-- the two lists have the same members
abbrev pub SameMembers : {X : Type 0} → List X → List X → Type 0
SameMembers {X} old new = (p : X → Bool) → list_any p new ≡ list_any p old

-- the members of the old list that don't pass
abbrev pub Drops : {X : Type 0} → (X → Bool) → List X → List X → Type 0
Drops {X} gone old new = (p : X → Bool) → list_any p new ≡ list_any (λ x. p x && not (gone x)) old
