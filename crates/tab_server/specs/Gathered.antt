-- How items come from an inbox into frames (this project's own rules).
use Rattle.std.specs.Prelude.{◌≡◌, ◌⊎◌, ℕ, List, [], ◌∷◌, ◌++◌, Option, Some}
use Rattle.tab_model.specs.declared.data.Item.{Item}
use Rattle.tab_proto.specs.declared.events.Delivery.{Delivery}
use Rattle.tab_proto.specs.Events.{sent_frames}

-- the frames of these items, in order
abbrev pub all_frames : Delivery → List Item → List ℕ
all_frames d [] = []
all_frames d (x ∷ xs) = sent_frames d x ++ all_frames d xs

-- the frames of the items that were received come after those before, in order, each once
pub record Adds (d : Delivery) (before : List Item) (frames : List ℕ) (after : List Item) (now : List ℕ) : Type 0 where
  pub items : List Item
  pub taken : after ≡ before ++ items
  pub frames_are : now ≡ frames ++ all_frames d items

-- the items that were received and have no frame: none, or the last one, which is long and put aside
abbrev pub IsLeft : List Item → Option Item → Option Item → Type 0
IsLeft left long aside = ((left ≡ []) × (aside ≡ long)) ⊎ ((x : Item) × (left ≡ x ∷ []) × (aside ≡ Some x))

-- the frames of the items that were received come after those before, in order, each once, but for one item that is put aside
pub record Gathers (d : Delivery) (before : List Item) (frames : List ℕ) (long : Option Item) (after : List Item) (now : List ℕ) (aside : Option Item) : Type 0 where
  pub items : List Item
  pub left : List Item
  pub taken : after ≡ before ++ (items ++ left)
  pub frames_are : now ≡ frames ++ all_frames d items
  pub leaves : IsLeft left long aside
