-- What makes a mailbox full, of items that were received (this project's own).
use Rattle.std.specs.Prelude.{◌≡◌, ◌+◌, ◌-◌, ◌<◌, ◌^◌, List, IfSome, length, sum_by}
use Rattle.tab_model.specs.Bytes.{item_memory}
use Rattle.tab_model.specs.declared.data.Item.{Item}
use Rattle.tab_post.specs.declared.room.Room.{Room}
use Rattle.tab_post.specs.declared.room.Load.{Load}

-- a mailbox is not full of so many items and bytes, and neither number is at its greatest
abbrev pub IsBelow : Room → Load → Type 0
IsBelow room load = (load.items < room.items) × (load.items < 2 ^ 64 - 1) × IfSome room.bytes (λ most. (load.bytes < most) × (load.bytes < 2 ^ 64 - 1))

-- the second load is the first with the items that were received since, of which the two lists are all before and after; a number at its greatest says nothing
abbrev pub IsAfter : Load → List Item → List Item → Load → Type 0
IsAfter before first all after = (after.items < 2 ^ 64 - 1 → before.items + length all ≡ length first + after.items)
    × (after.bytes < 2 ^ 64 - 1 → before.bytes + sum_by item_memory all ≡ sum_by item_memory first + after.bytes)

-- a mailbox is not full of this load and the items that were received since
abbrev pub IsBelowSince : Room → Load → List Item → List Item → Type 0
IsBelowSince room before first all = (before.items + length all < length first + room.items)
    × IfSome room.bytes (λ most. before.bytes + sum_by item_memory all < sum_by item_memory first + most)
