-- Lists that have a member, maps of such lists alone, and a table that has a lock and stands beside others.
use Rattle.std.specs.Prelude.{◌≡◌, ℕ, List, true, IsFalse}
use Rattle.std.specs.BTreeMap.{BTreeMap, IsOrdered}
use Rattle.std.specs.List.{All, list_any}
use Rattle.std.specs.Map.{values_of}
use Rattle.std.specs.declared.cmp.Ordering.{Ordering}
use Rattle.tab_model.specs.Ages.{Owned}
use Rattle.tab_model.specs.State.{is_in}
use Rattle.tab_locks.specs.Spots.{Spot}

-- the list has a member
abbrev pub IsFilled : {X : Type 0} → List X → Type 0
IsFilled xs = list_any (λ x. true) xs ≡ true

-- no list among the values is empty
abbrev pub HasNoneEmpty : {K X : Type 0} → List (K × List X) → Type 0
HasNoneEmpty es = All IsFilled (values_of es)

-- the map's keys ascend, and none has an empty list
pub record IsPruned {K X : Type 0} (cmp : K → K → Ordering) (map : BTreeMap K (List X)) : Type 0 where
  pub ordered : IsOrdered cmp map
  pub filled : HasNoneEmpty map.entries

-- the table has a lock, and none of the others is on it
pub record StandsBeside (others : List Owned) (table : List ℕ × List Spot) : Type 0 where
  pub filled : IsFilled table.1
  pub apart : IsFalse (list_any (is_in table.0) others)
