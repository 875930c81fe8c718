-- The held locks as one list: owners by ascending age, each owner's locks in the order of granting.
use Rattle.std.specs.Prelude.{◌≡◌, ℕ, List, [], ◌∷◌, Bool, not, ◌&&◌, ◌||◌, ◌==◌, nat_lt, if◌then◌else◌, map, Option, Some, None}
use Rattle.std.specs.Global.{Vec}
use Rattle.std.specs.List.{flat_map, list_any}
use Rattle.std.specs.Ordering.{nat_cmp}
use Rattle.std.specs.BTreeMap.{BTreeMap, IsOrdered}
use Rattle.tab_model.specs.declared.data.Lock as code
use Rattle.tab_model.specs.Ages.{Owned, opposes, blocks, covers_own}
use Rattle.tab_locks.specs.Members.{SameMembers}
use Rattle.tab_locks.specs.Plain.{lock_of}
use Rattle.tab_locks.specs.Spots.{holds_at}
use Rattle.tab_locks.specs.declared.lock_table.Asked.{Asked}
use Rattle.tab_locks.specs.declared.lock_table.Asked.TheVariants.{Held, InConflict}
use Rattle.tab_locks.specs.declared.lock_table.Conflict.{Conflict}
use Rattle.tab_locks.specs.declared.lock_table.Conflict.TheVariants.{Free, WithYounger, WithOlder}

-- one lock more, at the end of its owner's own
abbrev pub placed : Owned → List Owned → List Owned
placed x [] = x ∷ []
placed x (y ∷ ys) = if nat_lt x.0 y.0 then x ∷ y ∷ ys else y ∷ placed x ys

-- an owner's last lock less
abbrev pub without_last : ℕ → List Owned → List Owned
without_last age [] = []
without_last age (x ∷ xs) = if (x.0 == age) && not (list_any (λ y. y.0 == age) xs) then xs else x ∷ without_last age xs

-- these locks, each with its owner's age
abbrev pub owned_by : ℕ → List code.Lock → List Owned
owned_by age locks = map (λ l. (age, lock_of l)) locks

-- the locks of all owners, each with its owner's age, in the order of the owners
abbrev pub listed : List (ℕ × Vec code.Lock) → List Owned
listed owners = flat_map (λ e. owned_by e.0 (e.1).items) owners

-- the index has the members of the owners' lists, and no others
pub record IsIndexed (owners : BTreeMap ℕ (Vec code.Lock)) (index : List Owned) : Type 0 where
  pub ordered : IsOrdered nat_cmp owners
  pub indexed : SameMembers (listed owners.entries) index

-- of this owner, and one of these locks
abbrev pub is_of : ℕ → List code.Lock → Owned → Bool
is_of age locks x = list_any (λ l. holds_at age (lock_of l) x) locks

-- whether a request conflicts with a held lock of another owner, and if so, whether with one of an older owner
abbrev pub conflict_with : Owned → List Owned → Conflict
conflict_with r held = if list_any (opposes r) held then (if list_any (blocks r) held then WithOlder else WithYounger) else Free

-- the same, and none where a lock of its own owner serves
abbrev pub standing : Owned → List Owned → Option Conflict
standing r held = if list_any (covers_own r) held then None else Some (conflict_with r held)

-- whom a lock that is asked for is in conflict with, and none where it may be held
abbrev pub in_the_way : Owned → List Owned → Option Conflict
in_the_way r held = if list_any (covers_own r) held || not (list_any (opposes r) held) then None else Some (conflict_with r held)

-- what an answer says of it, which locks are held then, and which lock comes back
abbrev pub conflict_in : Asked → Option Conflict
conflict_in Held = None
conflict_in (InConflict c l) = Some c

-- the locks that are held after the answer: with the new one where it is held now
abbrev pub after_asked : Owned → List Owned → Asked → List Owned
after_asked r held Held = placed r held
after_asked r held (InConflict c l) = held

-- a lock that comes back is the one that was asked for
abbrev pub GivesBack : code.Lock → Asked → Type 0
GivesBack l Held = Unit {0}
GivesBack l (InConflict c m) = m ≡ l
