-- Locks on keys that stand under the numbers of their keys.
use Rattle.std.specs.Prelude.{◌≡◌, ℕ, List, Bool, true, false, map, Option, Some, None}
use Rattle.std.specs.BTreeMap.{BTreeMap, IsOrdered, insert_entry}
use Rattle.std.specs.List.{AllByRecursion, IsDistinct, cons_option}
use Rattle.std.specs.Map.{keys_of}
use Rattle.std.specs.Ordering.{nat_cmp, eq_by_cmp}
use Rattle.tab_term.specs.Abbreviations.{number}
use Rattle.tab_term.specs.Same.{same}
use Rattle.tab_term.specs.View.{term}
use Rattle.tab_term.specs.declared.term.Term.{Term}
use Rattle.tab_locks.specs.Members.{HasMore}
use Rattle.tab_locks.specs.Spots.{Holding, KeySpot, is_holding}
use Rattle.tab_locks.specs.declared.key_lock.KeyLock.{KeyLock}
use Rattle.tab_locks.specs.declared.met.Met.{Met}
use Rattle.tab_locks.specs.declared.met.Met.TheVariants.{Nothing, Itself, ItsKey, AnotherKey}

-- the lock under a number, as one on its key
abbrev pub spot_of : ℕ × KeyLock → KeySpot
spot_of e = (term e.1.key, (e.1.age, e.1.write))

-- all of them
abbrev pub first_spots : List (ℕ × KeyLock) → List KeySpot
first_spots locks = map spot_of locks

-- no number stands twice
abbrev pub IsApart : List (ℕ × KeyLock) → Type 0
IsApart locks = IsDistinct (eq_by_cmp nat_cmp) (keys_of locks)

-- the map's numbers ascend, and the one before them is none of them
pub record IsBeside (first : Option (ℕ × KeyLock)) (others : BTreeMap ℕ KeyLock) : Type 0 where
  pub ordered : IsOrdered nat_cmp others
  pub apart : IsApart (cons_option first others.entries)

-- each stands under its key's number
abbrev pub IsUnderNumbers : List (ℕ × KeyLock) → Type 0
IsUnderNumbers locks = AllByRecursion (λ e. number (term e.1.key) ≡ e.0) locks

-- no number stands twice, and each is its lock's
pub record IsNumbered (locks : List (ℕ × KeyLock)) : Type 0 where
  pub apart : IsApart locks
  pub under : IsUnderNumbers locks

-- the lock of this owner and mode on this key
abbrev pub lock_on : Term → Holding → KeyLock
lock_on k r = record { key = k; age = r.0; write = r.1 }

-- what a lock meets in another under its number: by whether that one is on its key, and of its owner and mode
abbrev pub met_by : Bool → Bool → Met
met_by false its = AnotherKey
met_by true false = ItsKey
met_by true true = Itself

-- what it meets under its number
abbrev pub met_in : Term → Holding → Option KeyLock → Met
met_in k r None = Nothing
met_in k r (Some l) = met_by (same (term k) (term l.key)) (is_holding r (l.age, l.write))

-- it stands where it was put, or had stood
abbrev pub holds : Met → Bool
holds Nothing = true
holds Itself = true
holds ItsKey = false
holds AnotherKey = false

-- it is put under its number where it meets nothing: in the order of the numbers, and in any order
abbrev pub Inserts : ℕ → KeyLock → List (ℕ × KeyLock) → List (ℕ × KeyLock) → Met → Type 0
Inserts q l old new Nothing = new ≡ insert_entry nat_cmp old q l
Inserts q l old new Itself = new ≡ old
Inserts q l old new ItsKey = new ≡ old
Inserts q l old new AnotherKey = new ≡ old

abbrev pub Puts : ℕ → KeyLock → List (ℕ × KeyLock) → List (ℕ × KeyLock) → Met → Type 0
Puts q l old new Nothing = HasMore (q, l) old new
Puts q l old new Itself = new ≡ old
Puts q l old new ItsKey = new ≡ old
Puts q l old new AnotherKey = new ≡ old
