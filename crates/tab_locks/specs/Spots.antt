-- The locks that an index has, spelled out with their places.
use Rattle.std.specs.Prelude.{ℕ, List, ◌++◌, Bool, true, false, not, ◌&&◌, ◌==◌, map}
use Rattle.std.specs.List.{flat_map}
use Rattle.std.specs.Str.{bytes_eq}
use Rattle.tab_term.specs.declared.term.Term.{Term}
use Rattle.tab_term.specs.Data.{PlainTerm}
use Rattle.tab_term.specs.View.{term}
use Rattle.tab_term.specs.Same.{same}
use Rattle.tab_model.specs.Locks.{Part, All, Key, Lock, lock}
use Rattle.tab_model.specs.Ages.{Owned}

-- an owner's age, and whether it holds for writing
abbrev pub Holding : Type 0
Holding = ℕ × Bool

-- the same with the part of the table, or with the key
abbrev pub Spot : Type 0
Spot = Part × Holding

-- a key with an owner's age, and whether it holds for writing
abbrev pub KeySpot : Type 0
KeySpot = PlainTerm × Holding

-- each holding of each key, with its key
abbrev pub key_spots : List (Term × List Holding) → List KeySpot
key_spots keys = flat_map (λ e. map (λ h. (term e.0, h)) e.1) keys

-- the holdings of the whole table, and then those of its keys
abbrev pub spots_of : List Holding → List KeySpot → List Spot
spots_of all keys = map (λ h. (All, h)) all ++ map (λ s. (Key s.0, s.1)) keys

-- the locks of a table that these spots are, each with its owner's age
abbrev pub locks_on : List ℕ → List Spot → List Owned
locks_on table spots = map (λ s. (s.1.0, lock table s.0 s.1.1)) spots

-- the locks of all tables, each with its owner's age
abbrev pub locks_in : List (List ℕ × List Spot) → List Owned
locks_in tables = flat_map (λ e. locks_on e.0 e.1) tables

-- both are all of a table, or both are the same key
abbrev pub same_part : Part → Part → Bool
same_part All All = true
same_part (Key j) (Key k) = same j k
same_part a b = false

-- the same owner, and the same mode
abbrev pub same_mode : Bool → Bool → Bool
same_mode true w = w
same_mode false w = not w

-- the two have one owner and one mode
abbrev pub is_holding : Holding → Holding → Bool
is_holding h x = (x.0 == h.0) && same_mode h.1 x.1

-- the two are of one table, one part of it and one mode
abbrev pub same_lock : Lock → Lock → Bool
same_lock l m = bytes_eq l.table m.table && (same_part l.part m.part && same_mode l.write m.write)

-- of this owner and mode, on this key; on this part; on the table and part of this lock
abbrev pub stands_on_key : PlainTerm → Holding → KeySpot → Bool
stands_on_key key h s = same key s.0 && is_holding h s.1

-- the spot is this part's, of this owner and mode
abbrev pub stands_on : Part → Holding → Spot → Bool
stands_on part h s = same_part part s.0 && is_holding h s.1

-- the held lock is this one, of this owner
abbrev pub holds_at : ℕ → Lock → Owned → Bool
holds_at age l x = bytes_eq l.table x.1.table && (same_part l.part x.1.part && is_holding (age, l.write) (x.0, x.1.write))
