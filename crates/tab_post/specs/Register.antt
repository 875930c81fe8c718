-- The rule of a register, what a step on it tells, and the places in a register of channels (this project's own).
use Rattle.std.specs.Prelude.{◌≡◌, ◌==◌, ◌<◌, ◌≤◌, ℕ, true, List, [], ◌∷◌, ◌++◌, Some, length, slice_get, option_map, MatchBool}
use mathlib.Core.List.{IsPrefix}
use Rattle.logbook.specs.Pages.{Cell, Step, View, Book, Named}
use Rattle.crossbeam_channel.specs.declared.flavors.array.ruled.Sending.{Sending}
use Rattle.crossbeam_channel.specs.Ends.{sends_on}

-- a register's first word
abbrev pub head_of : Book → Named
head_of b = record { tracked = true; key = 0; book = b }

-- the names of two registers: of mailboxes, and of what a book did
pub record Books : Type 0 where
  pub mailboxes : Book
  pub steps : Book

module _ {E : Type 0} where
  -- the first word is the number of entries
  pub record IsCounted (cells : List Cell) (entries : List E) : Type 0 where
    pub words : cells ≡ (length entries, true) ∷ (0, true) ∷ []

  -- the entry was put behind all that had been seen; or there were others, and now all are seen
  abbrev pub Adds : Step E → View E ℕ → ℕ → View E ℕ → Type 0
  Adds s v found w = MatchBool (found == s.old) (w.0 ≡ v.0 ++ s.ask ∷ []) (length w.0 ≡ found)

  -- of one register, the second is a longer beginning than the first
  abbrev pub IsLonger : List E → List E → Type 0
  IsLonger xs ys = IsPrefix xs ys × (length xs < length ys)

module _ {C A : Type 0} where
  -- in what was seen of the register, this channel stands at this place
  abbrev pub IsHeldAt : List (Sending C A) → ℕ → C → Type 0
  IsHeldAt seen place channel = option_map sends_on (slice_get seen place) ≡ Some channel

  -- the place comes after all that had been seen, and is seen now
  abbrev pub IsFresh : List (Sending C A) → List (Sending C A) → ℕ → Type 0
  IsFresh old new place = (length old ≤ place) × (place < length new)
