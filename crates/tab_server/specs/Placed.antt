-- The position of a stream in its current frame (this project's own rules).
use Rattle.std.specs.Prelude.{◌≡◌, ◌⊎◌, ℕ, ◌+◌, ◌<◌, ◌≤◌, Bool, true, false, List, ◌++◌, length, take, Some, nat_eq}
use Rattle.tab_etf.specs.Frames.{limit, length_next, IsOver}
use Rattle.tab_etf.specs.Streams.{front, GoesOn}
use Rattle.tab_server.specs.declared.place.Place.{Place}
use Rattle.tab_server.specs.declared.place.Place.TheVariants.{Length, Payload, Over}

-- between two frames
abbrev pub is_between : Place → Bool
is_between (Length count head) = nat_eq count 0
is_between (Payload left) = false
is_between Over = false

-- in a frame whose length is over the limit
abbrev pub is_over : Place → Bool
is_over (Length count head) = false
is_over (Payload left) = false
is_over Over = true

-- these bytes of the current frame have come
abbrev pub IsAt : List ℕ → Place → Type 0
IsAt bytes (Length count head) = (count < 4) × (bytes ≡ take count head) × (length bytes ≡ count)
IsAt bytes (Payload left) = (n : ℕ) × (length_next bytes ≡ Some n) × (n ≤ limit) × (length bytes + left ≡ n + 4) × (0 < left)
IsAt bytes Over = (n : ℕ) × IsOver (length_next bytes) n

-- these bytes are a whole frame with this payload, however the stream goes on
abbrev pub IsFrame : List ℕ → List ℕ → Type 0
IsFrame bytes payload = (more : List ℕ) → front (bytes ++ more) ≡ Some (payload, more)

-- these bytes are a beginning of a frame, or a whole one
abbrev pub IsPassed : List ℕ → Place → Type 0
IsPassed bytes new = (IsAt bytes new × (is_between new ≡ false)) ⊎ ((payload : List ℕ) × IsFrame bytes payload × (is_between new ≡ true))

-- the position after all frames of these bytes
pub record GoesPast (bytes : List ℕ) (new : Place) : Type 0 where
  pub given : List (List ℕ)
  pub left : List ℕ
  pub goes : GoesOn bytes given left
  pub at : IsAt left new
