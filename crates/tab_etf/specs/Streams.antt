-- The payloads of a stream, up to what is no frame.
use Rattle.std.specs.Prelude.{◌≡◌, ◌≢◌, ℕ, zero, suc, ◌+◌, ◌<◌, ◌≤◌, List, [], ◌∷◌, ◌++◌, length, take, drop, Option, Some, None, nat_lt, if◌then◌else◌, ◌⊎◌}
use Rattle.tab_etf.specs.Frames.{limit, frames, length_next}

-- a payload of so many bytes, and the rest
abbrev pub payload_and_rest : ℕ → List ℕ → Option (List ℕ × List ℕ)
payload_and_rest n bytes =
    if nat_lt limit n then None
    else (if nat_lt (length bytes) n then None else Some (take n bytes, drop n bytes))

-- the first payload and the rest, where its length has come, is within the limit, and so many bytes came
abbrev pub after_length : Option ℕ → List ℕ → Option (List ℕ × List ℕ)
after_length None bytes = None
after_length (Some n) bytes = payload_and_rest n (drop 4 bytes)

-- the first payload, and what stands behind it
unfoldable pub front : List ℕ → Option (List ℕ × List ℕ)
front bytes = after_length (length_next bytes) bytes

-- the payloads that were found, and the bytes behind them
pub record Cut : Type 0 where
  pub found : List (List ℕ)
  pub left : List ℕ

-- the first payload, if there is one, and what go finds in the rest
abbrev pub cut_by : (List ℕ → Cut) → List ℕ → Option (List ℕ × List ℕ) → Cut
cut_by go bytes None = record { found = []; left = bytes }
cut_by go bytes (Some x) = record { found = x.0 ∷ (go x.1).found; left = (go x.1).left }

-- at most so many frames
unfoldable pub cut_at_most : ℕ → List ℕ → Cut
cut_at_most zero bytes = record { found = []; left = bytes }
cut_at_most (suc n) bytes = cut_by (cut_at_most n) bytes (front bytes)

-- a byte list has no more frames than bytes
unfoldable pub payloads : List ℕ → List (List ℕ)
payloads bytes = (cut_at_most (length bytes) bytes).found

-- what is left of a stream behind its payloads
unfoldable pub rest_of : List ℕ → List ℕ
rest_of bytes = (cut_at_most (length bytes) bytes).left

-- however the stream goes on, these are its first payloads, and the others are those of this rest and what comes
pub record GoesOn (bytes : List ℕ) (given : List (List ℕ)) (rest : List ℕ) : Type 0 where
  pub found : (more : List ℕ) → payloads (bytes ++ more) ≡ given ++ payloads (rest ++ more)
  pub ends : (more : List ℕ) → rest_of (bytes ++ more) ≡ rest_of (rest ++ more)

-- however the stream goes on, these are its payloads, and then a length over the limit stands there
pub record Stops (bytes : List ℕ) (given : List (List ℕ)) (n : ℕ) : Type 0 where
  pub found : (more : List ℕ) → payloads (bytes ++ more) ≡ given
  pub ends : (more : List ℕ) → rest_of (bytes ++ more) ≢ []
  pub next : (more : List ℕ) → length_next (rest_of (bytes ++ more)) ≡ Some n
  pub over : limit < n

-- ---- what the payloads of a stream are, in the words of frames

-- no payload is longer than the limit
abbrev pub AreWithin : List (List ℕ) → Type 0
AreWithin [] = Unit {0}
AreWithin (p ∷ ps) = (length p ≤ limit) × AreWithin ps

-- no whole frame stands there: no length, fewer bytes than it says, or one over the limit
abbrev pub IsIncomplete : List ℕ → Option ℕ → Type 0
IsIncomplete bytes None = length bytes < 4
IsIncomplete bytes (Some n) = (length bytes < n + 4) ⊎ (limit < n)

-- the payloads of a stream are the first frames of it, up to where no whole frame stands
pub record AreFirstFrames (bytes : List ℕ) : Type 0 where
  pub whole : frames (payloads bytes) ++ rest_of bytes ≡ bytes
  pub within : AreWithin (payloads bytes)
  pub ends : IsIncomplete (rest_of bytes) (length_next (rest_of bytes))
