-- What stands at the front of a stream.
use Rattle.std.specs.Prelude.{◌≡◌, ℕ, ◌+◌, ◌≤◌, List, ◌++◌, length, take, drop, Some, None}
use Rattle.tab_etf.specs.declared.splitting.Front.{Front}
use Rattle.tab_etf.specs.declared.splitting.Front.TheVariants.{Part, Over, Whole}
use Rattle.tab_etf.specs.Frames.{length_next, IsOver}
use Rattle.tab_etf.specs.Streams.{front}

-- what comes first in these bytes: less than a frame, a length over the limit, or a whole payload of n bytes
abbrev pub MatchFront : List ℕ → Front → Type 0
MatchFront bytes Part = (front bytes ≡ None) × ((n : ℕ) → IsOver (length_next bytes) n → ⊥)
MatchFront bytes (Over n) = IsOver (length_next bytes) n
MatchFront bytes (Whole n) = (n + 4 ≤ length bytes) × ((more : List ℕ) → front (bytes ++ more) ≡ Some (take n (drop 4 bytes), drop n (drop 4 bytes) ++ more))
