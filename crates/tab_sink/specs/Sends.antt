-- Bytes of which a beginning is written (this project's own).
use Rattle.std.specs.Prelude.{◌≡◌, List, ℕ, ◌++◌, Option}
use Rattle.std.specs.Io.KnownBytes.{Appends}

-- of the pending bytes a beginning is written, and all others are left
abbrev pub Sends : Option (List ℕ) → List ℕ → Option (List ℕ) → List ℕ → Type 0
Sends old pending new left = (p : List ℕ) × Appends old new p × (pending ≡ p ++ left)
