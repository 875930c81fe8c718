-- How long nothing may come from a session (this project's own rules).
use Rattle.std.specs.Prelude.{◌≡◌, ℕ, ◌*◌, ◌<◌, Option, None, Some}

-- so many times the first number is the second
abbrev pub IsMultiple : ℕ → ℕ → Type 0
IsMultiple m n = (k : ℕ) × (n ≡ k * m)

-- there is no limit, or it is a multiple of the tick: no limit is passed over
abbrev pub IsTicked : ℕ → Option ℕ → Type 0
IsTicked tick None = Unit {0}
IsTicked tick (Some limit) = IsMultiple tick limit

-- there is a limit, and the seconds are a multiple of it; a limit of no seconds is never reached
abbrev pub IsReached : ℕ → Option ℕ → Type 0
IsReached seconds None = ⊥
IsReached seconds (Some limit) = (0 < limit) × IsMultiple limit seconds

-- the seconds of each read that ends without bytes: those of the only limit, or one if there are two
abbrev pub tick_of : Option ℕ → Option ℕ → Option ℕ
tick_of None sessions = sessions
tick_of (Some idle) None = Some idle
tick_of (Some idle) (Some sessions) = Some 1
