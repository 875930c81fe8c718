-- Whose posts have a capacity.
use Rattle.std.specs.Prelude.{◌≡◌, true, is_some}
use Rattle.std.specs.List.{AllByRecursion}
use Rattle.tab_model.specs.State.{Session, State}

-- the post of the session has a capacity
abbrev pub HasCapacity : Session → Type 0
HasCapacity s = is_some s.outbox.capacity ≡ true

-- so each post's capacity decides what it refuses
abbrev pub IsBounded : State → Type 0
IsBounded σ = AllByRecursion HasCapacity σ.sessions
