use Rattle.std.proofs.Common.{◌≡◌, ◌<◌, ◌≤◌, ◌-◌, ◌++◌, List, ℕ, false, length, take}
use Rattle.tab_server.specs.Placed.{IsAt, is_between}
use Rattle.tab_server.proofs.place.Place.pass.Given as goal

abbrev pub invariant-loop-count : goal.invariant-loop-count
invariant-loop-count l =
    (l.count ≤ length l.piece) × (0 < l.count → is_between l.self ≡ false) × ((at : List ℕ) → IsAt at l.initial.self → IsAt (at ++ take l.count l.piece) l.self)

abbrev pub decreases-loop-count : goal.decreases-loop-count
decreases-loop-count l = length l.piece - l.count
