use Rattle.std.proofs.Common.{◌≡◌, ◌++◌, List, ℕ, length}
use Rattle.tab_server.specs.Placed.{GoesPast, IsAt}
use Rattle.tab_server.proofs.place.Place.pass_all.Given as goal

abbrev pub invariant-loop-rest : goal.invariant-loop-rest
invariant-loop-rest l =
    (done : List ℕ) × (l.piece ≡ done ++ l.rest) × ((at : List ℕ) → IsAt at l.initial.self → GoesPast (at ++ done) l.self)

abbrev pub decreases-loop-rest : goal.decreases-loop-rest
decreases-loop-rest l = length l.rest
