use Rattle.std.proofs.Common.{◌-◌, List, ℕ, inl, inr, refl, length, take, arith}
use Rattle.std.proofs.lemmas.List.{length-take}
use Rattle.tab_server.proofs.Placing.{payload_ends, payload_goes}
use Rattle.tab_server.proofs.place.Place.pass_payload.Goals as goal

pub returns-then-left-piece-clause-passes : goal.returns-then-left-piece-clause-passes
returns-then-left-piece-clause-passes c at h =
    let piece : List ℕ = c.args.piece.now in
    let k = payload_ends at (take c.args.left piece) c.args.left h (omega (arith, length-take c.args.left piece)) in inr (k.0, k.1, c.new.ensures.between)

pub returns-clause-passes : goal.returns-clause-passes
returns-clause-passes c at h =
    let piece : List ℕ = c.args.piece.now in
    let many = length-take (length piece) piece in
    inl (payload_goes at (take (length piece) piece) c.args.left (c.args.left - length piece) h (omega arith) (omega arith), refl)
