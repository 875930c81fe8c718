use Rattle.std.proofs.Common.{inl, refl, subst, length, take}
use Rattle.tab_server.specs.declared.place.Place.{Place}
use Rattle.tab_server.specs.Placed.{IsAt}
use Rattle.tab_server.proofs.Placing.{over_goes}
use Rattle.tab_server.proofs.place.Place.step.Goals as goal

pub returns-in-Payload-clause-passes : goal.returns-in-Payload-clause-passes
returns-in-Payload-clause-passes c at h some = c.pass_payload.ensures.passes at (subst (λ (p : Place). IsAt at p) c.in-Payload.is h)

pub returns-in-Over-clause-passes : goal.returns-in-Over-clause-passes
returns-in-Over-clause-passes c at h some =
    rw c.in-Over.is (inl (over_goes at (take (length c.args.piece.now) c.args.piece.now) (subst (λ (p : Place). IsAt at p) c.in-Over.is h), refl))
