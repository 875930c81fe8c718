use Rattle.std.proofs.Common.{ap, ◌∙◌}
use Rattle.tab_subs.proofs.Places.{ascends_set, number-give}
use Rattle.tab_subs.proofs.subs.Subs.take.Goals as goal

pub invariant_of-self : goal.invariant_of-self
invariant_of-self g c =
    let s = c.index_mut.result.now in
    ascends_set c.self.inside.sessions.items c.in-Some.place s c.take.new.self c.index_mut.ensures.value (ap (λ p. p.0.number) c.take.ensures ∙ number-give s) c.self.invariant
