use Rattle.std.proofs.Common.{◌≡◌, None, sym, ◌∙◌, subst, eq-eqb}
use Rattle.tab_subs.specs.Subscribers.{IsHeldAt, at}
use Rattle.tab_subs.proofs.Places.{stands, nowhere}
use Rattle.tab_subs.proofs.subs.Subs.place.Goals as goal

pub returns-then-number-session : goal.returns-then-number-session
returns-then-number-session g c =
    subst (λ ss. IsHeldAt ss c.args.session c.loop-place.place) (c.deref-slot-items.ensures.value ∙ c.self.view_is)
    (stands c.args.session c.deref-slot-items.result.now c.loop-place.place c.slot-item.result c.loop-place-test.true c.loop-place.invariant c.slot-item.is
    (eq-eqb c.slot-item.result.number c.args.session (sym c.number.ensures ∙ c.if-number-session.true)))

pub returns : goal.returns
returns g c =
    subst (λ ss. at ss c.args.session ≡ None) (c.deref-slot-items.ensures.value ∙ c.self.view_is)
    (nowhere c.args.session c.deref-slot-items.result.now c.loop-place.place c.loop-place-test.false c.loop-place.invariant)
