use Rattle.std.proofs.Common.{ap, sym, ◌∙◌, subst, not, rules}
use Rattle.std.specs.Prelude.{◌==◌}
use Rattle.std.proofs.lemmas.Fn.{filter_same}
use Rattle.tab_subs.specs.Subscribers.{Subscriber, Ascends, numbers, without}
use Rattle.tab_subs.proofs.Places.{ascends_without}
use Rattle.tab_subs.proofs.subs.Subs.leave.Goals as goal

pub invariant_of-self : goal.invariant_of-self
invariant_of-self g c =
    let is = filter_same _ (λ (s : Subscriber _). not (s.number == c.args.session)) _ (λ s b f t. search rules) _ _ c.retain.ensures.filtered in
    subst (λ ss. Ascends (numbers ss)) (sym is) (ascends_without c.args.session c.self.inside.sessions.items c.self.invariant)

pub returns : goal.returns
returns g c =
    filter_same _ (λ (s : Subscriber _). not (s.number == c.args.session)) _ (λ s b f t. search rules) _ _ c.retain.ensures.filtered
    ∙ ap (λ ss. without ss c.args.session) c.self.view_is
