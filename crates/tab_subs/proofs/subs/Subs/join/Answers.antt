use Rattle.std.proofs.Common.{◌∷◌, ◌++◌, [], ap, sym, ◌∙◌, subst}
use Rattle.tab_subs.specs.Subscribers.{Subscriber, Ascends, AllBelow, numbers}
use Rattle.tab_subs.proofs.Places.{ascends_more}
use Rattle.tab_subs.proofs.subs.Subs.join.Goals as goal

pub invariant_of-self-2 : goal.invariant_of-self-2
invariant_of-self-2 g c =
    let ss = c.self.inside.sessions.items in
    let above = subst (λ xs. AllBelow c.args.session (numbers xs)) (sym c.self.view_is) c.requires.above in
    let below = subst (λ n. AllBelow n (numbers ss)) (sym (ap (λ (s : Subscriber _). s.number) c.new.ensures)) above in
    subst (λ xs. Ascends (numbers xs)) (sym (c.push_reserved.ensures.items ∙ ap (λ xs. xs ++ c.new.result ∷ []) c.reserve.ensures.items))
    (ascends_more ss c.new.result c.self.invariant below)
