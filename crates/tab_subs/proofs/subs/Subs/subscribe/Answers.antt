use Rattle.std.proofs.Common.{◌∷◌, ap, ◌∙◌}
use Rattle.tab_model.specs.declared.data.Item.TheVariants.{Began}
use Rattle.tab_subs.specs.Subscribers.{Subscriber}
use Rattle.tab_subs.proofs.Places.{ascends_set, number-marked}
use Rattle.tab_subs.proofs.subs.Subs.subscribe.Goals as goal

pub invariant_of-self-2 : goal.invariant_of-self-2
invariant_of-self-2 g c =
    let s = c.index_mut.result.now in
    let number = ap (λ (x : Subscriber _). x.number) c.in_ok-marked.ensures.ok ∙ number-marked c.in_ok-marked.marked (record { table = c.args.table; level = c.args.level } ∷ s.watching) (Began c.args.table c.args.level c.args.dump) s in
    ascends_set c.self.inside.sessions.items c.in-Some.place s c.subscribe.new.self c.index_mut.ensures.value number c.self.invariant
