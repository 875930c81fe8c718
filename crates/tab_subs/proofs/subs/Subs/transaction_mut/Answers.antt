use Rattle.std.proofs.Common.{ap, sym, subst}
use Rattle.tab_subs.specs.Subscribers.{Subscriber, Ascends}
use Rattle.tab_subs.proofs.Places.{same_numbers}
use Rattle.tab_subs.proofs.subs.Subs.transaction_mut.Goals as goal

pub invariant_of-self-lent : goal.invariant_of-self-lent
invariant_of-self-lent g c w =
    let s : Subscriber _ = record c.index_mut.result.now { transaction = w } in
    subst Ascends (sym (same_numbers c.self.inside.sessions.items c.args.place s _ (ap (λ (x : Subscriber _). x.number) c.index_mut.ensures.value))) c.self.invariant
