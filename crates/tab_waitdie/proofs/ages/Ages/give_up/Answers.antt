use Rattle.std.proofs.Common.{sym, subst}
use Rattle.tab_model.specs.Ages.{Ages, Rises}
use Rattle.tab_model.proofs.WaitsHaveNoCycle.{forget_rises}
use Rattle.tab_waitdie.specs.Queue.{ages_of}
use Rattle.tab_waitdie.specs.Decisions.{ages}
use Rattle.tab_waitdie.proofs.ages.Ages.give_up.Goals as goal

pub invariant_of-self : goal.invariant_of-self
invariant_of-self c =
    let P = λ (g : Ages). Rises g in
    subst P (λ i. ages (sym c.release_all.ensures i) (sym c.drop_requests.ensures i)) (forget_rises (ages_of c.self.inside.locks c.self.inside.queue.items) c.args.owner c.self.invariant)
