use Rattle.std.proofs.Common.{sym, subst}
use Rattle.tab_model.specs.Ages.{Ages, Rises}
use Rattle.tab_waitdie.specs.Queue.{ages_of}
use Rattle.tab_waitdie.specs.Decisions.{ages}
use Rattle.tab_waitdie.proofs.Rising.{unheld_rises}
use Rattle.tab_waitdie.proofs.ages.Ages.unhold.Goals as goal

pub invariant_of-self : goal.invariant_of-self
invariant_of-self c =
    let g = ages_of c.self.inside.locks c.self.inside.queue.items in
    let P = λ (g : Ages). Rises g in
    subst P (λ i. ages (sym c.unhold.ensures i) g.queue) (unheld_rises g c.args.age c.self.invariant)
