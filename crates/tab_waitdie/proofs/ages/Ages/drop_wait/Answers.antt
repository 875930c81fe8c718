use Rattle.std.proofs.Common.{sym, subst, List}
use Rattle.tab_model.specs.Ages.{Owned, Rises}
use Rattle.tab_waitdie.specs.Queue.{ages_of}
use Rattle.tab_waitdie.specs.Decisions.{ages}
use Rattle.tab_waitdie.proofs.Rising.{dropped_rises}
use Rattle.tab_waitdie.proofs.ages.Ages.drop_wait.Goals as goal

pub invariant_of-self : goal.invariant_of-self
invariant_of-self c =
    let P = λ (queue : List Owned). Rises (ages c.self.inside.locks queue) in
    subst P (sym c.drop_requests.ensures) (dropped_rises (ages_of c.self.inside.locks c.self.inside.queue.items) c.args.age c.self.invariant)
