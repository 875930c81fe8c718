use Rattle.std.proofs.Common.{sym, ap, ◌∙◌}
use Rattle.tab_model.specs.Ages.{Owned, decide}
use Rattle.tab_locks.specs.Placed.{conflict_with}
use Rattle.tab_locks.specs.Plain.{lock_of}
use Rattle.tab_waitdie.specs.Queue.{queued}
use Rattle.tab_waitdie.specs.Decisions.{answer_of, answer_to}
use Rattle.tab_waitdie.proofs.Deciding.{granted_where, decided_where}
use Rattle.tab_waitdie.proofs.ages.Ages.decide.Goals as goal

pub returns-in-None : goal.returns-in-None
returns-in-None c =
    let r : Owned = (c.args.age, lock_of c.args.lock.now) in
    granted_where r c.self.inside.locks (queued c.self.inside.queue.items) (sym c.in-None.is ∙ c.standing.ensures) ∙ ap (λ g. decide g r) c.self.view_is

pub returns-in-Some : goal.returns-in-Some
returns-in-Some c =
    let r : Owned = (c.args.age, lock_of c.args.lock.now) in
    let waits = c.conflicts_in.ensures ∙ ap (λ ws. conflict_with r (queued ws)) c.deref.ensures.value in
    ap answer_of (c.answer_to.ensures ∙ ap (answer_to c.in-Some.held) waits)
    ∙ decided_where c.in-Some.held r c.self.inside.locks (queued c.self.inside.queue.items) (sym c.in-Some.is ∙ c.standing.ensures)
    ∙ ap (λ g. decide g r) c.self.view_is
