use Rattle.std.proofs.Common.{sym, ap, ◌∙◌, subst, List}
use Rattle.tab_model.specs.Ages.{Owned, Rises, decide}
use Rattle.tab_locks.specs.Plain.{lock_of}
use Rattle.tab_waitdie.specs.declared.ages.LockDecision.TheVariants.{Granted, Wait}
use Rattle.tab_waitdie.specs.Queue.{ages_of, queued}
use Rattle.tab_waitdie.specs.Decisions.{ages, answer_of}
use Rattle.tab_waitdie.proofs.Places.{queued_more}
use Rattle.tab_waitdie.proofs.Rising.{answered_rises}
use Rattle.tab_waitdie.proofs.ages.Ages.settle.Goals as goal

pub invariant_of-self : goal.invariant_of-self
invariant_of-self c =
    let g = ages_of c.self.inside.locks c.self.inside.queue.items in
    let r : Owned = (c.args.age, lock_of c.args.lock) in
    let answer = ap answer_of (sym c.in-Granted.is) ∙ c.requires ∙ ap (λ h. decide h r) (sym c.self.view_is) in
    let P = λ (held : List Owned). Rises (ages held g.queue) in
    subst P (sym c.in_ok-hold-in-Granted.ensures.ok) (answered_rises g r Granted answer c.self.invariant)

pub invariant_of-self-in-Continue-branch-2 : goal.invariant_of-self-in-Continue-branch-2
invariant_of-self-in-Continue-branch-2 c =
    let g = ages_of c.self.inside.locks c.self.inside.queue.items in
    let r : Owned = (c.args.age, lock_of c.args.lock) in
    let answer = ap answer_of (sym c.in-Wait.is) ∙ c.requires ∙ ap (λ h. decide h r) (sym c.self.view_is) in
    let P = λ (queue : List Owned). Rises (ages g.held queue) in
    let queue = ap queued c.in_ok-push-in-Wait.ensures.items ∙ queued_more c.self.inside.queue.items (record { age = c.args.age; lock = c.args.lock }) in
    subst P (sym queue) (answered_rises g r Wait answer c.self.invariant)
