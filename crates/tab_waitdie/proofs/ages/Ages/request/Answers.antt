use Rattle.std.proofs.Common.{◌≡◌, false, sym, ap, ◌∙◌, subst, List, None, Some}
use Rattle.std.proofs.lemmas.Result.{IfOk-weaker}
use Rattle.std.specs.List.{list_any}
use Rattle.tab_model.specs.Ages.{Ages, Owned, Rises, decide, opposes}
use Rattle.tab_locks.specs.Placed.{in_the_way, conflict_in, after_asked, GivesBack}
use Rattle.tab_locks.specs.Plain.{lock_of}
use Rattle.tab_waitdie.specs.declared.ages.LockDecision.TheVariants.{Granted}
use Rattle.tab_waitdie.specs.declared.waiting.Waiting.{Waiting}
use Rattle.tab_waitdie.specs.Queue.{owned, queued, ages_of}
use Rattle.tab_waitdie.specs.Decisions.{ages, answer_of}
use Rattle.tab_waitdie.proofs.Deciding.{any_queued, granted_free, decided_free}
use Rattle.tab_waitdie.proofs.Rising.{answered_rises}
use Rattle.tab_waitdie.proofs.ages.Ages.request.Goals as goal

pub invariant_of-self-in-Held : goal.invariant_of-self-in-Held
invariant_of-self-in-Held c =
    let held = c.self.inside.locks in
    let items = c.self.inside.queue.items in
    let r : Owned = (c.args.age, lock_of c.args.lock) in
    let none : list_any (opposes r) (queued items) ≡ false =
    any_queued (opposes r) items ∙ ap (list_any (λ (w : Waiting). opposes r (owned w))) (sym c.deref.ensures.value) ∙ sym c.any_opposing.ensures ∙ c.if-any_opposing.false in
    let told : None ≡ in_the_way r held = ap conflict_in (sym c.in-Held.is) ∙ c.in_ok-ask.ensures.answer in
    let more = c.in_ok-ask.ensures.after ∙ ap (after_asked r held) c.in-Held.is in
    let P = λ (now : List Owned). Rises (ages now (queued items)) in
    subst P (sym more) (answered_rises (ages_of held items) r Granted (granted_free r held (queued items) none told) c.self.invariant)

pub settle-requires-in-InConflict : goal.settle-requires-in-InConflict
settle-requires-in-InConflict c =
    let held = c.self.inside.locks in
    let items = c.self.inside.queue.items in
    let r : Owned = (c.args.age, lock_of c.args.lock) in
    let none : list_any (opposes r) (queued items) ≡ false =
    any_queued (opposes r) items ∙ ap (list_any (λ (w : Waiting). opposes r (owned w))) (sym c.deref.ensures.value) ∙ sym c.any_opposing.ensures ∙ c.if-any_opposing.false in
    let told : Some c.in-InConflict.held ≡ in_the_way r held = ap conflict_in (sym c.in-InConflict.is) ∙ c.in_ok-ask.ensures.answer in
    let kept : c.ask.new.self ≡ held = c.in_ok-ask.ensures.after ∙ ap (after_asked r held) c.in-InConflict.is in
    let back : c.in-InConflict.lock ≡ c.args.lock = subst (GivesBack c.args.lock) c.in-InConflict.is c.in_ok-ask.ensures.back in
    ap answer_of c.answer_to.ensures ∙ decided_free c.in-InConflict.held r held (queued items) none told ∙ (λ i. decide (ages (sym kept i) (queued items)) (c.args.age, lock_of (sym back i)))

pub returns-in-Held-clause-answer : goal.returns-in-Held-clause-answer
returns-in-Held-clause-answer c =
    let held = c.self.inside.locks in
    let items = c.self.inside.queue.items in
    let r : Owned = (c.args.age, lock_of c.args.lock) in
    let none : list_any (opposes r) (queued items) ≡ false =
    any_queued (opposes r) items ∙ ap (list_any (λ (w : Waiting). opposes r (owned w))) (sym c.deref.ensures.value) ∙ sym c.any_opposing.ensures ∙ c.if-any_opposing.false in
    let told : None ≡ in_the_way r held = ap conflict_in (sym c.in-Held.is) ∙ c.in_ok-ask.ensures.answer in
    let seen : ages_of held items ≡ c.args.self.now = cc (c.self.view_is, c.end_rest.ensures) in
    granted_free r held (queued items) none told ∙ ap (λ (g : Ages). decide g r) seen

pub returns-in-InConflict-clause-answer : goal.returns-in-InConflict-clause-answer
returns-in-InConflict-clause-answer c =
    let held = c.self.inside.locks in
    let items = c.self.inside.queue.items in
    let r : Owned = (c.args.age, lock_of c.args.lock) in
    let none : list_any (opposes r) (queued items) ≡ false =
    any_queued (opposes r) items ∙ ap (list_any (λ (w : Waiting). opposes r (owned w))) (sym c.deref.ensures.value) ∙ sym c.any_opposing.ensures ∙ c.if-any_opposing.false in
    let told : Some c.in-InConflict.held ≡ in_the_way r held = ap conflict_in (sym c.in-InConflict.is) ∙ c.in_ok-ask.ensures.answer in
    let seen : ages_of held items ≡ c.args.self.now = cc (c.self.view_is, c.end_rest.ensures) in
    let is = ap answer_of c.answer_to.ensures ∙ decided_free c.in-InConflict.held r held (queued items) none told ∙ ap (λ (g : Ages). decide g r) seen in
    IfOk-weaker c.settle-in-InConflict.result (λ a. a ≡ c.answer_to.result) (λ a. answer_of a ≡ decide c.args.self.now r) (λ a e. ap answer_of e ∙ is) c.settle-in-InConflict.ensures.answer
