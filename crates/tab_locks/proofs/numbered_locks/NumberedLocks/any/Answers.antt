use Rattle.std.proofs.Common.{ℕ, sym, ap, ◌∙◌}
use Rattle.std.specs.List.{list_any, cons_option}
use Rattle.tab_locks.specs.declared.key_lock.KeyLock.{KeyLock}
use Rattle.tab_locks.specs.Questions.{fits}
use Rattle.tab_locks.proofs.NumberedLocks.{any_values, any_beside}
use Rattle.tab_locks.proofs.numbered_locks.NumberedLocks.any.Goals as goal

pub returns-else-fits : goal.returns-else-fits
returns-else-fits c =
    let p = λ (l : KeyLock). fits c.args.question.relation (c.args.question.age, c.args.question.write) (l.age, l.write) in
    let es = c.self.inside.others.entries in
    c.any_of.ensures ∙ any_values p es
    ∙ any_beside p c.in-Some.first c.self.inside.first es c.in-Some.is (sym c.fits.ensures ∙ c.if-fits.false)
    ∙ ap (list_any (λ (e : ℕ × KeyLock). p e.1)) c.self.view_is

pub returns-in-None : goal.returns-in-None
returns-in-None c =
    let p = λ (l : KeyLock). fits c.args.question.relation (c.args.question.age, c.args.question.write) (l.age, l.write) in
    let es = c.self.inside.others.entries in
    c.any_of-in-None.ensures ∙ any_values p es
    ∙ ap (λ f. list_any (λ (e : ℕ × KeyLock). p e.1) (cons_option f es)) (sym c.in-None.is)
    ∙ ap (list_any (λ (e : ℕ × KeyLock). p e.1)) c.self.view_is
