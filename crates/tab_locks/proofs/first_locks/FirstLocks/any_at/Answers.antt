use Rattle.std.proofs.Common.{ℕ, sym, ap, ◌∙◌, ◌&&◌, nat_cmp}
use Rattle.std.specs.BTreeMap.{is_at}
use Rattle.std.specs.List.{list_any}
use Rattle.std.specs.Map.{lookup}
use Rattle.std.specs.Option.{option_copied}
use Rattle.tab_term.specs.View.{term}
use Rattle.tab_term.specs.Same.{same}
use Rattle.tab_locks.specs.declared.key_lock.KeyLock.{KeyLock}
use Rattle.tab_locks.specs.Questions.{fits}
use Rattle.tab_locks.proofs.Lookups.{found_any}
use Rattle.tab_locks.proofs.FirstLocks.{held_first}
use Rattle.tab_locks.proofs.first_locks.FirstLocks.any_at.Goals as goal

pub returns-in-Some : goal.returns-in-Some
returns-in-Some c =
    let p = fits c.args.question.relation (c.args.question.age, c.args.question.write) in
    let k = c.args.key.now in
    let es = c.self.inside.locks in
    c.fits_at.ensures
    ∙ ap (found_any (λ (l : KeyLock). same (term k) (term l.key) && p (l.age, l.write)))
    (ap option_copied (sym c.in-Some.is) ∙ c.get.ensures.value ∙ ap (λ (n : ℕ). lookup (is_at (nat_cmp n)) es) c.abbreviated.ensures)
    ∙ sym (held_first p k es c.self.invariant.apart c.self.invariant.under)
    ∙ ap (list_any (λ s. same (term k) s.0 && p s.1)) c.self.view_is

pub returns-in-None : goal.returns-in-None
returns-in-None c =
    let p = fits c.args.question.relation (c.args.question.age, c.args.question.write) in
    let k = c.args.key.now in
    let es = c.self.inside.locks in
    ap (found_any (λ (l : KeyLock). same (term k) (term l.key) && p (l.age, l.write)))
    (ap option_copied (sym c.in-None.is) ∙ c.get.ensures.value ∙ ap (λ (n : ℕ). lookup (is_at (nat_cmp n)) es) c.abbreviated.ensures)
    ∙ sym (held_first p k es c.self.invariant.apart c.self.invariant.under)
    ∙ ap (list_any (λ s. same (term k) s.0 && p s.1)) c.self.view_is
