use Rattle.std.proofs.Common.{ℕ, sym, ap, ◌∙◌, nat_cmp}
use Rattle.std.specs.BTreeMap.{is_at}
use Rattle.std.specs.List.{list_any}
use Rattle.std.specs.Map.{lookup}
use Rattle.tab_term.specs.View.{term}
use Rattle.tab_term.specs.Same.{same}
use Rattle.tab_locks.specs.declared.key_lock.KeyLock.{KeyLock}
use Rattle.tab_locks.proofs.Lookups.{found_any}
use Rattle.tab_locks.proofs.FirstLocks.{has_first, none_found, one_found}
use Rattle.tab_locks.proofs.first_locks.FirstLocks.under_number.Goals as goal

pub returns-clause-none : goal.returns-clause-none
returns-clause-none c =
    let k = c.args.key.now in
    let es = c.self.inside.locks in
    let g = λ (l : KeyLock). same (term k) (term l.key) in
    none_found g c.get.result _
    (ap (list_any (λ s. same (term k) s.0)) (sym c.self.view_is) ∙ has_first k es c.self.invariant.apart c.self.invariant.under
    ∙ ap (found_any g) (ap (λ (n : ℕ). lookup (is_at (nat_cmp n)) es) (sym c.requires) ∙ sym c.get.ensures.value))

pub returns-clause-one : goal.returns-clause-one
returns-clause-one c =
    let k = c.args.key.now in
    let es = c.self.inside.locks in
    let g = λ (l : KeyLock). same (term k) (term l.key) in
    one_found g c.get.result _
    (ap (list_any (λ s. same (term k) s.0)) (sym c.self.view_is) ∙ has_first k es c.self.invariant.apart c.self.invariant.under
    ∙ ap (found_any g) (ap (λ (n : ℕ). lookup (is_at (nat_cmp n)) es) (sym c.requires) ∙ sym c.get.ensures.value))
