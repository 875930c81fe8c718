use Rattle.std.proofs.Common.{◌≡◌, ℕ, sym, ap, ◌∙◌, ◌&&◌, subst, List, Some, None, nat_cmp}
use Rattle.std.specs.BTreeMap.{is_at}
use Rattle.std.specs.Map.{lookup, remove_entry}
use Rattle.std.specs.Option.{option_copied}
use Rattle.tab_term.specs.Abbreviations.{number}
use Rattle.tab_term.specs.Same.{same}
use Rattle.tab_term.specs.View.{term}
use Rattle.tab_locks.specs.declared.key_lock.KeyLock.{KeyLock}
use Rattle.tab_locks.specs.Members.{Drops}
use Rattle.tab_locks.specs.Numbered.{first_spots, IsUnderNumbers}
use Rattle.tab_locks.specs.Spots.{KeySpot, stands_on_key, is_holding}
use Rattle.tab_locks.proofs.Lookups.{found_any}
use Rattle.tab_locks.proofs.FirstLocks.{kept_first, dropped_first, numbered_without}
use Rattle.tab_locks.proofs.first_locks.FirstLocks.remove.Goals as goal

pub returns-in_default : goal.returns-in_default
returns-in_default c =
    let k = c.args.key.now in
    let es = c.self.inside.locks in
    let missing : lookup (is_at (nat_cmp (number (term k)))) es ≡ None = ap (λ (n : ℕ). lookup (is_at (nat_cmp n)) es) (sym c.abbreviated-number.ensures) ∙ sym c.get.ensures.value ∙ ap option_copied c.in_default.is in
    let kept = kept_first k (c.args.age, c.args.write) es c.self.invariant.apart c.self.invariant.under
    (ap (found_any (λ (l : KeyLock). same (term k) (term l.key) && is_holding (c.args.age, c.args.write) (l.age, l.write))) missing) in
    subst (λ (v : List KeySpot). Drops (stands_on_key (term k) (c.args.age, c.args.write)) v v) c.self.view_is kept

pub invariant_of-self : goal.invariant_of-self
invariant_of-self c =
    let at = is_at (nat_cmp c.abbreviated-number.result) in
    record {
      apart = c.remove.ensures.apart;
      under = subst IsUnderNumbers (sym c.remove.ensures.entries) (numbered_without at c.self.inside.locks c.self.invariant.under);
    }

pub returns : goal.returns
returns c =
    let k = c.args.key.now in
    let es = c.self.inside.locks in
    let new = c.remove.new.self in
    let found : lookup (is_at (nat_cmp (number (term k)))) es ≡ Some c.in-Some.lock.now = ap (λ (n : ℕ). lookup (is_at (nat_cmp n)) es) (sym c.abbreviated-number.ensures) ∙ sym c.get.ensures.value ∙ ap option_copied c.in-Some.is in
    let is : new ≡ remove_entry (is_at (nat_cmp (number (term k)))) es = c.remove.ensures.entries ∙ ap (λ (n : ℕ). remove_entry (is_at (nat_cmp n)) es) c.abbreviated-number.ensures in
    subst (λ (v : List KeySpot). Drops (stands_on_key (term k) (c.args.age, c.args.write)) v (first_spots new)) c.self.view_is
    (dropped_first k (c.args.age, c.args.write) c.in-Some.lock.now es new c.self.invariant.apart c.remove.ensures.apart c.self.invariant.under found (sym c.is.ensures ∙ c.if-not-is.false) is)

pub returns-then-not-is : goal.returns-then-not-is
returns-then-not-is c =
    let k = c.args.key.now in
    let es = c.self.inside.locks in
    let g = λ (l : KeyLock). same (term k) (term l.key) && is_holding (c.args.age, c.args.write) (l.age, l.write) in
    let found : lookup (is_at (nat_cmp (number (term k)))) es ≡ Some c.in-Some.lock.now = ap (λ (n : ℕ). lookup (is_at (nat_cmp n)) es) (sym c.abbreviated-number.ensures) ∙ sym c.get.ensures.value ∙ ap option_copied c.in-Some.is in
    let kept = kept_first k (c.args.age, c.args.write) es c.self.invariant.apart c.self.invariant.under (ap (found_any g) found ∙ sym c.is.ensures ∙ c.if-not-is.true) in
    subst (λ (v : List KeySpot). Drops (stands_on_key (term k) (c.args.age, c.args.write)) v v) c.self.view_is kept
