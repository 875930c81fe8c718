use Rattle.std.proofs.Common.{◌≡◌, ℕ, List, sym, ap, subst, ◌∙◌, Some, arith, nat_cmp}
use Rattle.std.specs.BTreeMap.{is_at}
use Rattle.std.specs.BTreeMap.Entry.{map_with_value, entry_value}
use Rattle.std.specs.Map.{lookup}
use Rattle.tab_term.specs.Same.{same}
use Rattle.tab_term.specs.View.{term}
use Rattle.tab_locks.specs.declared.key_lock.KeyLock.{KeyLock}
use Rattle.tab_locks.specs.declared.met.Met.{Met}
use Rattle.tab_locks.specs.Numbered.{Inserts, lock_on}
use Rattle.tab_locks.specs.Spots.{is_holding}
use Rattle.tab_locks.proofs.NumberedLocks.{put_back, kept_met}
use Rattle.tab_locks.proofs.numbered_locks.place_among.Goals as goal

abbrev Entries : Type 0
Entries = List (ℕ × KeyLock)

pub returns-in-Occupied-clause-put : goal.returns-in-Occupied-clause-put
returns-in-Occupied-clause-put c =
    let q = c.args.number in
    let k = c.args.key.now in
    let v = c.into_mut.result.now in
    let es = c.args.others.now.entries in
    let new = (map_with_value c.in_ok-vacant.vacant v).entries in
    let found : lookup (is_at (nat_cmp q)) es ≡ Some v = sym c.in_ok-vacant.ensures.value ∙ ap entry_value c.in-Occupied.is ∙ c.into_mut.ensures.value in
    let back : new ≡ es = put_back q v es new c.in_ok-vacant.ensures.ordered found (c.in_ok-vacant.ensures.update.1 v) in
    let l = lock_on k (c.args.age, c.args.write) in
    let kept = kept_met q l (same (term k) (term v.key)) (is_holding (c.args.age, c.args.write) (v.age, v.write)) es new back in
    subst (λ (fs : Entries). Inserts q l es fs c.met_by.result) (grind (arith, c.in-Occupied.is)) (subst (λ (m : Met). Inserts q l es new m) (sym c.met_by.ensures) kept)
