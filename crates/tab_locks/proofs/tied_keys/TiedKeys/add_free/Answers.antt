use Rattle.std.proofs.Common.{◌≡◌, refl, true, false, sym, ap, ◌∙◌, subst, List, Some, None, arith}
use Rattle.std.specs.List.{list_any}
use Rattle.std.specs.List.Sorted.{IsStrictlySortedBy}
use Rattle.std.specs.BTreeMap.{is_at, get_key, ContainsKey}
use Rattle.std.specs.BTreeMap.Entry.{map_with_value, entry_key, entry_value, MatchEntry}
use Rattle.std.specs.Map.{keys_of, lookup}
use Rattle.tab_term.specs.declared.term.Term.{Term}
use Rattle.tab_term.specs.View.{term}
use Rattle.tab_term.specs.Same.{same}
use Rattle.tab_term.specs.Order.{term_cmp}
use Rattle.tab_term.proofs.Total.{term_total}
use Rattle.tab_locks.specs.Filled.{HasNoneEmpty}
use Rattle.tab_locks.specs.Members.{HasMore, SameMembers}
use Rattle.tab_locks.specs.Spots.{Holding, KeySpot, key_spots}
use Rattle.tab_locks.proofs.Filled.{filled_found, filled_written, filled_inserted}
use Rattle.tab_locks.proofs.KeySpots.{same_at, new_at, free_at}
use Rattle.tab_locks.proofs.PutEntry.{put_found}
use Rattle.tab_locks.proofs.tied_keys.TiedKeys.add_free.Goals as goal

abbrev Entries : Type 0
Entries = List (Term × List Holding)

pub returns-in-Occupied-clause-err : goal.returns-in-Occupied-clause-err
returns-in-Occupied-clause-err c =
    let k = c.in_ok-try_clone.field-0 in
    let es = c.self.inside.holders.entries in
    let v = c.into_mut.result.now in
    let new = (map_with_value c.in_ok-entry.entry v).entries in
    let found : lookup (is_at (term_cmp k)) es ≡ Some v = sym c.in_ok-entry.ensures.value ∙ ap entry_value c.in-Occupied.is ∙ c.into_mut.ensures.value in
    let put = c.in_ok-entry.ensures.update.1 v ∙ put_found term_cmp term_total k v v es c.in_ok-entry.ensures.ordered found in
    let kept = subst (λ (s : List KeySpot). SameMembers s (key_spots new)) c.self.view_is (same_at k v v es new found put refl) in
    λ p. grind (arith, c.in-Occupied.is, kept p)

pub invariant_of-self-in-Occupied : goal.invariant_of-self-in-Occupied
invariant_of-self-in-Occupied c =
    let k = c.in_ok-try_clone.field-0 in
    let es = c.self.inside.holders.entries in
    let v = c.into_mut.result.now in
    let at = is_at (term_cmp k) in
    let found : lookup at es ≡ Some v = sym c.in_ok-entry.ensures.value ∙ ap entry_value c.in-Occupied.is ∙ c.into_mut.ensures.value in
    let put = c.in_ok-entry.ensures.update.1 v ∙ put_found term_cmp term_total k v v es c.in_ok-entry.ensures.ordered found in
    let was = filled_found at es v found c.self.invariant.filled in
    record {
      ordered = subst (λ (fs : Entries). IsStrictlySortedBy term_cmp (keys_of fs)) (grind (arith, c.in-Occupied.is)) (c.in_ok-entry.ensures.update.2 v);
      filled = subst HasNoneEmpty (grind (arith, c.in-Occupied.is)) (filled_written at v es (map_with_value c.in_ok-entry.entry v).entries put c.self.invariant.filled was);
    }

pub returns-clause-ok : goal.returns-clause-ok
returns-clause-ok c =
    let k = c.in_ok-try_clone.field-0 in
    let x : Holding = (c.args.age, c.args.write) in
    let es = c.self.inside.holders.entries in
    let w = c.only-alone.result in
    let new = (map_with_value c.in_ok-entry.entry w).entries in
    let at = is_at (term_cmp k) in
    let missing : lookup at es ≡ None = subst (λ e. MatchEntry e (ContainsKey term_cmp c.self.inside.holders k × (get_key term_cmp c.self.inside.holders k ≡ Some (entry_key e))) (lookup at es ≡ None)) c.in-Vacant.is c.in_ok-entry.ensures.found in
    let more = subst (λ (t : Term). HasMore (term t, x) c.args.self.now (key_spots new)) c.in_ok-try_clone.ensures
    (subst (λ (s : List KeySpot). HasMore (term k, x) s (key_spots new)) c.self.view_is (new_at k k x w es new refl missing (c.in_ok-entry.ensures.update.1 w) c.only-alone.ensures)) in
    λ p. grind (arith, c.in-Vacant.is, c.insert.ensures.value, more p)

pub returns-clause-free : goal.returns-clause-free
returns-clause-free c =
    let k = c.in_ok-try_clone.field-0 in
    let es = c.self.inside.holders.entries in
    let at = is_at (term_cmp k) in
    let missing : lookup at es ≡ None = subst (λ e. MatchEntry e (ContainsKey term_cmp c.self.inside.holders k × (get_key term_cmp c.self.inside.holders k ≡ Some (entry_key e))) (lookup at es ≡ None)) c.in-Vacant.is c.in_ok-entry.ensures.found in
    subst (λ (t : Term). list_any (λ s. same (term t) s.0) c.args.self.now ≡ false) c.in_ok-try_clone.ensures
    (subst (λ (v : List KeySpot). list_any (λ s. same (term k) s.0) v ≡ false) c.self.view_is (free_at k es c.in_ok-entry.ensures.ordered missing))

pub invariant_of-self-2 : goal.invariant_of-self-2
invariant_of-self-2 c =
    let k = c.in_ok-try_clone.field-0 in
    let es = c.self.inside.holders.entries in
    let w = c.only-alone.result in
    let new = (map_with_value c.in_ok-entry.entry w).entries in
    record {
      ordered = subst (λ (fs : Entries). IsStrictlySortedBy term_cmp (keys_of fs)) (grind (arith, c.in-Vacant.is, c.insert.ensures.value)) (c.in_ok-entry.ensures.update.2 w);
      filled = subst HasNoneEmpty (grind (arith, c.in-Vacant.is, c.insert.ensures.value)) (filled_inserted term_cmp k w es new (c.in_ok-entry.ensures.update.1 w) c.self.invariant.filled (c.only-alone.ensures (λ h. true)));
    }
