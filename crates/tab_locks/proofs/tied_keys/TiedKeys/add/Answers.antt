use Rattle.std.proofs.Common.{◌≡◌, refl, true, sym, ap, ◌∙◌, subst, List, Some, None, arith}
use Rattle.std.proofs.lemmas.Result.{on_ok_weaker, on_err_weaker}
use Rattle.std.specs.List.{list_any}
use Rattle.std.specs.List.Sorted.{IsStrictlySortedBy}
use Rattle.std.specs.BTreeMap.{is_at, get_key, ContainsKey}
use Rattle.std.specs.BTreeMap.Entry.{map_with_value, entry_key, entry_value, MatchEntry}
use Rattle.std.specs.Map.{keys_of, lookup}
use Rattle.tab_term.specs.declared.term.Term.{Term}
use Rattle.tab_term.specs.View.{term}
use Rattle.tab_term.specs.Order.{term_cmp}
use Rattle.tab_term.proofs.Total.{term_total}
use Rattle.tab_locks.specs.Filled.{HasNoneEmpty}
use Rattle.tab_locks.specs.Members.{HasMore, SameMembers}
use Rattle.tab_locks.specs.Spots.{Holding, KeySpot, key_spots}
use Rattle.tab_locks.proofs.Filled.{filled_found, filled_grown, filled_written, filled_inserted}
use Rattle.tab_locks.proofs.KeySpots.{more_at, same_at, new_at}
use Rattle.tab_locks.proofs.PutEntry.{put_found}
use Rattle.tab_locks.proofs.tied_keys.TiedKeys.add.Goals as goal

abbrev Entries : Type 0
Entries = List (Term × List Holding)

pub returns-in-Occupied-clause-ok : goal.returns-in-Occupied-clause-ok
returns-in-Occupied-clause-ok c =
    let k = c.in_ok-try_clone.field-0 in
    let x : Holding = (c.args.age, c.args.write) in
    let es = c.self.inside.holders.entries in
    let v = c.into_mut.result.now in
    let w = c.add.new.self in
    let new = (map_with_value c.in_ok-entry.entry w).entries in
    let found : lookup (is_at (term_cmp k)) es ≡ Some v = sym c.in_ok-entry.ensures.value ∙ ap entry_value c.in-Occupied.is ∙ c.into_mut.ensures.value in
    let put = c.in_ok-entry.ensures.update.1 w ∙ put_found term_cmp term_total k v w es c.in_ok-entry.ensures.ordered found in
    let more = λ (h : HasMore x v w). subst (λ (t : Term). HasMore (term t, x) c.args.self.now (key_spots new)) c.in_ok-try_clone.ensures
    (subst (λ (s : List KeySpot). HasMore (term k, x) s (key_spots new)) c.self.view_is (more_at k x v w es new found put h)) in
    on_ok_weaker c.add.result (λ h p. grind (arith, c.in-Occupied.is, more h p)) c.add.ensures.ok

pub returns-in-Occupied-clause-err : goal.returns-in-Occupied-clause-err
returns-in-Occupied-clause-err c =
    let k = c.in_ok-try_clone.field-0 in
    let es = c.self.inside.holders.entries in
    let v = c.into_mut.result.now in
    let w = c.add.new.self in
    let new = (map_with_value c.in_ok-entry.entry w).entries in
    let found : lookup (is_at (term_cmp k)) es ≡ Some v = sym c.in_ok-entry.ensures.value ∙ ap entry_value c.in-Occupied.is ∙ c.into_mut.ensures.value in
    let put = c.in_ok-entry.ensures.update.1 w ∙ put_found term_cmp term_total k v w es c.in_ok-entry.ensures.ordered found in
    let same = λ (h : w ≡ v). subst (λ (s : List KeySpot). SameMembers s (key_spots new)) c.self.view_is (same_at k v w es new found put h) in
    on_err_weaker c.add.result (λ h p. grind (arith, c.in-Occupied.is, same h p)) c.add.ensures.err

pub invariant_of-self-in-Occupied : goal.invariant_of-self-in-Occupied
invariant_of-self-in-Occupied c =
    let k = c.in_ok-try_clone.field-0 in
    let es = c.self.inside.holders.entries in
    let v = c.into_mut.result.now in
    let w = c.add.new.self in
    let at = is_at (term_cmp k) in
    let found : lookup at es ≡ Some v = sym c.in_ok-entry.ensures.value ∙ ap entry_value c.in-Occupied.is ∙ c.into_mut.ensures.value in
    let put = c.in_ok-entry.ensures.update.1 w ∙ put_found term_cmp term_total k v w es c.in_ok-entry.ensures.ordered found in
    let was = filled_found at es v found c.self.invariant.filled in
    let one = filled_grown c.add.result (c.args.age, c.args.write) v w was c.add.ensures.ok (on_err_weaker c.add.result (λ same p. ap (list_any p) same) c.add.ensures.err) in
    record {
      ordered = subst (λ (fs : Entries). IsStrictlySortedBy term_cmp (keys_of fs)) (grind (arith, c.in-Occupied.is)) (c.in_ok-entry.ensures.update.2 w);
      filled = subst HasNoneEmpty (grind (arith, c.in-Occupied.is)) (filled_written at w es (map_with_value c.in_ok-entry.entry w).entries put c.self.invariant.filled one);
    }

pub returns-clause-ok : goal.returns-clause-ok
returns-clause-ok c =
    let k = c.in_ok-try_clone.field-0 in
    let x : Holding = (c.args.age, c.args.write) in
    let es = c.self.inside.holders.entries in
    let w = c.only.result in
    let new = (map_with_value c.in_ok-entry.entry w).entries in
    let at = is_at (term_cmp k) in
    let missing : lookup at es ≡ None = subst (λ e. MatchEntry e (ContainsKey term_cmp c.self.inside.holders k × (get_key term_cmp c.self.inside.holders k ≡ Some (entry_key e))) (lookup at es ≡ None)) c.in-Vacant.is c.in_ok-entry.ensures.found in
    let more = subst (λ (t : Term). HasMore (term t, x) c.args.self.now (key_spots new)) c.in_ok-try_clone.ensures
    (subst (λ (s : List KeySpot). HasMore (term k, x) s (key_spots new)) c.self.view_is (new_at k k x w es new refl missing (c.in_ok-entry.ensures.update.1 w) c.only.ensures)) in
    λ p. grind (arith, c.in-Vacant.is, c.insert.ensures.value, more p)

pub invariant_of-self-2 : goal.invariant_of-self-2
invariant_of-self-2 c =
    let k = c.in_ok-try_clone.field-0 in
    let es = c.self.inside.holders.entries in
    let w = c.only.result in
    let new = (map_with_value c.in_ok-entry.entry w).entries in
    record {
      ordered = subst (λ (fs : Entries). IsStrictlySortedBy term_cmp (keys_of fs)) (grind (arith, c.in-Vacant.is, c.insert.ensures.value)) (c.in_ok-entry.ensures.update.2 w);
      filled = subst HasNoneEmpty (grind (arith, c.in-Vacant.is, c.insert.ensures.value)) (filled_inserted term_cmp k w es new (c.in_ok-entry.ensures.update.1 w) c.self.invariant.filled (c.only.ensures (λ h. true)));
    }
