-- The locks on the keys of one table, as one list.
use Rattle.std.proofs.Common.{◌≡◌, List, [], Bool, true, false, ◌&&◌, refl, sym, ap, subst, ◌∙◌, Option, Some, None}
use Rattle.std.proofs.Math.Bool.{and-true}
use Rattle.std.specs.Prelude.{map}
use Rattle.std.specs.List.{list_any}
use Rattle.std.specs.List.Sorted.{IsStrictlySortedBy}
use Rattle.std.specs.Option.{is_some}
use Rattle.tab_locks.specs.Filled.{HasNoneEmpty}
use Rattle.tab_locks.proofs.Filled.{filled_found}
use Rattle.std.specs.BTreeMap.{is_at, insert_entry}
use Rattle.std.specs.Map.{keys_of, values_of, lookup, set_value, remove_entry}
use Rattle.tab_term.specs.declared.term.Term.{Term}
use Rattle.tab_term.specs.View.{term}
use Rattle.tab_term.specs.Same.{same, same-Decides}
use Rattle.tab_term.specs.OrderLaws.{matches_same}
use Rattle.tab_locks.specs.Members.{HasMore, SameMembers, Drops}
use Rattle.tab_locks.specs.Spots.{Holding, KeySpot, key_spots, stands_on_key, is_holding}
use Rattle.tab_locks.proofs.Passing.{any_same, any_map, any_and, any_flat_map}
use Rattle.tab_locks.proofs.Lookups.{found_any}
use Rattle.tab_locks.proofs.PutEntry.{put_found, found_set, without_set, without_missing}
use Rattle.tab_locks.proofs.MapMembers.{more_mapped, dropped_mapped, kept_mapped, spelled_found, spelled_more, spelled_same, spelled_new, spelled_dropped, spelled_kept, spelled_pruned}
use Rattle.tab_term.proofs.Total.{term_total}
use Rattle.tab_term.specs.Order.{term_cmp}

abbrev spell : Term → List Holding → List KeySpot
spell k hs = map (λ h. (term k, h)) hs

abbrev Entries : Type 0
Entries = List (Term × List Holding)

is_key : (k j : Term) → is_at (term_cmp k) j ≡ same (term k) (term j)
is_key k j = sym (matches_same (term k) (term j))

one_key : (k j : Term) → is_at (term_cmp k) j ≡ true → term k ≡ term j
one_key k j t = (same-Decides (term k) (term j)).0 (sym (is_key k j) ∙ t)

pub any_held : (p : Holding → Bool) (es : Entries) → list_any (λ v. list_any p v) (values_of es) ≡ list_any (λ s. p s.1) (key_spots es)
any_held p es =
    any_map (λ v. list_any p v) (λ (e : Term × List Holding). e.1) es
    ∙ sym (any_flat_map (λ s. p s.1) (λ e. spell e.0 e.1) es ∙ any_same (λ e. list_any (λ s. p s.1) (spell e.0 e.1)) (λ e. list_any p e.1) es (λ e. any_map (λ s. p s.1) (λ h. (term e.0, h)) e.1))

pub held_at : (p : Holding → Bool) (k : Term) (es : Entries) → IsStrictlySortedBy term_cmp (keys_of es) → list_any (λ s. same (term k) s.0 && p s.1) (key_spots es) ≡ found_any (list_any p) (lookup (is_at (term_cmp k)) es)
held_at p k es s = spelled_found term_cmp term_total spell k (λ x. same (term k) x.0 && p x.1) (list_any p) es s
    (λ e. any_map (λ x. same (term k) x.0 && p x.1) (λ h. (term e.0, h)) e.1 ∙ any_and (same (term k) (term e.0)) p e.1 ∙ ap (λ b. b && list_any p e.1) (sym (is_key k e.0)))

-- a key that is not there
pub free_at : (k : Term) (es : Entries) → IsStrictlySortedBy term_cmp (keys_of es) → lookup (is_at (term_cmp k)) es ≡ None → list_any (λ s. same (term k) s.0) (key_spots es) ≡ false
free_at k es s l =
    any_same (λ s. same (term k) s.0) (λ s. same (term k) s.0 && true) (key_spots es) (λ s. sym (and-true (same (term k) s.0)))
    ∙ held_at (λ h. true) k es s ∙ ap (found_any (list_any (λ (h : Holding). true))) l

pub more_at : (k : Term) (x : Holding) (v w : List Holding) (es new : Entries) → lookup (is_at (term_cmp k)) es ≡ Some v → new ≡ set_value (is_at (term_cmp k)) es w → HasMore x v w → HasMore (term k, x) (key_spots es) (key_spots new)
more_at k x v w es new l is h = spelled_more term_cmp term_total spell k (term k, x) v w es new l is
    (λ j t. let P = λ (y : KeySpot). HasMore y (spell j v) (spell j w) in subst P (λ i. (sym (one_key k j t) i, x)) (more_mapped (λ (h : Holding). (term j, h)) x v w h))

pub same_at : (k : Term) (v w : List Holding) (es new : Entries) → lookup (is_at (term_cmp k)) es ≡ Some v → new ≡ set_value (is_at (term_cmp k)) es w → w ≡ v → SameMembers (key_spots es) (key_spots new)
same_at k v w es new l is e = spelled_same term_cmp term_total spell k v w es new l is (λ j p. ap (λ hs. list_any p (spell j hs)) e)

pub new_at : (k j : Term) (x : Holding) (v : List Holding) (es new : Entries) → j ≡ k → lookup (is_at (term_cmp k)) es ≡ None → new ≡ insert_entry term_cmp es j v → HasMore x [] v → HasMore (term k, x) (key_spots es) (key_spots new)
new_at k j x v es new e l is h = spelled_new term_cmp term_total spell k (term k, x) v es new l (is ∙ ap (λ z. insert_entry term_cmp es z v) e) (more_mapped (λ (h : Holding). (term k, h)) x [] v h)

others_stay : (k : Term) (r : Holding) (e : Term × List Holding) → is_at (term_cmp k) e.0 ≡ false → Drops (stands_on_key (term k) r) (spell e.0 e.1) (spell e.0 e.1)
others_stay k r e n = kept_mapped (λ (h : Holding). (term e.0, h)) (stands_on_key (term k) r) e.1 (λ h. ap (λ b. b && is_holding r h) (sym (is_key k e.0) ∙ n))

pub dropped_at : (k : Term) (r : Holding) (v w : List Holding) (es new : Entries) → IsStrictlySortedBy term_cmp (keys_of es) → lookup (is_at (term_cmp k)) es ≡ Some v → new ≡ set_value (is_at (term_cmp k)) es w
    → Drops (is_holding r) v w → Drops (stands_on_key (term k) r) (key_spots es) (key_spots new)
dropped_at k r v w es new s l is h = spelled_dropped term_cmp term_total spell k (stands_on_key (term k) r) v w es new s l is
    (λ j t. dropped_mapped (λ (h : Holding). (term j, h)) (stands_on_key (term k) r) (is_holding r) v w h (λ x. ap (λ b. b && is_holding r x) (sym (is_key k j) ∙ t)))
    (others_stay k r)

pub none_at : (k : Term) (r : Holding) (es : Entries) → lookup (is_at (term_cmp k)) es ≡ None → Drops (stands_on_key (term k) r) (key_spots es) (key_spots es)
none_at k r es l = spelled_kept term_cmp term_total spell k (stands_on_key (term k) r) es l (others_stay k r)

pub pruned_at : (k : Term) (es new : Entries) → lookup (is_at (term_cmp k)) es ≡ Some [] → new ≡ remove_entry (is_at (term_cmp k)) es → SameMembers (key_spots es) (key_spots new)
pruned_at k es new l is = spelled_pruned term_cmp term_total spell k [] es new l is (λ j. refl)

-- what is put at a key that is there, and what is left where its last owner goes
pub dropped_put : (k : Term) (r : Holding) (v w : List Holding) (es new : Entries) → IsStrictlySortedBy term_cmp (keys_of es) → lookup (is_at (term_cmp k)) es ≡ Some v → new ≡ insert_entry term_cmp es k w
    → Drops (is_holding r) v w → Drops (stands_on_key (term k) r) (key_spots es) (key_spots new)
dropped_put k r v w es new s l is h = dropped_at k r v w es new s l (is ∙ put_found term_cmp term_total k v w es s l) h

pub dropped_last : (k : Term) (r : Holding) (v w : List Holding) (es new : Entries) → IsStrictlySortedBy term_cmp (keys_of es) → lookup (is_at (term_cmp k)) es ≡ Some v → w ≡ [] → new ≡ remove_entry (is_at (term_cmp k)) es
    → Drops (is_holding r) v w → Drops (stands_on_key (term k) r) (key_spots es) (key_spots new)
dropped_last k r v w es new s l bare is h =
    let at = is_at (term_cmp k) in
    λ p. pruned_at k (set_value at es w) new (found_set at v w es l ∙ ap Some bare) (is ∙ sym (without_set at w es)) p ∙ dropped_at k r v w es (set_value at es w) s l refl h p

pub dropped_none : (k : Term) (r : Holding) (es new : Entries) → lookup (is_at (term_cmp k)) es ≡ None → new ≡ remove_entry (is_at (term_cmp k)) es → Drops (stands_on_key (term k) r) (key_spots es) (key_spots new)
dropped_none k r es new l is = subst (λ (fs : Entries). Drops (stands_on_key (term k) r) (key_spots es) (key_spots fs)) {x = es} {y = new} (sym (is ∙ without_missing (is_at (term_cmp k)) es l)) (none_at k r es l)

-- whether a key is there
pub has_at : (k : Term) (es : Entries) → IsStrictlySortedBy term_cmp (keys_of es) → HasNoneEmpty es → is_some (lookup (is_at (term_cmp k)) es) ≡ list_any (λ s. same (term k) s.0) (key_spots es)
has_at k es s filled = by (lookup (is_at (term_cmp k)) es) refl
  where
    by : (o : Option (List Holding)) → lookup (is_at (term_cmp k)) es ≡ o → is_some o ≡ list_any (λ s. same (term k) s.0) (key_spots es)
    by None l = sym (free_at k es s l)
    by (Some v) l =
        sym (any_same (λ s. same (term k) s.0) (λ s. same (term k) s.0 && true) (key_spots es) (λ s. sym (and-true (same (term k) s.0)))
        ∙ held_at (λ h. true) k es s ∙ ap (found_any (list_any (λ (h : Holding). true))) l ∙ filled_found (is_at (term_cmp k)) es v l filled)
