-- Lists that have a member, with one more; maps of such lists alone, with a value written or put in, and without one key's entry.
use Rattle.std.proofs.Common.{◌≡◌, List, [], ◌∷◌, Bool, true, false, not, cond, refl, sym, ap, subst, ◌∙◌, ◌||◌, ◌↔◌, IsTrue, length, arith, Some, Result, Ok, Err, OnOk, OnErr}
use Rattle.std.specs.Map.{values_of, lookup, set_value, remove_entry}
use Rattle.std.specs.List.{list_any}
use Rattle.std.specs.BTreeMap.{insert_entry}
use Rattle.std.specs.declared.cmp.Ordering.{Ordering}
use Rattle.std.proofs.lemmas.List.Elements.{All-head, All-tail}
use Rattle.std.proofs.lemmas.Map.Views.{All-values-insert_entry, All-values-set_value, All-map-remove_entry}
use Rattle.tab_locks.specs.Members.{HasMore, SameMembers}
use Rattle.tab_locks.specs.Filled.{IsFilled, HasNoneEmpty}

-- one member more, or the same
pub filled_grown : {X T E : Type 0} (r : Result T E) (x : X) (v w : List X) → IsFilled v → OnOk r (HasMore x v w) → OnErr r (SameMembers v w) → IsFilled w
filled_grown (Ok t) x v w filled more same = more (λ y. true)
filled_grown (Err e) x v w filled more same = same (λ y. true) ∙ filled

module _ {K X : Type 0} where
  -- a map with no entries has no value with a member
  pub any_value : (b : Bool) (es : List (K × List X)) → (IsTrue b ↔ (length es ≡ 0)) → HasNoneEmpty es → not b ≡ list_any (λ v. list_any (λ x. true) v) (values_of es)
  any_value b [] h filled = ap not (h.1 refl)
  any_value true (e ∷ es) h filled = absurd (omega (arith, h.0 refl))
  any_value false (e ∷ es) h filled = λ i. sym (All-head IsFilled _ _ filled) i || list_any (λ v. list_any (λ x. true) v) (values_of es)

  pub filled_written : (test : K → Bool) (w : List X) (es new : List (K × List X)) → new ≡ set_value test es w → HasNoneEmpty es → IsFilled w → HasNoneEmpty new
  filled_written test w es new is filled one = subst HasNoneEmpty (sym is) (All-values-set_value test IsFilled es w filled one)

  pub filled_inserted : (cmp : K → K → Ordering) (k : K) (v : List X) (es new : List (K × List X)) → new ≡ insert_entry cmp es k v → HasNoneEmpty es → IsFilled v → HasNoneEmpty new
  filled_inserted cmp k v es new is filled one = subst HasNoneEmpty (sym is) (All-values-insert_entry cmp k v IsFilled es filled one)

  -- what a look-up finds
  pub filled_found : (test : K → Bool) (es : List (K × List X)) (v : List X) → lookup test es ≡ Some v → HasNoneEmpty es → IsFilled v
  filled_found test [] v found filled = absurd cc
  filled_found test (e ∷ es) v found filled = by (test e.0) found (λ h. filled_found test es v h (All-tail IsFilled _ _ filled))
    where
      by : (b : Bool) → cond b (Some e.1) (lookup test es) ≡ Some v → (lookup test es ≡ Some v → IsFilled v) → IsFilled v
      by true h later = let same : e.1 ≡ v = cc in subst IsFilled same (All-head IsFilled _ _ filled)
      by false h later = later h

  -- where memory was refused, the map stays
  pub filled_after : {T E : Type 0} (cmp : K → K → Ordering) (k : K) (v : List X) (es new : List (K × List X)) (r : Result T E) → OnOk r (new ≡ insert_entry cmp es k v) → OnErr r (new ≡ es) → HasNoneEmpty es → IsFilled v → HasNoneEmpty new
  filled_after cmp k v es new (Ok x) more none filled one = filled_inserted cmp k v es new more filled one
  filled_after cmp k v es new (Err e) more none filled one = subst HasNoneEmpty (sym none) filled

  pub filled_without : (test : K → Bool) (es : List (K × List X)) → HasNoneEmpty es → HasNoneEmpty (remove_entry test es)
  filled_without test es filled = All-map-remove_entry test (λ (e : K × List X). e.1) IsFilled es filled
