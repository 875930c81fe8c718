-- Which pairs stand in an index after the keys of one value change.
use Rattle.std.proofs.Common.{◌≡◌, ◌≢◌, List, [], ◌∷◌, Bool, true, false, not, ◌&&◌, ◌||◌, Some, None, Ordering, Less, Equal, Greater, refl, sym, ap, ◌∙◌, subst, map}
use Rattle.std.specs.Prelude.{if◌then◌else◌, is_some}
use Rattle.std.specs.Ordering.{match_ordering, is_eq}
use Rattle.tab_term.specs.declared.term.Term.{Term}
use Rattle.tab_term.specs.declared.term.Term.TheVariants as is
use Rattle.tab_term.specs.Order.{term_cmp}
use Rattle.tab_term.specs.OrderLaws.{matches_same}
use Rattle.tab_term.specs.Same.{same, same-Decides}
use Rattle.tab_term.specs.View.{term}
use Rattle.tab_term.proofs.Total.{term_total}
use Rattle.tab_map.specs.Entries.{lookup, insert_entry, remove_entry, AllAbove, Ascends}
use Rattle.tab_map.specs.KeyList.{keys, contains_key, insert_key, remove_key, AllKeysAbove, KeysAscend}
use Rattle.tab_map.proofs.KeyListLemmas.{keys_lookup, keys_insert, keys_remove, keys_ascend}
use Rattle.tab_map.proofs.AscendsLemmas.{ascends_insert}
use Rattle.tab_model.specs.Shapes.{term_value}
use Rattle.tab_records.proofs.LookUps.{lookup_insert, lookup_remove}
use Rattle.tab_index.specs.IndexOf.{Entry, keys_in, has_pair, IsFilled, IsWith, IsWithout}

-- ---- terms

held_term : (t : Term) → term_value (term t) ≡ t
held_term (is.Int z) = refl
held_term (is.Atom s) = refl
held_term (is.Tuple ts) = refl
held_term (is.List ts) = refl
held_term (is.Bin b) = refl
held_term (is.Map ps) = refl

pub one_term : (a b : Term) → same (term a) (term b) ≡ true → a ≡ b
one_term a b h = sym (held_term a) ∙ ap term_value ((same-Decides (term a) (term b)).0 h) ∙ held_term b

-- ---- keys, seen as entries that say nothing

abbrev entries_of : List Term → List (Term × Unit {0})
entries_of ks = map (λ k. (k, tt)) ks

keys-entries : (ks : List Term) → keys (entries_of ks) ≡ ks
keys-entries [] = refl
keys-entries (k ∷ ks) = ap (λ z. k ∷ z) (keys-entries ks)

above-entries : (k : Term) (ks : List Term) → AllKeysAbove term_cmp k ks → AllAbove term_cmp k (entries_of ks)
above-entries k [] a = tt
above-entries k (j ∷ ks) a = (a.0, above-entries k ks a.1)

ascends-entries : (ks : List Term) → KeysAscend term_cmp ks → Ascends term_cmp (entries_of ks)
ascends-entries [] s = tt
ascends-entries (k ∷ ks) s = (above-entries k ks s.0, ascends-entries ks s.1)

has_entry : (j : Term) (ks : List Term) → is_some (lookup term_cmp j (entries_of ks)) ≡ contains_key term_cmp j ks
has_entry j ks = keys_lookup term_cmp j (entries_of ks) ∙ ap (contains_key term_cmp j) (keys-entries ks)

pub contains_insert : (j k : Term) (ks : List Term) → KeysAscend term_cmp ks → contains_key term_cmp j (insert_key term_cmp k ks) ≡ (same (term j) (term k) || contains_key term_cmp j ks)
contains_insert j k ks s =
    ap (contains_key term_cmp j) (sym (keys_insert term_cmp (k, tt) (entries_of ks) ∙ ap (insert_key term_cmp k) (keys-entries ks)))
    ∙ sym (keys_lookup term_cmp j (insert_entry term_cmp (k, tt) (entries_of ks)))
    ∙ ap is_some (lookup_insert term_total (k, tt) (entries_of ks) j (ascends-entries ks s))
    ∙ cases (term_cmp j k)
    ∙ ap (λ b. b || contains_key term_cmp j ks) (sym (matches_same (term j) (term k)))
  where
    cases : (o : Ordering) → is_some (match_ordering o (lookup term_cmp j (entries_of ks)) (Some tt) (lookup term_cmp j (entries_of ks))) ≡ (is_eq o || contains_key term_cmp j ks)
    cases Less = has_entry j ks
    cases Equal = refl
    cases Greater = has_entry j ks

contains_remove : (j k : Term) (ks : List Term) → KeysAscend term_cmp ks → contains_key term_cmp j (remove_key term_cmp k ks) ≡ (not (same (term j) (term k)) && contains_key term_cmp j ks)
contains_remove j k ks s =
    ap (contains_key term_cmp j) (sym (keys_remove term_cmp k (entries_of ks) ∙ ap (remove_key term_cmp k) (keys-entries ks)))
    ∙ sym (keys_lookup term_cmp j (remove_entry term_cmp k (entries_of ks)))
    ∙ ap is_some (lookup_remove term_total k (entries_of ks) j (ascends-entries ks s))
    ∙ cases (term_cmp j k)
    ∙ ap (λ b. not b && contains_key term_cmp j ks) (sym (matches_same (term j) (term k)))
  where
    cases : (o : Ordering) → is_some (match_ordering o (lookup term_cmp j (entries_of ks)) None (lookup term_cmp j (entries_of ks))) ≡ (not (is_eq o) && contains_key term_cmp j ks)
    cases Less = has_entry j ks
    cases Equal = refl
    cases Greater = has_entry j ks

pub keys_ascend_insert : (k : Term) (ks : List Term) → KeysAscend term_cmp ks → KeysAscend term_cmp (insert_key term_cmp k ks)
keys_ascend_insert k ks s =
    subst (KeysAscend term_cmp) (keys_insert term_cmp (k, tt) (entries_of ks) ∙ ap (insert_key term_cmp k) (keys-entries ks))
    (keys_ascend term_cmp (insert_entry term_cmp (k, tt) (entries_of ks)) (ascends_insert term_total (k, tt) (entries_of ks) (ascends-entries ks s)))

insert_some : (k : Term) (ks : List Term) → insert_key term_cmp k ks ≢ []
insert_some k [] e = cc
insert_some k (q ∷ ks) e = cases (term_cmp k q) e
  where
    cases : (o : Ordering) → match_ordering o (k ∷ q ∷ ks) (k ∷ ks) (q ∷ insert_key term_cmp k ks) ≡ [] → ⊥
    cases Less h = cc
    cases Equal h = cc
    cases Greater h = cc

-- ---- values with their keys

pairs_insert : (es : List Entry) (v : Term) (ns : List Term) → Ascends term_cmp es → (u j : Term) → has_pair (insert_entry term_cmp (v, ns) es) u j ≡ (if same (term u) (term v) then contains_key term_cmp j ns else has_pair es u j)
pairs_insert es v ns s u j =
    ap (λ o. contains_key term_cmp j (keys_in o)) (lookup_insert term_total (v, ns) es u s) ∙ cases (term_cmp u v)
    ∙ ap (λ b. if b then contains_key term_cmp j ns else has_pair es u j) (sym (matches_same (term u) (term v)))
  where
    cases : (o : Ordering) → contains_key term_cmp j (keys_in (match_ordering o (lookup term_cmp u es) (Some ns) (lookup term_cmp u es))) ≡ (if is_eq o then contains_key term_cmp j ns else has_pair es u j)
    cases Less = refl
    cases Equal = refl
    cases Greater = refl

pairs_remove : (es : List Entry) (v : Term) → Ascends term_cmp es → (u j : Term) → has_pair (remove_entry term_cmp v es) u j ≡ (if same (term u) (term v) then false else has_pair es u j)
pairs_remove es v s u j =
    ap (λ o. contains_key term_cmp j (keys_in o)) (lookup_remove term_total v es u s) ∙ cases (term_cmp u v)
    ∙ ap (λ b. if b then false else has_pair es u j) (sym (matches_same (term u) (term v)))
  where
    cases : (o : Ordering) → contains_key term_cmp j (keys_in (match_ordering o (lookup term_cmp u es) None (lookup term_cmp u es))) ≡ (if is_eq o then false else has_pair es u j)
    cases Less = refl
    cases Equal = refl
    cases Greater = refl

filled_insert : (es : List Entry) (v : Term) (ns : List Term) → Ascends term_cmp es → ns ≢ [] → IsFilled es → IsFilled (insert_entry term_cmp (v, ns) es)
filled_insert es v ns s n f u e = cases (term_cmp u v) (sym (lookup_insert term_total (v, ns) es u s) ∙ e)
  where
    inner : Some ns ≡ Some [] → ns ≡ []
    inner h = cc

    cases : (o : Ordering) → match_ordering o (lookup term_cmp u es) (Some ns) (lookup term_cmp u es) ≡ Some [] → ⊥
    cases Less h = f u h
    cases Equal h = n (inner h)
    cases Greater h = f u h

filled_remove : (es : List Entry) (v : Term) → Ascends term_cmp es → IsFilled es → IsFilled (remove_entry term_cmp v es)
filled_remove es v s f u e = cases (term_cmp u v) (sym (lookup_remove term_total v es u s) ∙ e)
  where
    cases : (o : Ordering) → match_ordering o (lookup term_cmp u es) None (lookup term_cmp u es) ≡ Some [] → ⊥
    cases Less h = f u h
    cases Equal h = cc
    cases Greater h = f u h

-- ---- a pair more

pub with_new : (es : List Entry) (v k : Term) (ks : List Term) → Ascends term_cmp es → KeysAscend term_cmp ks → ks ≡ keys_in (lookup term_cmp v es)
    → IsWith es (insert_entry term_cmp (v, insert_key term_cmp k ks) es) (term v) (term k)
with_new es v k ks s t is = record {
  pairs = λ u j. pairs_insert es v (insert_key term_cmp k ks) s u j
      ∙ ap (λ b. if same (term u) (term v) then b else has_pair es u j) (contains_insert j k ks t)
      ∙ cases u j (same (term u) (term v)) refl;
  filled = filled_insert es v (insert_key term_cmp k ks) s (insert_some k ks);
}
  where
    cases : (u j : Term) (b : Bool) → same (term u) (term v) ≡ b → (if b then same (term j) (term k) || contains_key term_cmp j ks else has_pair es u j) ≡ ((b && same (term j) (term k)) || has_pair es u j)
    cases u j true e = ap (λ z. same (term j) (term k) || contains_key term_cmp j z) (is ∙ ap (λ w. keys_in (lookup term_cmp w es)) (sym (one_term u v e)))
    cases u j false e = refl

-- it was there
pub with_old : (es : List Entry) (v k : Term) (ks : List Term) → ks ≡ keys_in (lookup term_cmp v es) → contains_key term_cmp k ks ≡ true → IsWith es es (term v) (term k)
with_old es v k ks is there = record {
  pairs = λ u j. cases u j (same (term u) (term v)) refl (same (term j) (term k)) refl;
  filled = λ f. f;
}
  where
    cases : (u j : Term) (b : Bool) → same (term u) (term v) ≡ b → (c : Bool) → same (term j) (term k) ≡ c → has_pair es u j ≡ ((b && c) || has_pair es u j)
    cases u j true e true h = ap (λ w. has_pair es w j) (one_term u v e) ∙ ap (has_pair es v) (one_term j k h) ∙ ap (contains_key term_cmp k) (sym is) ∙ there
    cases u j true e false h = refl
    cases u j false e c h = refl

-- ---- a pair less

pub without_one : (es : List Entry) (v k : Term) (ks : List Term) → Ascends term_cmp es → KeysAscend term_cmp ks → Some ks ≡ lookup term_cmp v es → (remove_key term_cmp k ks ≢ [])
    → IsWithout es (insert_entry term_cmp (v, remove_key term_cmp k ks) es) (term v) (term k)
without_one es v k ks s t is some = record {
  pairs = λ u j. pairs_insert es v (remove_key term_cmp k ks) s u j
      ∙ ap (λ b. if same (term u) (term v) then b else has_pair es u j) (contains_remove j k ks t)
      ∙ cases u j (same (term u) (term v)) refl;
  filled = filled_insert es v (remove_key term_cmp k ks) s some;
}
  where
    cases : (u j : Term) (b : Bool) → same (term u) (term v) ≡ b → (if b then not (same (term j) (term k)) && contains_key term_cmp j ks else has_pair es u j) ≡ (not (b && same (term j) (term k)) && has_pair es u j)
    cases u j true e = ap (λ z. not (same (term j) (term k)) && contains_key term_cmp j z) (ap keys_in is ∙ ap (λ w. keys_in (lookup term_cmp w es)) (sym (one_term u v e)))
    cases u j false e = refl

-- it was the value's last
pub without_last : (es : List Entry) (v k : Term) (ks : List Term) → Ascends term_cmp es → KeysAscend term_cmp ks → Some ks ≡ lookup term_cmp v es → remove_key term_cmp k ks ≡ []
    → IsWithout es (remove_entry term_cmp v es) (term v) (term k)
without_last es v k ks s t is none = record {
  pairs = λ u j. pairs_remove es v s u j ∙ cases u j (same (term u) (term v)) refl;
  filled = filled_remove es v s;
}
  where
    cases : (u j : Term) (b : Bool) → same (term u) (term v) ≡ b → (if b then false else has_pair es u j) ≡ (not (b && same (term j) (term k)) && has_pair es u j)
    cases u j true e =
        ap (contains_key term_cmp j) (sym none) ∙ contains_remove j k ks t
        ∙ ap (λ z. not (same (term j) (term k)) && contains_key term_cmp j z) (ap keys_in is ∙ ap (λ w. keys_in (lookup term_cmp w es)) (sym (one_term u v e)))
    cases u j false e = refl

-- it wasn't there
pub without_none : (es : List Entry) (v k : Term) → has_pair es v k ≡ false → IsWithout es es (term v) (term k)
without_none es v k none = record {
  pairs = λ u j. cases u j (same (term u) (term v)) refl (same (term j) (term k)) refl;
  filled = λ f. f;
}
  where
    cases : (u j : Term) (b : Bool) → same (term u) (term v) ≡ b → (c : Bool) → same (term j) (term k) ≡ c → has_pair es u j ≡ (not (b && c) && has_pair es u j)
    cases u j true e true h = ap (λ w. has_pair es w j) (one_term u v e) ∙ ap (has_pair es v) (one_term j k h) ∙ none
    cases u j true e false h = refl
    cases u j false e c h = refl
