-- The counts of further records, after one of them changes.
use Rattle.std.proofs.Common.{◌≡◌, ℕ, ◌+◌, ◌-◌, List, [], Bool, true, false, ◌&&◌, Some, None, Ordering, Less, Equal, Greater, refl, sym, ap, ap₂, ◌∙◌, subst, arith}
use Rattle.std.specs.Prelude.{if◌then◌else◌}
use Rattle.std.specs.Ordering.{match_ordering, is_eq}
use Rattle.tab_term.specs.declared.term.Term.{Term}
use Rattle.tab_term.specs.Order.{term_cmp}
use Rattle.tab_term.specs.OrderLaws.{matches_same}
use Rattle.tab_term.specs.Same.{same}
use Rattle.tab_term.specs.View.{term}
use Rattle.tab_term.proofs.Total.{term_total}
use Rattle.tab_map.specs.Entries.{lookup, insert_entry, remove_entry, Ascends}
use Rattle.tab_records.proofs.LookUps.{lookup_insert, lookup_remove}
use Rattle.tab_index.specs.IndexOf.{Entry, has_pair, is_pair}
use Rattle.tab_model.proofs.TableLaws.{same_refl}
use Rattle.tab_index.specs.FurtherOf.{Counts, KeyCounts, HasNoZero, AreFilled, counts_in, count_of, further_of, HasCount, IsRaised, IsLowered, IsForgotten, IsAdded}
use Rattle.tab_index.proofs.IndexOfLemmas.{one_term}

-- ---- the counts of one key

pub count_put : (cs ds : Counts) (v : Term) (n : ℕ) → Ascends term_cmp cs → (n ≡ 0 → ⊥) → ds ≡ insert_entry term_cmp (v, n) cs → HasCount cs ds v n
count_put cs ds v n s some is = record {
  counts = λ u. ap (λ z. count_of (lookup term_cmp u z)) is ∙ ap count_of (lookup_insert term_total (v, n) cs u s) ∙ cases u (term_cmp u v)
      ∙ ap (λ b. if b then n else count_of (lookup term_cmp u cs)) (sym (matches_same (term u) (term v)));
  filled = λ f u h. not_zero f u (term_cmp u v) (sym (ap (λ z. lookup term_cmp u z) is ∙ lookup_insert term_total (v, n) cs u s) ∙ h);
}
  where
    not_zero : HasNoZero cs → (u : Term) (o : Ordering) → match_ordering o (lookup term_cmp u cs) (Some n) (lookup term_cmp u cs) ≡ Some 0 → ⊥
    not_zero f u Less h = f u h
    not_zero f u Equal h = let zero : n ≡ 0 = cc in some zero
    not_zero f u Greater h = f u h

    cases : (u : Term) (o : Ordering) → count_of (match_ordering o (lookup term_cmp u cs) (Some n) (lookup term_cmp u cs)) ≡ (if is_eq o then n else count_of (lookup term_cmp u cs))
    cases u Less = refl
    cases u Equal = refl
    cases u Greater = refl

pub count_taken : (cs ds : Counts) (v : Term) (n : ℕ) → Ascends term_cmp cs → n ≡ 0 → ds ≡ remove_entry term_cmp v cs → HasCount cs ds v n
count_taken cs ds v n s none is = record {
  counts = λ u. ap (λ z. count_of (lookup term_cmp u z)) is ∙ ap count_of (lookup_remove term_total v cs u s) ∙ cases u (term_cmp u v)
      ∙ ap (λ b. if b then n else count_of (lookup term_cmp u cs)) (sym (matches_same (term u) (term v)));
  filled = λ f u h. not_zero f u (term_cmp u v) (sym (ap (λ z. lookup term_cmp u z) is ∙ lookup_remove term_total v cs u s) ∙ h);
}
  where
    not_zero : HasNoZero cs → (u : Term) (o : Ordering) → match_ordering o (lookup term_cmp u cs) None (lookup term_cmp u cs) ≡ Some 0 → ⊥
    not_zero f u Less h = f u h
    not_zero f u Equal h = cc
    not_zero f u Greater h = f u h

    cases : (u : Term) (o : Ordering) → count_of (match_ordering o (lookup term_cmp u cs) None (lookup term_cmp u cs)) ≡ (if is_eq o then n else count_of (lookup term_cmp u cs))
    cases u Less = refl
    cases u Equal = sym none
    cases u Greater = refl

-- ---- the counts of all keys

further_put : (ms : List KeyCounts) (k : Term) (ds : Counts) → Ascends term_cmp ms → (u j : Term) → further_of (insert_entry term_cmp (k, ds) ms) u j ≡ (if same (term j) (term k) then count_of (lookup term_cmp u ds) else further_of ms u j)
further_put ms k ds s u j =
    ap (λ o. count_of (lookup term_cmp u (counts_in o))) (lookup_insert term_total (k, ds) ms j s) ∙ cases (term_cmp j k)
    ∙ ap (λ b. if b then count_of (lookup term_cmp u ds) else further_of ms u j) (sym (matches_same (term j) (term k)))
  where
    cases : (o : Ordering) → count_of (lookup term_cmp u (counts_in (match_ordering o (lookup term_cmp j ms) (Some ds) (lookup term_cmp j ms)))) ≡ (if is_eq o then count_of (lookup term_cmp u ds) else further_of ms u j)
    cases Less = refl
    cases Equal = refl
    cases Greater = refl

further_taken : (ms : List KeyCounts) (k : Term) → Ascends term_cmp ms → (u j : Term) → further_of (remove_entry term_cmp k ms) u j ≡ (if same (term j) (term k) then 0 else further_of ms u j)
further_taken ms k s u j =
    ap (λ o. count_of (lookup term_cmp u (counts_in o))) (lookup_remove term_total k ms j s) ∙ cases (term_cmp j k)
    ∙ ap (λ b. if b then 0 else further_of ms u j) (sym (matches_same (term j) (term k)))
  where
    cases : (o : Ordering) → count_of (lookup term_cmp u (counts_in (match_ordering o (lookup term_cmp j ms) None (lookup term_cmp j ms)))) ≡ (if is_eq o then 0 else further_of ms u j)
    cases Less = refl
    cases Equal = refl
    cases Greater = refl

-- a key's counts put, and taken out, leave no count of 0 and no key without counts
filled_put : (ms : List KeyCounts) (k : Term) (ds : Counts) → Ascends term_cmp ms → (ds ≡ [] → ⊥) → HasNoZero ds → AreFilled ms → AreFilled (insert_entry term_cmp (k, ds) ms)
filled_put ms k ds s some none f = record {
  keys = λ j h. key j (term_cmp j k) (sym (lookup_insert term_total (k, ds) ms j s) ∙ h);
  counts = λ j u h. count j u (term_cmp j k) (sym (ap (λ o. lookup term_cmp u (counts_in o)) (lookup_insert term_total (k, ds) ms j s)) ∙ h);
}
  where
    key : (j : Term) (o : Ordering) → match_ordering o (lookup term_cmp j ms) (Some ds) (lookup term_cmp j ms) ≡ Some [] → ⊥
    key j Less h = f.keys j h
    key j Equal h = let empty : ds ≡ [] = cc in some empty
    key j Greater h = f.keys j h

    count : (j u : Term) (o : Ordering) → lookup term_cmp u (counts_in (match_ordering o (lookup term_cmp j ms) (Some ds) (lookup term_cmp j ms))) ≡ Some 0 → ⊥
    count j u Less h = f.counts j u h
    count j u Equal h = none u h
    count j u Greater h = f.counts j u h

filled_taken : (ms : List KeyCounts) (k : Term) → Ascends term_cmp ms → AreFilled ms → AreFilled (remove_entry term_cmp k ms)
filled_taken ms k s f = record {
  keys = λ j h. key j (term_cmp j k) (sym (lookup_remove term_total k ms j s) ∙ h);
  counts = λ j u h. count j u (term_cmp j k) (sym (ap (λ o. lookup term_cmp u (counts_in o)) (lookup_remove term_total k ms j s)) ∙ h);
}
  where
    key : (j : Term) (o : Ordering) → match_ordering o (lookup term_cmp j ms) None (lookup term_cmp j ms) ≡ Some [] → ⊥
    key j Less h = f.keys j h
    key j Equal h = cc
    key j Greater h = f.keys j h

    count : (j u : Term) (o : Ordering) → lookup term_cmp u (counts_in (match_ordering o (lookup term_cmp j ms) None (lookup term_cmp j ms))) ≡ Some 0 → ⊥
    count j u Less h = f.counts j u h
    count j u Equal h = cc
    count j u Greater h = f.counts j u h

-- counts with one above 0 are not empty
some_count : (cs ds : Counts) (v : Term) (n m : ℕ) → HasCount cs ds v n → n ≡ m + 1 → ds ≡ [] → ⊥
some_count cs ds v n m has more e =
    let zero : 0 ≡ n = ap (λ z. count_of (lookup term_cmp v z)) (sym e) ∙ has.counts v ∙ ap (λ b. if b then n else count_of (lookup term_cmp v cs)) (same_refl (term v)) in
    omega (arith, zero, more)

-- a key's counts with another count at one value
one_pair : (ms : List KeyCounts) (v k : Term) (cs ds : Counts) (n : ℕ) → cs ≡ counts_in (lookup term_cmp k ms) → HasCount cs ds v n
    → (u j : Term) → (if same (term j) (term k) then count_of (lookup term_cmp u ds) else further_of ms u j) ≡ (if is_pair (term v) (term k) u j then n else further_of ms u j)
one_pair ms v k cs ds n is has u j = cases (same (term u) (term v)) refl (same (term j) (term k)) refl
  where
    cases : (b : Bool) → same (term u) (term v) ≡ b → (c : Bool) → same (term j) (term k) ≡ c → (if c then count_of (lookup term_cmp u ds) else further_of ms u j) ≡ (if b && c then n else further_of ms u j)
    cases true e true f = has.counts u ∙ ap (λ b. if b then n else count_of (lookup term_cmp u cs)) e
    cases false e true f = has.counts u ∙ ap (λ b. if b then n else count_of (lookup term_cmp u cs)) e ∙ ap (λ z. count_of (lookup term_cmp u z)) (is ∙ ap (λ w. counts_in (lookup term_cmp w ms)) (sym (one_term j k f)))
    cases true e false f = refl
    cases false e false f = refl

-- at the pair, its count
at_pair : (ms : List KeyCounts) (v k : Term) (f : ℕ → ℕ) (u j : Term) → (if is_pair (term v) (term k) u j then f (further_of ms v k) else further_of ms u j) ≡ (if is_pair (term v) (term k) u j then f (further_of ms u j) else further_of ms u j)
at_pair ms v k f u j = cases (same (term u) (term v)) refl (same (term j) (term k)) refl
  where
    cases : (b : Bool) → same (term u) (term v) ≡ b → (c : Bool) → same (term j) (term k) ≡ c → (if b && c then f (further_of ms v k) else further_of ms u j) ≡ (if b && c then f (further_of ms u j) else further_of ms u j)
    cases true e true g = ap₂ (λ w i. f (further_of ms w i)) (sym (one_term u v e)) (sym (one_term j k g))
    cases true e false g = refl
    cases false e c g = refl

pub raised : (ms : List KeyCounts) (v k : Term) (cs ds : Counts) (n : ℕ) → Ascends term_cmp ms → cs ≡ counts_in (lookup term_cmp k ms) → n ≡ count_of (lookup term_cmp v cs) + 1 → HasCount cs ds v n
    → IsRaised ms (insert_entry term_cmp (k, ds) ms) (term v) (term k)
raised ms v k cs ds n s is more has = record {
  counts = λ u j. further_put ms k ds s u j ∙ one_pair ms v k cs ds n is has u j
      ∙ ap (λ m. if is_pair (term v) (term k) u j then m else further_of ms u j) (more ∙ ap (λ z. count_of (lookup term_cmp v z) + 1) is) ∙ at_pair ms v k (λ m. m + 1) u j;
  filled = λ f. filled_put ms k ds s (some_count cs ds v n (count_of (lookup term_cmp v cs)) has more) (has.filled (subst HasNoZero (sym is) (f.counts k))) f;
}

pub lowered : (ms : List KeyCounts) (v k : Term) (cs ds : Counts) (n : ℕ) → Ascends term_cmp ms → cs ≡ counts_in (lookup term_cmp k ms) → n ≡ count_of (lookup term_cmp v cs) - 1 → HasCount cs ds v n → (ds ≡ [] → ⊥)
    → IsLowered ms (insert_entry term_cmp (k, ds) ms) (term v) (term k)
lowered ms v k cs ds n s is less has some = record {
  counts = λ u j. further_put ms k ds s u j ∙ one_pair ms v k cs ds n is has u j
      ∙ ap (λ m. if is_pair (term v) (term k) u j then m else further_of ms u j) (less ∙ ap (λ z. count_of (lookup term_cmp v z) - 1) is) ∙ at_pair ms v k (λ m. m - 1) u j;
  filled = λ f. filled_put ms k ds s some (has.filled (subst HasNoZero (sym is) (f.counts k))) f;
}

-- no other value of the key has a count
pub lowered_last : (ms : List KeyCounts) (v k : Term) (cs ds : Counts) (n : ℕ) → Ascends term_cmp ms → cs ≡ counts_in (lookup term_cmp k ms) → n ≡ count_of (lookup term_cmp v cs) - 1 → HasCount cs ds v n → ds ≡ []
    → IsLowered ms (remove_entry term_cmp k ms) (term v) (term k)
lowered_last ms v k cs ds n s is less has none = record {
  counts = λ u j. further_taken ms k s u j ∙ ap (λ z. if same (term j) (term k) then count_of (lookup term_cmp u z) else further_of ms u j) (sym none) ∙ one_pair ms v k cs ds n is has u j
      ∙ ap (λ m. if is_pair (term v) (term k) u j then m else further_of ms u j) (less ∙ ap (λ z. count_of (lookup term_cmp v z) - 1) is) ∙ at_pair ms v k (λ m. m - 1) u j;
  filled = filled_taken ms k s;
}

pub none_lowered : (ms : List KeyCounts) (v k : Term) → further_of ms v k ≡ 0 → IsLowered ms ms (term v) (term k)
none_lowered ms v k none = record {
  counts = λ u j. cases u j (same (term u) (term v)) refl (same (term j) (term k)) refl;
  filled = λ f. f;
}
  where
    cases : (u j : Term) (b : Bool) → same (term u) (term v) ≡ b → (c : Bool) → same (term j) (term k) ≡ c → further_of ms u j ≡ (if b && c then further_of ms u j - 1 else further_of ms u j)
    cases u j true e true f = let here = ap₂ (further_of ms) (one_term u v e) (one_term j k f) ∙ none in here ∙ sym (ap (λ n. n - 1) here)
    cases u j true e false f = refl
    cases u j false e c f = refl

pub forgotten : (ms : List KeyCounts) (k : Term) → Ascends term_cmp ms → IsForgotten ms (remove_entry term_cmp k ms) (term k)
forgotten ms k s = record { counts = further_taken ms k s; filled = filled_taken ms k s }

-- the key has no counts
pub none_forgotten : (ms : List KeyCounts) (k : Term) → lookup term_cmp k ms ≡ None → IsForgotten ms ms (term k)
none_forgotten ms k none = record {
  counts = λ u j. cases u j (same (term j) (term k)) refl;
  filled = λ f. f;
}
  where
    cases : (u j : Term) (b : Bool) → same (term j) (term k) ≡ b → further_of ms u j ≡ (if b then 0 else further_of ms u j)
    cases u j true e = ap (λ w. further_of ms u w) (one_term j k e) ∙ ap (λ o. count_of (lookup term_cmp u (counts_in o))) none
    cases u j false e = refl

-- ---- beside entries

pub added_raised : (es : List Entry) (ms ns : List KeyCounts) (v k : Term) → has_pair es v k ≡ true → IsRaised ms ns (term v) (term k) → IsAdded es ms ns (term v) (term k)
added_raised es ms ns v k there w = record {
  counts = λ u j. w.counts u j ∙ cases u j (same (term u) (term v)) refl (same (term j) (term k)) refl;
  filled = w.filled;
}
  where
    cases : (u j : Term) (b : Bool) → same (term u) (term v) ≡ b → (c : Bool) → same (term j) (term k) ≡ c → (if b && c then further_of ms u j + 1 else further_of ms u j) ≡ (if (b && c) && has_pair es u j then further_of ms u j + 1 else further_of ms u j)
    cases u j true e true f = ap (λ b. if b then further_of ms u j + 1 else further_of ms u j) (sym (ap₂ (has_pair es) (one_term u v e) (one_term j k f) ∙ there))
    cases u j true e false f = refl
    cases u j false e c f = refl

pub added_first : (es : List Entry) (ms : List KeyCounts) (v k : Term) → has_pair es v k ≡ false → IsAdded es ms ms (term v) (term k)
added_first es ms v k none = record {
  counts = λ u j. cases u j (same (term u) (term v)) refl (same (term j) (term k)) refl;
  filled = λ f. f;
}
  where
    cases : (u j : Term) (b : Bool) → same (term u) (term v) ≡ b → (c : Bool) → same (term j) (term k) ≡ c → further_of ms u j ≡ (if (b && c) && has_pair es u j then further_of ms u j + 1 else further_of ms u j)
    cases u j true e true f = ap (λ b. if b then further_of ms u j + 1 else further_of ms u j) (sym (ap₂ (has_pair es) (one_term u v e) (one_term j k f) ∙ none))
    cases u j true e false f = refl
    cases u j false e c f = refl
