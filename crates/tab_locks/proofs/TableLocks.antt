-- The locks of all tables, as one list.
use Rattle.std.proofs.Common.{◌≡◌, ℕ, List, [], Bool, true, false, ◌||◌, ◌&&◌, not, refl, sym, ap, subst, ◌∙◌, Option, Some, None}
use Rattle.std.specs.Prelude.{◌==◌, nat_lt}
use Rattle.std.specs.List.{list_any}
use Rattle.std.specs.List.Sorted.{IsStrictlySortedBy}
use Rattle.std.specs.Str.{bytes_eq}
use Rattle.std.specs.BTreeMap.{is_at, insert_entry}
use Rattle.std.specs.Map.{keys_of, lookup, set_value, remove_entry}
use Rattle.std.proofs.lemmas.Cmp.{nat_list_cmp_total}
use Rattle.std.proofs.lemmas.Slice.Eq.{bytes_eq-Decides}
use Rattle.std.proofs.Math.Bool.{and-true}
use Rattle.tab_term.specs.Same.{bytes_equiv}
use Rattle.tab_term.specs.OrderLaws.{matches_bytes}
use Rattle.tab_model.specs.Locks.{Part, lock, meets, contains}
use Rattle.tab_model.specs.Ages.{Owned}
use Rattle.tab_locks.specs.declared.question.Relation.{Relation}
use Rattle.tab_locks.specs.declared.question.Relation.TheVariants.{Meeting, Opposing, Blocking, Covering}
use Rattle.tab_locks.specs.Questions.{asked, fits, reaches, meets_at}
use Rattle.tab_locks.specs.Members.{HasMore, SameMembers, Drops}
use Rattle.tab_locks.specs.Spots.{Spot, locks_on, locks_in, stands_on, holds_at}
use Rattle.tab_locks.proofs.Passing.{any_same, any_map, any_and}
use Rattle.tab_locks.proofs.Lookups.{found_any}
use Rattle.tab_locks.proofs.PutEntry.{put_found, found_set, without_set, without_missing}
use Rattle.tab_locks.proofs.MapMembers.{more_mapped, same_mapped, dropped_mapped, kept_mapped, spelled_found, spelled_more, spelled_same, spelled_new, spelled_dropped, spelled_kept, spelled_pruned}
use Rattle.tab_term.specs.Order.{bytes_cmp}
use Rattle.tab_model.specs.State.{is_in}

abbrev Entries : Type 0
Entries = List (List ℕ × List Spot)

pub is_table : (t u : List ℕ) → is_at (bytes_cmp t) u ≡ bytes_eq t u
is_table t u = sym (matches_bytes t u)

pub one_table : (t u : List ℕ) → is_at (bytes_cmp t) u ≡ true → t ≡ u
one_table t u h = (bytes_eq-Decides t u).0 (sym (is_table t u) ∙ h)

by_parts : (a b c d : Bool) → (a && (b && (c && d))) ≡ (b && (d && (a && c)))
by_parts true true true true = refl
by_parts true true true false = refl
by_parts true true false true = refl
by_parts true true false false = refl
by_parts true false c d = refl
by_parts false true c true = refl
by_parts false true c false = refl
by_parts false false c d = refl

by_parts_and : (a b c d e : Bool) → ((a && (b && (c && d))) && e) ≡ (b && (d && ((a && c) && e)))
by_parts_and true true true true e = refl
by_parts_and true true true false e = refl
by_parts_and true true false true e = refl
by_parts_and true true false false e = refl
by_parts_and true false c d e = refl
by_parts_and false true c true e = refl
by_parts_and false true c false e = refl
by_parts_and false false c d e = refl

pub asked_by_parts : (r : Relation) (age : ℕ) (write : Bool) (t u : List ℕ) (part : Part) (s : Spot)
    → asked r (age, lock t part write) (s.1.0, lock u s.0 s.1.1) ≡ (bytes_eq t u && (reaches r part s.0 && fits r (age, write) s.1))
asked_by_parts Meeting age write t u part s = ap (λ b. bytes_eq t u && b) (sym (and-true (meets part s.0)))
asked_by_parts Opposing age write t u part s = by_parts (not (s.1.0 == age)) (bytes_eq t u) (write || s.1.1) (meets part s.0)
asked_by_parts Blocking age write t u part s = by_parts_and (not (s.1.0 == age)) (bytes_eq t u) (write || s.1.1) (meets part s.0) (not (nat_lt age s.1.0))
asked_by_parts Covering age write t u part s =
    by_parts (s.1.0 == age) (bytes_eq u t) (s.1.1 || not write) (contains s.0 part)
    ∙ ap (λ b. b && (contains s.0 part && ((s.1.0 == age) && (s.1.1 || not write)))) (bytes_equiv.symm u t)

pub asked_at : (r : Relation) (age : ℕ) (write : Bool) (t : List ℕ) (part : Part) (es : Entries) → IsStrictlySortedBy bytes_cmp (keys_of es)
    → list_any (asked r (age, lock t part write)) (locks_in es) ≡ found_any (list_any (λ s. reaches r part s.0 && fits r (age, write) s.1)) (lookup (is_at (bytes_cmp t)) es)
asked_at r age write t part es s = spelled_found bytes_cmp nat_list_cmp_total locks_on t (asked r (age, lock t part write)) (list_any (λ s. reaches r part s.0 && fits r (age, write) s.1)) es s
    (λ e. any_map (asked r (age, lock t part write)) (λ (z : Spot). (z.1.0, lock e.0 z.0 z.1.1)) e.1
    ∙ any_same (λ z. asked r (age, lock t part write) (z.1.0, lock e.0 z.0 z.1.1)) (λ z. bytes_eq t e.0 && (reaches r part z.0 && fits r (age, write) z.1)) e.1 (asked_by_parts r age write t e.0 part)
    ∙ any_and (bytes_eq t e.0) (λ z. reaches r part z.0 && fits r (age, write) z.1) e.1
    ∙ ap (λ b. b && list_any (λ z. reaches r part z.0 && fits r (age, write) z.1) e.1) (sym (is_table t e.0)))

pub locked_at : (t : List ℕ) (es : Entries) → IsStrictlySortedBy bytes_cmp (keys_of es) → list_any (is_in t) (locks_in es) ≡ found_any (list_any (λ s. true)) (lookup (is_at (bytes_cmp t)) es)
locked_at t es s = any_same (is_in t) (λ x. bytes_eq t (x.1).table) (locks_in es) (λ x. bytes_equiv.symm (x.1).table t)
    ∙ spelled_found bytes_cmp nat_list_cmp_total locks_on t (λ x. bytes_eq t (x.1).table) (list_any (λ s. true)) es s
    (λ e. any_map (λ x. bytes_eq t (x.1).table) (λ (z : Spot). (z.1.0, lock e.0 z.0 z.1.1)) e.1
    ∙ any_same (λ z. bytes_eq t e.0) (λ z. bytes_eq t e.0 && true) e.1 (λ z. sym (and-true (bytes_eq t e.0)))
    ∙ any_and (bytes_eq t e.0) (λ z. true) e.1 ∙ ap (λ b. b && list_any (λ z. true) e.1) (sym (is_table t e.0)))

-- what no one holds a lock on, by the locks of its table
pub free_in : (age : ℕ) (write : Bool) (t : List ℕ) (part : Part) (es : Entries) → IsStrictlySortedBy bytes_cmp (keys_of es)
    → found_any (list_any (λ s. meets part s.0)) (lookup (is_at (bytes_cmp t)) es) ≡ false → list_any (meets_at (age, lock t part write)) (locks_in es) ≡ false
free_in age write t part es s h = asked_at Meeting age write t part es s ∙ by (lookup (is_at (bytes_cmp t)) es) h
  where
    by : (o : Option (List Spot)) → found_any (list_any (λ s. meets part s.0)) o ≡ false → found_any (list_any (λ s. meets part s.0 && true)) o ≡ false
    by None g = refl
    by (Some v) g = any_same (λ s. meets part s.0 && true) (λ s. meets part s.0) v (λ s. and-true (meets part s.0)) ∙ g

pub more_in : (t : List ℕ) (x : Spot) (v w : List Spot) (es new : Entries) → lookup (is_at (bytes_cmp t)) es ≡ Some v → new ≡ set_value (is_at (bytes_cmp t)) es w
    → HasMore x v w → HasMore (x.1.0, lock t x.0 x.1.1) (locks_in es) (locks_in new)
more_in t x v w es new l is h = spelled_more bytes_cmp nat_list_cmp_total locks_on t (x.1.0, lock t x.0 x.1.1) v w es new l is
    (λ u e. let P = λ (y : Owned). HasMore y (locks_on u v) (locks_on u w) in subst P (λ i. (x.1.0, lock (sym (one_table t u e) i) x.0 x.1.1)) (more_mapped (λ (s : Spot). (s.1.0, lock u s.0 s.1.1)) x v w h))

pub same_in : (t : List ℕ) (v w : List Spot) (es new : Entries) → lookup (is_at (bytes_cmp t)) es ≡ Some v → new ≡ set_value (is_at (bytes_cmp t)) es w → SameMembers v w → SameMembers (locks_in es) (locks_in new)
same_in t v w es new l is h = spelled_same bytes_cmp nat_list_cmp_total locks_on t v w es new l is (λ u. same_mapped (λ (s : Spot). (s.1.0, lock u s.0 s.1.1)) v w h)

pub new_in : (t u : List ℕ) (x : Spot) (v : List Spot) (es new : Entries) → u ≡ t → lookup (is_at (bytes_cmp t)) es ≡ None → new ≡ insert_entry bytes_cmp es u v
    → HasMore x [] v → HasMore (x.1.0, lock t x.0 x.1.1) (locks_in es) (locks_in new)
new_in t u x v es new e l is h = spelled_new bytes_cmp nat_list_cmp_total locks_on t (x.1.0, lock t x.0 x.1.1) v es new l (is ∙ ap (λ z. insert_entry bytes_cmp es z v) e) (more_mapped (λ (s : Spot). (s.1.0, lock t s.0 s.1.1)) x [] v h)

others_stay : (age : ℕ) (t : List ℕ) (part : Part) (write : Bool) (e : List ℕ × List Spot) → is_at (bytes_cmp t) e.0 ≡ false → Drops (holds_at age (lock t part write)) (locks_on e.0 e.1) (locks_on e.0 e.1)
others_stay age t part write e n = kept_mapped (λ (s : Spot). (s.1.0, lock e.0 s.0 s.1.1)) (holds_at age (lock t part write)) e.1 (λ s. ap (λ b. b && stands_on part (age, write) s) (sym (is_table t e.0) ∙ n))

pub dropped_in : (age : ℕ) (t : List ℕ) (part : Part) (write : Bool) (v w : List Spot) (es new : Entries) → IsStrictlySortedBy bytes_cmp (keys_of es) → lookup (is_at (bytes_cmp t)) es ≡ Some v → new ≡ set_value (is_at (bytes_cmp t)) es w
    → Drops (stands_on part (age, write)) v w → Drops (holds_at age (lock t part write)) (locks_in es) (locks_in new)
dropped_in age t part write v w es new s l is h = spelled_dropped bytes_cmp nat_list_cmp_total locks_on t (holds_at age (lock t part write)) v w es new s l is
    (λ u e. dropped_mapped (λ (z : Spot). (z.1.0, lock u z.0 z.1.1)) (holds_at age (lock t part write)) (stands_on part (age, write)) v w h (λ z. ap (λ b. b && stands_on part (age, write) z) (sym (is_table t u) ∙ e)))
    (others_stay age t part write)

pub none_in : (age : ℕ) (t : List ℕ) (part : Part) (write : Bool) (es : Entries) → lookup (is_at (bytes_cmp t)) es ≡ None → Drops (holds_at age (lock t part write)) (locks_in es) (locks_in es)
none_in age t part write es l = spelled_kept bytes_cmp nat_list_cmp_total locks_on t (holds_at age (lock t part write)) es l (others_stay age t part write)

pub pruned_in : (t : List ℕ) (es new : Entries) → lookup (is_at (bytes_cmp t)) es ≡ Some [] → new ≡ remove_entry (is_at (bytes_cmp t)) es → SameMembers (locks_in es) (locks_in new)
pruned_in t es new l is = spelled_pruned bytes_cmp nat_list_cmp_total locks_on t [] es new l is (λ u. refl)

-- what is put at a table that is there, and what is left where its last lock goes
pub dropped_put : (age : ℕ) (t : List ℕ) (part : Part) (write : Bool) (v w : List Spot) (es new : Entries) → IsStrictlySortedBy bytes_cmp (keys_of es) → lookup (is_at (bytes_cmp t)) es ≡ Some v → new ≡ insert_entry bytes_cmp es t w
    → Drops (stands_on part (age, write)) v w → Drops (holds_at age (lock t part write)) (locks_in es) (locks_in new)
dropped_put age t part write v w es new s l is h = dropped_in age t part write v w es new s l (is ∙ put_found bytes_cmp nat_list_cmp_total t v w es s l) h

pub dropped_last : (age : ℕ) (t : List ℕ) (part : Part) (write : Bool) (v w : List Spot) (es new : Entries) → IsStrictlySortedBy bytes_cmp (keys_of es) → lookup (is_at (bytes_cmp t)) es ≡ Some v → w ≡ [] → new ≡ remove_entry (is_at (bytes_cmp t)) es
    → Drops (stands_on part (age, write)) v w → Drops (holds_at age (lock t part write)) (locks_in es) (locks_in new)
dropped_last age t part write v w es new s l bare is h =
    let at = is_at (bytes_cmp t) in
    λ p. pruned_in t (set_value at es w) new (found_set at v w es l ∙ ap Some bare) (is ∙ sym (without_set at w es)) p ∙ dropped_in age t part write v w es (set_value at es w) s l refl h p

pub dropped_none : (age : ℕ) (t : List ℕ) (part : Part) (write : Bool) (es new : Entries) → lookup (is_at (bytes_cmp t)) es ≡ None → new ≡ remove_entry (is_at (bytes_cmp t)) es → Drops (holds_at age (lock t part write)) (locks_in es) (locks_in new)
dropped_none age t part write es new l is = subst (λ (fs : Entries). Drops (holds_at age (lock t part write)) (locks_in es) (locks_in fs)) {x = es} {y = new} (sym (is ∙ without_missing (is_at (bytes_cmp t)) es l)) (none_in age t part write es l)
