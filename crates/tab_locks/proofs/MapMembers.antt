-- A map whose entries are spelled out as one list, compared by its members: after a write, an insertion or a removal.
use Rattle.std.proofs.Common.{◌≡◌, List, [], Bool, true, false, ◌||◌, ◌&&◌, not, refl, sym, ap, ◌∙◌, Some, None, Ordering}
use Rattle.std.specs.Prelude.{map}
use Rattle.std.specs.List.{list_any, flat_map}
use Rattle.std.specs.List.Sorted.{IsStrictlySortedBy}
use Rattle.std.specs.Cmp.{IsTotalOrder, eq_by_cmp_equiv}
use Rattle.std.specs.Ordering.{eq_by_cmp}
use Rattle.std.specs.BTreeMap.{is_at, insert_entry}
use Rattle.std.specs.Map.{keys_of, lookup, set_value, remove_entry}
use Rattle.std.proofs.lemmas.Map.{none_passes_from_lookup}
use Rattle.std.proofs.lemmas.Map.Keys.{IsDistinct-from_sorted}
use Rattle.std.proofs.Math.Bool.{and-true}
use Rattle.tab_locks.specs.Members.{HasMore, SameMembers, Drops}
use Rattle.tab_locks.proofs.Passing.{any_same, any_map, any_flat_map}
use Rattle.tab_locks.proofs.Lookups.{found_any, same_any, any_found, any_set, any_set_more, any_insert, any_remove}

-- each member written in another way
module _ {X Y : Type 0} (f : X → Y) where
  pub more_mapped : (x : X) (old new : List X) → HasMore x old new → HasMore (f x) (map f old) (map f new)
  more_mapped x old new h = λ p. any_map p f new ∙ h (λ y. p (f y)) ∙ (λ i. p (f x) || sym (any_map p f old) i)

  pub same_mapped : (old new : List X) → SameMembers old new → SameMembers (map f old) (map f new)
  same_mapped old new h = λ p. any_map p f new ∙ h (λ y. p (f y)) ∙ sym (any_map p f old)

  pub dropped_mapped : (gone : Y → Bool) (left : X → Bool) (old new : List X) → Drops left old new → ((x : X) → gone (f x) ≡ left x) → Drops gone (map f old) (map f new)
  dropped_mapped gone left old new h is = λ p.
      any_map p f new ∙ h (λ y. p (f y)) ∙ any_same (λ x. p (f x) && not (left x)) (λ x. p (f x) && not (gone (f x))) old (λ x i. p (f x) && not (sym (is x) i))
      ∙ sym (any_map (λ y. p y && not (gone y)) f old)

  pub kept_mapped : (gone : Y → Bool) (xs : List X) → ((x : X) → gone (f x) ≡ false) → Drops gone (map f xs) (map f xs)
  kept_mapped gone xs is = λ p.
      any_map p f xs ∙ any_same (λ x. p (f x)) (λ x. p (f x) && not (gone (f x))) xs (λ x. sym (ap (λ b. p (f x) && not b) (is x) ∙ and-true (p (f x))))
      ∙ sym (any_map (λ y. p y && not (gone y)) f xs)

module _ {K V X : Type 0} (cmp : K → K → Ordering) (o : IsTotalOrder cmp) (spell : K → V → List X) (q : K) where
  abbrev pub spelled : List (K × V) → List X
  spelled es = flat_map (λ e. spell e.0 e.1) es

  any_spelled : (p : X → Bool) (es : List (K × V)) → list_any p (spelled es) ≡ list_any (λ e. list_any p (spell e.0 e.1)) es
  any_spelled p es = any_flat_map p (λ e. spell e.0 e.1) es

  pub spelled_found : (p : X → Bool) (g : V → Bool) (es : List (K × V)) → IsStrictlySortedBy cmp (keys_of es)
      → ((e : K × V) → list_any p (spell e.0 e.1) ≡ (eq_by_cmp cmp q e.0 && g e.1)) → list_any p (spelled es) ≡ found_any g (lookup (is_at (cmp q)) es)
  spelled_found p g es s h = any_spelled p es ∙ any_found (eq_by_cmp cmp) (eq_by_cmp_equiv o) q (λ e. list_any p (spell e.0 e.1)) g es (IsDistinct-from_sorted cmp (keys_of es) s) h

  pub spelled_more : (x : X) (v w : V) (es new : List (K × V)) → lookup (is_at (cmp q)) es ≡ Some v → new ≡ set_value (is_at (cmp q)) es w
      → ((k : K) → is_at (cmp q) k ≡ true → HasMore x (spell k v) (spell k w)) → HasMore x (spelled es) (spelled new)
  spelled_more x v w es new l is h = λ p.
      any_spelled p new ∙ ap (list_any (λ e. list_any p (spell e.0 e.1))) is
      ∙ any_set_more (is_at (cmp q)) (p x) (λ e. list_any p (spell e.0 e.1)) v w es l (λ k t. h k t p)
      ∙ (λ i. p x || sym (any_spelled p es) i)

  pub spelled_same : (v w : V) (es new : List (K × V)) → lookup (is_at (cmp q)) es ≡ Some v → new ≡ set_value (is_at (cmp q)) es w
      → ((k : K) → SameMembers (spell k v) (spell k w)) → SameMembers (spelled es) (spelled new)
  spelled_same v w es new l is h = λ p.
      any_spelled p new ∙ ap (list_any (λ e. list_any p (spell e.0 e.1))) is
      ∙ any_set_more (is_at (cmp q)) false (λ e. list_any p (spell e.0 e.1)) v w es l (λ k t. h k p)
      ∙ sym (any_spelled p es)

  pub spelled_new : (x : X) (v : V) (es new : List (K × V)) → lookup (is_at (cmp q)) es ≡ None → new ≡ insert_entry cmp es q v
      → HasMore x [] (spell q v) → HasMore x (spelled es) (spelled new)
  spelled_new x v es new l is h = λ p.
      any_spelled p new ∙ ap (list_any (λ e. list_any p (spell e.0 e.1))) is
      ∙ any_insert cmp (λ e. list_any p (spell e.0 e.1)) q v es l
      ∙ (λ i. (h p ∙ or_none (p x)) i || sym (any_spelled p es) i)
    where
      or_none : (b : Bool) → (b || false) ≡ b
      or_none true = refl
      or_none false = refl

  pub spelled_dropped : (gone : X → Bool) (v w : V) (es new : List (K × V)) → IsStrictlySortedBy cmp (keys_of es) → lookup (is_at (cmp q)) es ≡ Some v → new ≡ set_value (is_at (cmp q)) es w
      → ((k : K) → is_at (cmp q) k ≡ true → Drops gone (spell k v) (spell k w))
      → ((e : K × V) → is_at (cmp q) e.0 ≡ false → Drops gone (spell e.0 e.1) (spell e.0 e.1)) → Drops gone (spelled es) (spelled new)
  spelled_dropped gone v w es new s l is there others = λ p.
      any_spelled p new ∙ ap (list_any (λ e. list_any p (spell e.0 e.1))) is
      ∙ any_set (eq_by_cmp cmp) (eq_by_cmp_equiv o) q (λ e. list_any p (spell e.0 e.1)) (λ e. list_any (λ x. p x && not (gone x)) (spell e.0 e.1)) v w es (IsDistinct-from_sorted cmp (keys_of es) s) l
      (λ e n. others e n p) (λ k t. there k t p)
      ∙ sym (any_spelled (λ x. p x && not (gone x)) es)

  pub spelled_kept : (gone : X → Bool) (es : List (K × V)) → lookup (is_at (cmp q)) es ≡ None
      → ((e : K × V) → is_at (cmp q) e.0 ≡ false → Drops gone (spell e.0 e.1) (spell e.0 e.1)) → Drops gone (spelled es) (spelled es)
  spelled_kept gone es l others = λ p.
      any_spelled p es
      ∙ same_any (is_at (cmp q)) (λ e. list_any p (spell e.0 e.1)) (λ e. list_any (λ x. p x && not (gone x)) (spell e.0 e.1)) es (none_passes_from_lookup (is_at (cmp q)) es l) (λ e n. others e n p)
      ∙ sym (any_spelled (λ x. p x && not (gone x)) es)

  pub spelled_pruned : (v : V) (es new : List (K × V)) → lookup (is_at (cmp q)) es ≡ Some v → new ≡ remove_entry (is_at (cmp q)) es → ((k : K) → spell k v ≡ []) → SameMembers (spelled es) (spelled new)
  spelled_pruned v es new l is bare = λ p.
      any_spelled p new ∙ ap (list_any (λ e. list_any p (spell e.0 e.1))) is
      ∙ any_remove (is_at (cmp q)) (λ e. list_any p (spell e.0 e.1)) v es l (λ k t. ap (list_any p) (bare k))
      ∙ sym (any_spelled p es)
