-- Whether some entry of a map passes: against a look-up, and after a write, an insertion or a removal.
use Rattle.std.proofs.Common.{◌≡◌, List, [], ◌∷◌, Bool, true, false, ◌||◌, ◌&&◌, cond, refl, sym, ap, ◌∙◌, Option, Some, None, Ordering, Less, Equal, Greater}
use Rattle.std.specs.List.{list_any, IsDistinct}
use Rattle.std.specs.Cmp.{IsEquivalence}
use Rattle.std.specs.Ordering.{match_ordering, is_eq}
use Rattle.std.specs.BTreeMap.{is_at, insert_entry}
use Rattle.std.specs.Map.{keys_of, lookup, set_value, remove_entry}
use Rattle.std.proofs.lemmas.Map.{NonePasses}
use Rattle.std.proofs.lemmas.Map.Entries.{none_past_head}
use Rattle.std.proofs.Math.Bool.{or-false, or_assoc}
use Rattle.tab_locks.proofs.Passing.{or_swap}

abbrev pub found_any : {V : Type 0} → (V → Bool) → Option V → Bool
found_any g None = false
found_any g (Some v) = g v

module _ {K V : Type 0} where
  pub same_any : (test : K → Bool) (f g : K × V → Bool) (es : List (K × V)) → NonePasses test es → ((e : K × V) → test e.0 ≡ false → f e ≡ g e) → list_any f es ≡ list_any g es
  same_any test f g [] h others = refl
  same_any test f g (e ∷ es) h others = λ i. others e h.0 i || same_any test f g es h.1 others i

  none_any : (test : K → Bool) (f : K × V → Bool) (es : List (K × V)) → NonePasses test es → ((e : K × V) → test e.0 ≡ false → f e ≡ false) → list_any f es ≡ false
  none_any test f [] h others = refl
  none_any test f (e ∷ es) h others = λ i. others e h.0 i || none_any test f es h.1 others i

  module _ (eq : K → K → Bool) (laws : IsEquivalence eq) (q : K) where
    pub any_found : (f : K × V → Bool) (g : V → Bool) (es : List (K × V)) → IsDistinct eq (keys_of es) → ((e : K × V) → f e ≡ (eq q e.0 && g e.1)) → list_any f es ≡ found_any g (lookup (eq q) es)
    unfolding IsDistinct
    any_found f g [] d h = refl
    any_found f g (e ∷ es) d h = by (eq q e.0) refl (any_found f g es d.1 h)
      where
        by : (b : Bool) → eq q e.0 ≡ b → list_any f es ≡ found_any g (lookup (eq q) es) → list_any f (e ∷ es) ≡ found_any g (cond b (Some e.1) (lookup (eq q) es))
        by true t ih = (λ i. (h e ∙ ap (λ b. b && g e.1) t) i || none_any (eq q) f es (none_past_head laws q e es d t) (λ x n. h x ∙ ap (λ b. b && g x.1) n) i) ∙ or-false (g e.1)
        by false t ih = λ i. (h e ∙ ap (λ b. b && g e.1) t) i || ih i

    pub any_set : (f g : K × V → Bool) (v w : V) (es : List (K × V)) → IsDistinct eq (keys_of es) → lookup (eq q) es ≡ Some v → ((e : K × V) → eq q e.0 ≡ false → f e ≡ g e) → ((k : K) → eq q k ≡ true → f (k, w) ≡ g (k, v)) → list_any f (set_value (eq q) es w) ≡ list_any g es
    unfolding IsDistinct
    any_set f g v w [] d l others there = refl
    any_set f g v w (e ∷ es) d l others there = by (eq q e.0) refl l (λ s. any_set f g v w es d.1 s others there)
      where
        by : (b : Bool) → eq q e.0 ≡ b → cond b (Some e.1) (lookup (eq q) es) ≡ Some v → (lookup (eq q) es ≡ Some v → list_any f (set_value (eq q) es w) ≡ list_any g es) → list_any f (cond b ((e.0, w) ∷ es) (e ∷ set_value (eq q) es w)) ≡ list_any g (e ∷ es)
        by true t s ih = let is : v ≡ e.1 = cc in λ i. (there e.0 t ∙ ap (λ u. g (e.0, u)) is) i || same_any (eq q) f g es (none_past_head laws q e es d t) others i
        by false t s ih = λ i. others e t i || ih s i

  pub any_set_more : (test : K → Bool) (b : Bool) (f : K × V → Bool) (v w : V) (es : List (K × V)) → lookup test es ≡ Some v → ((k : K) → test k ≡ true → f (k, w) ≡ (b || f (k, v))) → list_any f (set_value test es w) ≡ (b || list_any f es)
  any_set_more test b f v w [] l there = absurd cc
  any_set_more test b f v w (e ∷ es) l there = by (test e.0) refl l (λ s. any_set_more test b f v w es s there)
    where
      by : (c : Bool) → test e.0 ≡ c → cond c (Some e.1) (lookup test es) ≡ Some v → (lookup test es ≡ Some v → list_any f (set_value test es w) ≡ (b || list_any f es)) → list_any f (cond c ((e.0, w) ∷ es) (e ∷ set_value test es w)) ≡ (b || list_any f (e ∷ es))
      by true t s ih = let is : v ≡ e.1 = cc in (λ i. (there e.0 t ∙ ap (λ u. b || f (e.0, u)) is) i || list_any f es) ∙ or_assoc b (f e) (list_any f es)
      by false t s ih = (λ i. f e || ih s i) ∙ or_swap (f e) b (list_any f es)

  pub any_insert : (cmp : K → K → Ordering) (f : K × V → Bool) (k : K) (v : V) (es : List (K × V)) → lookup (is_at (cmp k)) es ≡ None → list_any f (insert_entry cmp es k v) ≡ (f (k, v) || list_any f es)
  any_insert cmp f k v [] l = refl
  any_insert cmp f k v (e ∷ es) l = by (cmp k e.0) l (any_insert cmp f k v es)
    where
      by : (o : Ordering) → cond (is_eq o) (Some e.1) (lookup (is_at (cmp k)) es) ≡ None → (lookup (is_at (cmp k)) es ≡ None → list_any f (insert_entry cmp es k v) ≡ (f (k, v) || list_any f es)) → list_any f (match_ordering o ((k, v) ∷ e ∷ es) ((e.0, v) ∷ es) (e ∷ insert_entry cmp es k v)) ≡ (f (k, v) || list_any f (e ∷ es))
      by Less n ih = refl
      by Equal n ih = absurd cc
      by Greater n ih = (λ i. f e || ih n i) ∙ or_swap (f e) (f (k, v)) (list_any f es)

  -- an entry that adds nothing
  pub any_remove : (test : K → Bool) (f : K × V → Bool) (v : V) (es : List (K × V)) → lookup test es ≡ Some v → ((k : K) → test k ≡ true → f (k, v) ≡ false) → list_any f (remove_entry test es) ≡ list_any f es
  any_remove test f v [] l there = refl
  any_remove test f v (e ∷ es) l there = by (test e.0) refl l (λ s. any_remove test f v es s there)
    where
      by : (c : Bool) → test e.0 ≡ c → cond c (Some e.1) (lookup test es) ≡ Some v → (lookup test es ≡ Some v → list_any f (remove_entry test es) ≡ list_any f es) → list_any f (cond c es (e ∷ remove_entry test es)) ≡ list_any f (e ∷ es)
      by true t s ih = let is : v ≡ e.1 = cc in λ i. sym (sym (ap (λ u. f (e.0, u)) is) ∙ there e.0 t) i || list_any f es
      by false t s ih = λ i. f e || ih s i
