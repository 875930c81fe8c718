-- A key of a map: what is put at it, and what is left without it.
use Rattle.std.proofs.Common.{◌≡◌, List, [], ◌∷◌, Bool, true, false, cond, refl, sym, ap, ◌∙◌, Some, None, Ordering, Less, Equal, Greater}
use Rattle.std.specs.Cmp.{IsTotalOrder, eq_by_cmp_equiv}
use Rattle.std.specs.List.Sorted.{IsStrictlySortedBy}
use Rattle.std.specs.Ordering.{match_ordering, is_eq}
use Rattle.std.specs.BTreeMap.{is_at, insert_entry}
use Rattle.std.specs.Map.{keys_of, lookup, set_value, remove_entry}
use Rattle.std.proofs.lemmas.Map.{lookup-none}
use Rattle.std.proofs.lemmas.Map.Entries.{none_below_head}
use Rattle.std.proofs.lemmas.Map.Keys.{sorted_tail}

itself : {K : Type 0} (cmp : K → K → Ordering) → IsTotalOrder cmp → (k : K) → is_at (cmp k) k ≡ true
itself cmp o k = (eq_by_cmp_equiv o).refl k

module _ {K V : Type 0} where
  -- it takes the place of what the key had
  pub put_found : (cmp : K → K → Ordering) → IsTotalOrder cmp → (k : K) (v w : V) (es : List (K × V)) → IsStrictlySortedBy cmp (keys_of es) → lookup (is_at (cmp k)) es ≡ Some v → insert_entry cmp es k w ≡ set_value (is_at (cmp k)) es w
  put_found cmp o k v w [] s l = absurd cc
  put_found cmp o k v w (e ∷ es) s l = by (cmp k e.0) refl l (put_found cmp o k v w es (sorted_tail cmp e.0 (keys_of es) s))
    where
      by : (r : Ordering) → cmp k e.0 ≡ r → cond (is_eq r) (Some e.1) (lookup (is_at (cmp k)) es) ≡ Some v → (lookup (is_at (cmp k)) es ≡ Some v → insert_entry cmp es k w ≡ set_value (is_at (cmp k)) es w)
          → match_ordering r ((k, w) ∷ e ∷ es) ((e.0, w) ∷ es) (e ∷ insert_entry cmp es k w) ≡ cond (is_eq r) ((e.0, w) ∷ es) (e ∷ set_value (is_at (cmp k)) es w)
      by Less p n ih = let none = sym (lookup-none (is_at (cmp k)) es (none_below_head o k e es s p).1) ∙ n in absurd cc
      by Equal p n ih = refl
      by Greater p n ih = ap (λ fs. e ∷ fs) (ih n)

  pub found_set : (test : K → Bool) (v w : V) (es : List (K × V)) → lookup test es ≡ Some v → lookup test (set_value test es w) ≡ Some w
  found_set test v w [] l = absurd cc
  found_set test v w (e ∷ es) l = by (test e.0) refl l (found_set test v w es)
    where
      by : (b : Bool) → test e.0 ≡ b → cond b (Some e.1) (lookup test es) ≡ Some v → (lookup test es ≡ Some v → lookup test (set_value test es w) ≡ Some w) → lookup test (cond b ((e.0, w) ∷ es) (e ∷ set_value test es w)) ≡ Some w
      by true t n ih = ap (λ b. cond b (Some w) (lookup test es)) t
      by false t n ih = ap (λ b. cond b (Some e.1) (lookup test (set_value test es w))) t ∙ ih n

  pub without_set : (test : K → Bool) (w : V) (es : List (K × V)) → remove_entry test (set_value test es w) ≡ remove_entry test es
  without_set test w [] = refl
  without_set test w (e ∷ es) = by (test e.0) refl (without_set test w es)
    where
      by : (b : Bool) → test e.0 ≡ b → remove_entry test (set_value test es w) ≡ remove_entry test es → remove_entry test (cond b ((e.0, w) ∷ es) (e ∷ set_value test es w)) ≡ cond b es (e ∷ remove_entry test es)
      by true t ih = ap (λ b. cond b es ((e.0, w) ∷ remove_entry test es)) t
      by false t ih = ap (λ b. cond b (set_value test es w) (e ∷ remove_entry test (set_value test es w))) t ∙ ap (λ fs. e ∷ fs) ih

  -- a key that is not there leaves all as it was
  pub without_missing : (test : K → Bool) (es : List (K × V)) → lookup test es ≡ None → remove_entry test es ≡ es
  without_missing test [] l = refl
  without_missing test (e ∷ es) l = by (test e.0) l (without_missing test es)
    where
      by : (b : Bool) → cond b (Some e.1) (lookup test es) ≡ None → (lookup test es ≡ None → remove_entry test es ≡ es) → cond b es (e ∷ remove_entry test es) ≡ e ∷ es
      by true n ih = absurd cc
      by false n ih = ap (λ fs. e ∷ fs) (ih n)

  -- what was put is there, and what is put again takes its place
  module _ (cmp : K → K → Ordering) (o : IsTotalOrder cmp) (k : K) where
    pub put_there : (v : V) (es : List (K × V)) → lookup (is_at (cmp k)) (insert_entry cmp es k v) ≡ Some v
    put_there v [] = ap (λ b. cond b (Some v) None) (itself cmp o k)
    put_there v (e ∷ es) = by (cmp k e.0) refl (put_there v es)
      where
        by : (r : Ordering) → cmp k e.0 ≡ r → lookup (is_at (cmp k)) (insert_entry cmp es k v) ≡ Some v → lookup (is_at (cmp k)) (match_ordering r ((k, v) ∷ e ∷ es) ((e.0, v) ∷ es) (e ∷ insert_entry cmp es k v)) ≡ Some v
        by Less p ih = ap (λ b. cond b (Some v) (lookup (is_at (cmp k)) (e ∷ es))) (itself cmp o k)
        by Equal p ih = ap (λ r. cond (is_eq r) (Some v) (lookup (is_at (cmp k)) es)) p
        by Greater p ih = ap (λ r. cond (is_eq r) (Some e.1) (lookup (is_at (cmp k)) (insert_entry cmp es k v))) p ∙ ih

    pub put_again : (v w : V) (es : List (K × V)) → insert_entry cmp es k w ≡ set_value (is_at (cmp k)) (insert_entry cmp es k v) w
    put_again v w [] = sym (ap (λ b. cond b ((k, w) ∷ []) ((k, v) ∷ [])) (itself cmp o k))
    put_again v w (e ∷ es) = by (cmp k e.0) refl (put_again v w es)
      where
        by : (r : Ordering) → cmp k e.0 ≡ r → insert_entry cmp es k w ≡ set_value (is_at (cmp k)) (insert_entry cmp es k v) w
            → match_ordering r ((k, w) ∷ e ∷ es) ((e.0, w) ∷ es) (e ∷ insert_entry cmp es k w) ≡ set_value (is_at (cmp k)) (match_ordering r ((k, v) ∷ e ∷ es) ((e.0, v) ∷ es) (e ∷ insert_entry cmp es k v)) w
        by Less p ih = sym (ap (λ b. cond b ((k, w) ∷ e ∷ es) ((k, v) ∷ set_value (is_at (cmp k)) (e ∷ es) w)) (itself cmp o k))
        by Equal p ih = sym (ap (λ r. cond (is_eq r) ((e.0, w) ∷ es) ((e.0, v) ∷ set_value (is_at (cmp k)) es w)) p)
        by Greater p ih = ap (λ fs. e ∷ fs) ih ∙ sym (ap (λ r. cond (is_eq r) ((e.0, w) ∷ insert_entry cmp es k v) (e ∷ set_value (is_at (cmp k)) (insert_entry cmp es k v) w)) p)
