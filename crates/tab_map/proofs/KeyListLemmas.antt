-- What an operation on entries does to their keys.
use Rattle.std.proofs.Common.{◌≡◌, List, [], ◌∷◌, refl, ap, None, Some, false, true}
use Rattle.std.specs.Prelude.{is_some}
use Rattle.std.specs.declared.cmp.Ordering.{Ordering}
use Rattle.std.specs.declared.cmp.Ordering.TheVariants.{Less, Equal, Greater}
use Rattle.std.specs.Ordering.{match_ordering}
use Rattle.tab_map.specs.Entries.{lookup, insert_entry, remove_entry, AllAbove, Ascends}
use Rattle.tab_map.specs.KeyList.{keys, contains_key, insert_key, remove_key, AllKeysAbove, KeysAscend}

pub no_keys : {K V : Type 0} (es : List (K × V)) → keys es ≡ [] → es ≡ []
no_keys [] p = refl
no_keys (e ∷ es) p = cc

module _ {K V : Type 0} (cmp : K → K → Ordering) where
  pub keys_lookup : (k : K) (es : List (K × V)) → is_some (lookup cmp k es) ≡ contains_key cmp k (keys es)
  keys_lookup k [] = refl
  keys_lookup k (e ∷ es) =
      elim (cmp k e.0) as (λ d. is_some (match_ordering d None (Some e.1) (lookup cmp k es)) ≡ match_ordering d false true (contains_key cmp k (keys es))) [
        | Less ↦ refl
        | Equal ↦ refl
        | Greater ↦ keys_lookup k es
      ]

  pub keys_insert : (x : K × V) (es : List (K × V)) → keys (insert_entry cmp x es) ≡ insert_key cmp x.0 (keys es)
  keys_insert x [] = refl
  keys_insert x (e ∷ es) =
      elim (cmp x.0 e.0) as (λ d. keys (match_ordering d (x ∷ e ∷ es) (x ∷ es) (e ∷ insert_entry cmp x es)) ≡ match_ordering d (x.0 ∷ e.0 ∷ keys es) (x.0 ∷ keys es) (e.0 ∷ insert_key cmp x.0 (keys es))) [
        | Less ↦ refl
        | Equal ↦ refl
        | Greater ↦ ap (λ z. e.0 ∷ z) (keys_insert x es)
      ]

  pub keys_remove : (k : K) (es : List (K × V)) → keys (remove_entry cmp k es) ≡ remove_key cmp k (keys es)
  keys_remove k [] = refl
  keys_remove k (e ∷ es) =
      elim (cmp k e.0) as (λ d. keys (match_ordering d (e ∷ es) es (e ∷ remove_entry cmp k es)) ≡ match_ordering d (e.0 ∷ keys es) (keys es) (e.0 ∷ remove_key cmp k (keys es))) [
        | Less ↦ refl
        | Equal ↦ refl
        | Greater ↦ ap (λ z. e.0 ∷ z) (keys_remove k es)
      ]

  keys_above : (k : K) (es : List (K × V)) → AllAbove cmp k es → AllKeysAbove cmp k (keys es)
  keys_above k [] a = tt
  keys_above k (e ∷ es) a = (a.0, keys_above k es a.1)

  pub keys_ascend : (es : List (K × V)) → Ascends cmp es → KeysAscend cmp (keys es)
  keys_ascend [] s = tt
  keys_ascend (e ∷ es) s = (keys_above e.0 es s.0, keys_ascend es s.1)
