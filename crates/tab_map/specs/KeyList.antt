-- A set as the list of its keys in their order.
use Rattle.std.specs.Prelude.{◌≡◌, Bool, true, false, List, [], ◌∷◌, map}
use Rattle.std.specs.declared.cmp.Ordering.{Ordering}
use Rattle.std.specs.declared.cmp.Ordering.TheVariants.{Less}
use Rattle.std.specs.Ordering.{match_ordering}

-- the keys of a map's entries
abbrev pub keys : {K V : Type 0} → List (K × V) → List K
keys es = map (λ e. e.0) es

-- whether a key is equal to k
abbrev pub contains_key : {K : Type 0} → (K → K → Ordering) → K → List K → Bool
contains_key cmp k [] = false
contains_key cmp k (q ∷ qs) = match_ordering (cmp k q) false true (contains_key cmp k qs)

-- the keys with k at its place, in the place of an equal one
abbrev pub insert_key : {K : Type 0} → (K → K → Ordering) → K → List K → List K
insert_key cmp k [] = k ∷ []
insert_key cmp k (q ∷ qs) = match_ordering (cmp k q) (k ∷ q ∷ qs) (k ∷ qs) (q ∷ insert_key cmp k qs)

-- the keys without the one that is equal to k
abbrev pub remove_key : {K : Type 0} → (K → K → Ordering) → K → List K → List K
remove_key cmp k [] = []
remove_key cmp k (q ∷ qs) = match_ordering (cmp k q) (q ∷ qs) qs (q ∷ remove_key cmp k qs)

-- each key is above k
abbrev pub AllKeysAbove : {K : Type 0} → (K → K → Ordering) → K → List K → Type 0
AllKeysAbove cmp k [] = Unit {0}
AllKeysAbove cmp k (q ∷ qs) = (cmp k q ≡ Less) × AllKeysAbove cmp k qs

-- the keys ascend, so no two are equal
abbrev pub KeysAscend : {K : Type 0} → (K → K → Ordering) → List K → Type 0
KeysAscend cmp [] = Unit {0}
KeysAscend cmp (q ∷ qs) = AllKeysAbove cmp q qs × KeysAscend cmp qs
