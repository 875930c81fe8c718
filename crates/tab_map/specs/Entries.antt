-- A map as the list of its entries, each a key and its value, in the order of their keys: the finite map of the field, by `K.cmp`.
use Rattle.std.specs.Prelude.{◌≡◌, List, [], ◌∷◌, Option, None, Some}
use Rattle.std.specs.declared.cmp.Ordering.{Ordering}
use Rattle.std.specs.declared.cmp.Ordering.TheVariants.{Less}
use Rattle.std.specs.Ordering.{match_ordering}

-- the value of the entry whose key is equal to k
abbrev pub lookup : {K V : Type 0} → (K → K → Ordering) → K → List (K × V) → Option V
lookup cmp k [] = None
lookup cmp k (e ∷ es) = match_ordering (cmp k e.0) None (Some e.1) (lookup cmp k es)

-- the entries with x at its key: in the place of the entry whose key is equal, or where the order wants a new one
abbrev pub insert_entry : {K V : Type 0} → (K → K → Ordering) → K × V → List (K × V) → List (K × V)
insert_entry cmp x [] = x ∷ []
insert_entry cmp x (e ∷ es) = match_ordering (cmp x.0 e.0) (x ∷ e ∷ es) (x ∷ es) (e ∷ insert_entry cmp x es)

-- the entries without the one whose key is equal to k
abbrev pub remove_entry : {K V : Type 0} → (K → K → Ordering) → K → List (K × V) → List (K × V)
remove_entry cmp k [] = []
remove_entry cmp k (e ∷ es) = match_ordering (cmp k e.0) (e ∷ es) es (e ∷ remove_entry cmp k es)

-- the entries whose keys are above k
abbrev pub entries_above : {K V : Type 0} → (K → K → Ordering) → K → List (K × V) → List (K × V)
entries_above cmp k [] = []
entries_above cmp k (e ∷ es) = match_ordering (cmp k e.0) (e ∷ es) es (entries_above cmp k es)

-- each entry's key is above k
abbrev pub AllAbove : {K V : Type 0} → (K → K → Ordering) → K → List (K × V) → Type 0
AllAbove cmp k [] = Unit {0}
AllAbove cmp k (e ∷ es) = (cmp k e.0 ≡ Less) × AllAbove cmp k es

-- the keys ascend, so no two are equal
abbrev pub Ascends : {K V : Type 0} → (K → K → Ordering) → List (K × V) → Type 0
Ascends cmp [] = Unit {0}
Ascends cmp (e ∷ es) = AllAbove cmp e.0 es × Ascends cmp es
