-- A value that is changed where it stands.
use Rattle.std.specs.Prelude.{List, Option, None, Some}
use Rattle.std.specs.declared.cmp.Ordering.{Ordering}
use Rattle.tab_map.specs.Entries.{lookup, insert_entry}

-- the entries with f of this value at k; the same entries where there is no value
abbrev pub revised_as : {K V : Type 0} → (K → K → Ordering) → (V → V) → K → List (K × V) → Option V → List (K × V)
revised_as cmp f k es None = es
revised_as cmp f k es (Some v) = insert_entry cmp (k, f v) es

-- the entries with f of the value at k in its place; the same entries where none stands there
abbrev pub revised_at : {K V : Type 0} → (K → K → Ordering) → (V → V) → K → List (K × V) → List (K × V)
revised_at cmp f k es = revised_as cmp f k es (lookup cmp k es)
