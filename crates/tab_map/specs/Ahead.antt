-- What a walk over entries has ahead.
use Rattle.std.specs.Prelude.{◌≡◌, ◌≤◌, List, [], ◌∷◌, ◌++◌, Option, None, Some, length, slice_get}
use Rattle.tab_map.specs.declared.Branch.{Branch}
use Rattle.tab_map.specs.declared.ahead.Ahead.{Ahead}
use Rattle.tab_map.specs.declared.ahead.Siblings.{Siblings}
use Rattle.tab_map.specs.InOrder.{spread}

-- the entries of a node from the first of these branches on, without what is below that branch
abbrev pub behind : {K V : Type 0} → List (Branch K V) → List (K × V) → List (K × V)
behind [] last = []
behind (b ∷ bs) last = b.entry ∷ spread bs last

-- the entries that are known to come behind a row
abbrev pub behind_row : {K V : Type 0} → Option (Siblings K V) → List (K × V)
behind_row None = []
behind_row (Some s) = behind s.branches.now s.last.now

-- the entries that are known to be ahead
abbrev pub known : {K V : Type 0} → Ahead K V → List (K × V)
known a = a.row.now ++ behind_row a.node

-- the entry that comes next
abbrev pub first_known : {K V : Type 0} → Ahead K V → Option (K × V)
first_known a = slice_get (known a) 0

-- es are the known entries, and more where those stand in a node
abbrev pub BeginAs : {K V : Type 0} → Option (Siblings K V) → List (K × V) → List (K × V) → Type 0
BeginAs None l es = es ≡ l
BeginAs {K} {V} (Some s) l es = (more : List (K × V)) × (es ≡ l ++ more)

-- an entry is known, where more may come
abbrev pub HasNext : {K V : Type 0} → Option (Siblings K V) → List (K × V) → Type 0
HasNext None l = Unit {0}
HasNext (Some s) l = 1 ≤ length l

-- the entries es are ahead, of which maybe none is known
abbrev pub MayBeAhead : {K V : Type 0} → Ahead K V → List (K × V) → Type 0
MayBeAhead a es = BeginAs a.node (known a) es

-- the entries es are ahead, and the next is known
abbrev pub AreAhead : {K V : Type 0} → Ahead K V → List (K × V) → Type 0
AreAhead a es = MayBeAhead a es × HasNext a.node (known a)

-- a step from es gives their first entry, and leaves the others ahead; at their end it leaves all as it is
abbrev pub Steps : {K V : Type 0} → Option (K × V) → Ahead K V → List (K × V) → Type 0
Steps None a es = (es ≡ []) × AreAhead a es
Steps {K} {V} (Some e) a es = (rest : List (K × V)) × ((es ≡ e ∷ rest) × MayBeAhead a rest)
