-- What the parts of a map are seen as.
use Rattle.std.specs.Prelude.{◌≤◌, List, [], ◌∷◌, ◌++◌, Option, None, Some, length, map}
use Rattle.std.specs.declared.cmp.Ordering.{Ordering}
use Rattle.tab_map.specs.Entries.{entries_above}
use Rattle.tab_map.specs.declared.Branch.{Branch}
use Rattle.tab_map.specs.declared.Node.{Node as NodeOf}
use Rattle.tab_map.specs.declared.Tree.{Tree}
use Rattle.tab_map.specs.declared.Tree.TheVariants.{Empty, Leaf, Node}

-- the entries of branches and of what is below them, then those of the last child, in order
abbrev pub spread : {K V : Type 0} → List (Branch K V) → List (K × V) → List (K × V)
spread [] last = last
spread (b ∷ bs) last = b.below ++ b.entry ∷ spread bs last

-- the entries of a node, in order
abbrev pub node_entries : {K V : Type 0} → NodeOf K V → List (K × V)
node_entries n = spread n.branches.items n.last

-- the entries that stand between the children of a node
abbrev pub separators : {K V : Type 0} → List (Branch K V) → List (K × V)
separators bs = map (λ b. b.entry) bs

-- the entries of a B-tree, in order
abbrev pub entries : {K V : Type 0} → Tree K V → List (K × V)
entries Empty = []
entries (Leaf c) = c.value.items
entries (Node n) = node_entries n.value

-- a node has a branch
abbrev pub HasBranch : {K V : Type 0} → Tree K V → Type 0
HasBranch Empty = Unit {0}
HasBranch (Leaf c) = Unit {0}
HasBranch (Node n) = 1 ≤ length n.value.branches.items

-- what an iterator over es has left, whose next entry is given
abbrev pub entries_left : {K V : Type 0} → (K → K → Ordering) → List (K × V) → Option (K × V) → List (K × V)
entries_left cmp es None = []
entries_left cmp es (Some e) = e ∷ entries_above cmp e.0 es
