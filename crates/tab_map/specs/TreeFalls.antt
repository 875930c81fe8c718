-- Each child of a node has fewer entries than the node.
use Rattle.std.specs.Prelude.{◌≤◌, ◌+◌, List, [], ◌∷◌, length, max}
use Rattle.std.proofs.Common.{arith, length-append}
use denote.Param.Weighed.{most}
use Rattle.tab_key.specs.declared.Abbreviate as abbreviate
use Rattle.std.specs.declared.cmp.Ord as ord
use Rattle.std.specs.declared.cmp.PartialEq as partial_eq
use Rattle.std.specs.declared.cmp.PartialOrd as partial_ord
use Rattle.tab_map.specs.declared.Branch.{Branch}
use Rattle.tab_map.specs.declared.Tree.{Tree}
use Rattle.tab_map.specs.declared.Tree.TheVariants.{Empty, Leaf, Node}
use Rattle.tab_map.specs.declared.Map.TheDeep.{deep-Tree, deep-Branch}
use Rattle.tab_map.specs.InOrder.{spread, entries, HasBranch}

module _ {K V : Type 0} (a : abbreviate.Ghosts K) (o : ord.Ghosts K) (e : partial_eq.Ghosts K) (p : partial_ord.Ghosts K) where
  -- no child below a branch has more entries than all of them together
  most_le-spread : (bs : List (Branch K V)) (m : List (K × V)) → most (deep-Branch K V a o e p) bs ≤ length (spread bs m)
  most_le-spread [] m = omega arith
  most_le-spread (b ∷ bs) m = omega (arith, most_le-spread bs m, length-append b.below (b.entry ∷ spread bs m))

  -- each branch has an entry beside those of the last child
  last_le-spread : (bs : List (Branch K V)) (m : List (K × V)) → length bs + length m ≤ length (spread bs m)
  last_le-spread [] m = omega arith
  last_le-spread (b ∷ bs) m = omega (arith, last_le-spread bs m, length-append b.below (b.entry ∷ spread bs m))

  -- each child of a tree has fewer entries than the tree, where a node has a branch
  pub falls : (t : Tree K V) → HasBranch t → max (deep-Tree K V a o e p t) 0 ≤ length (entries t)
  falls Empty h = omega arith
  falls (Leaf c) h = omega arith
  falls (Node n) h = omega (arith, h, most_le-spread n.value.branches.items n.value.last, last_le-spread n.value.branches.items n.value.last)
