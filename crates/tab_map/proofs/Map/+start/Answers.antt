use Rattle.std.proofs.Common.{rules, arith, ap, length}
use Rattle.tab_map.proofs.SpreadLemmas.{is_root}
use Rattle.tab_map.proofs.NodeReads.{get_first, below_fewer}
use Rattle.tab_map.proofs.Map.+start.Goals as goal

-- The prover's own search leaves an entry of its list open in this recursion, so the plain goals are answered here too.
pub slice_bounds-in_row-end : goal.slice_bounds-in_row-end
slice_bounds-in_row-end g t c = search rules

pub slice_bounds-in_row-end-in-empty : goal.slice_bounds-in_row-end-in-empty
slice_bounds-in_row-end-in-empty g t c = search rules

pub bounds-branch-0 : goal.bounds-branch-0
bounds-branch-0 g t c = search rules

pub new-requires : goal.new-requires
new-requires g t c = search rules

-- the child below the first branch has fewer entries
pub start-requires : goal.start-requires
start-requires g t c κs within =
    let root = is_root g.K.Ord.cmp c.self.view_is c.self.invariant c.in-Node.is in
    let at = rw (c.as_slice-in-Node.ensures.value, c.deref-in-Node.ensures) at c.branch-item.is in
    let fewer = below_fewer _ 0 c.in-Node.node.value.last c.branch-item.result (get_first _ _ root.some at) in
    (omega (arith, c.decreases, fewer, ap length root.is), within)
