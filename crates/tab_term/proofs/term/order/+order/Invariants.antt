use Rattle.std.proofs.Common.{◌≡◌, ◌+◌, ◌*◌, drop}
use Rattle.tab_term.specs.Data.{weight, nodes, pair_nodes}
use Rattle.tab_term.specs.Order.{members_order, pairs_order}
use Rattle.tab_term.specs.View.{term, terms, pairs}
use Rattle.tab_term.proofs.term.order.+order.Given as goal

abbrev pub decreases-compare : goal.decreases-compare
decreases-compare l = 4 * weight (term l.a.now)

abbrev pub decreases-compare_all : goal.decreases-compare_all
decreases-compare_all l = 4 * nodes l.xs.now + 2

abbrev pub decreases-compare_members : goal.decreases-compare_members
decreases-compare_members l = 4 * nodes (terms l.xs.now) + 1

abbrev pub decreases-compare_maps : goal.decreases-compare_maps
decreases-compare_maps l = 4 * pair_nodes l.xs.now + 3

abbrev pub decreases-compare_pairs : goal.decreases-compare_pairs
decreases-compare_pairs l = 4 * pair_nodes (pairs l.xs.now) + 2

abbrev pub decreases-compare_pair : goal.decreases-compare_pair
decreases-compare_pair l = 4 * (weight (term l.x.now.0) + weight (term l.x.now.1)) + 1

abbrev pub invariant-compare_members-loop-i : goal.invariant-compare_members-loop-i
invariant-compare_members-loop-i l = members_order (terms (drop l.i l.xs)) (terms (drop l.i l.ys)) ≡ members_order (terms l.xs) (terms l.ys)

abbrev pub invariant-compare_pairs-loop-i : goal.invariant-compare_pairs-loop-i
invariant-compare_pairs-loop-i l = pairs_order (pairs (drop l.i l.xs)) (pairs (drop l.i l.ys)) ≡ pairs_order (pairs l.xs) (pairs l.ys)
