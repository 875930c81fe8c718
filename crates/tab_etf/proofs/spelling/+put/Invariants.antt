use Rattle.std.proofs.Common.{◌*◌, ◌+◌, take}
use Rattle.tab_term.specs.Data.{weight, nodes, pair_nodes}
use Rattle.tab_term.specs.Canon.{canons, pair_canons}
use Rattle.tab_term.specs.View.{term, terms, pairs}
use Rattle.tab_etf.specs.Writing.{Writes}
use Rattle.tab_etf.proofs.spelling.+put.Given as goal

abbrev pub decreases-put : goal.decreases-put
decreases-put g l = 3 * weight (term l.t.now)

abbrev pub decreases-put_tuple : goal.decreases-put_tuple
decreases-put_tuple g l = 3 * nodes l.ts.now + 2

abbrev pub decreases-put_list : goal.decreases-put_list
decreases-put_list g l = 3 * nodes l.ts.now + 2

abbrev pub decreases-put_map : goal.decreases-put_map
decreases-put_map g l = 3 * pair_nodes l.ps.now + 2

abbrev pub decreases-put_all : goal.decreases-put_all
decreases-put_all g l = 3 * nodes (terms l.ts.now) + 1

abbrev pub decreases-put_pairs : goal.decreases-put_pairs
decreases-put_pairs g l = 3 * pair_nodes (pairs l.ps.now) + 1

abbrev pub invariant-put_all-loop-t : goal.invariant-put_all-loop-t
invariant-put_all-loop-t g l = Writes g.W.Target.contents g.W.Target.faults l.initial.writer l.writer (canons (terms (take l.t-index l.ts)))

abbrev pub invariant-put_pairs-loop-p : goal.invariant-put_pairs-loop-p
invariant-put_pairs-loop-p g l = Writes g.W.Target.contents g.W.Target.faults l.initial.writer l.writer (pair_canons (pairs (take l.p-index l.ps)))
