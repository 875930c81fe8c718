use Rattle.std.proofs.Common.{◌≡◌, ◌*◌, ◌+◌, ◌-◌, ◌^◌, min, take, length}
use Rattle.tab_term.specs.Data.{weight, nodes, pair_nodes}
use Rattle.tab_term.specs.Canon.{canons, pair_canons}
use Rattle.tab_term.specs.View.{term, terms, pairs}
use Rattle.tab_etf.proofs.measuring.+len.Given as goal

abbrev pub decreases-spelled_len : goal.decreases-spelled_len
decreases-spelled_len l = 3 * weight (term l.t.now)

abbrev pub decreases-list_len : goal.decreases-list_len
decreases-list_len l = 3 * nodes l.ts.now + 2

abbrev pub decreases-all_len : goal.decreases-all_len
decreases-all_len l = 3 * nodes (terms l.ts.now) + 1

abbrev pub decreases-pairs_len : goal.decreases-pairs_len
decreases-pairs_len l = 3 * pair_nodes (pairs l.ps.now) + 1

abbrev pub invariant-all_len-loop-t : goal.invariant-all_len-loop-t
invariant-all_len-loop-t l = l.sum ≡ min (length (canons (terms (take l.t-index l.ts)))) (2 ^ 64 - 1)

abbrev pub invariant-pairs_len-loop-p : goal.invariant-pairs_len-loop-p
invariant-pairs_len-loop-p l = l.sum ≡ min (length (pair_canons (pairs (take l.p-index l.ps)))) (2 ^ 64 - 1)
