use Rattle.std.proofs.Common.{◌∷◌, ◌++◌, length, length-append, sym, ap, ◌∙◌, arith}
use Rattle.std.proofs.lemmas.Result.{IfOk-weaker}
use Rattle.tab_map.proofs.FromLastLemmas.{taken_length, taken_sorted, taken_whole, taken_node}
use Rattle.tab_map.proofs.Map.+from_last.Goals as goal

pub from_last-requires-2 : goal.from_last-requires-2
from_last-requires-2 g t c κs within =
    let n = taken_length _ _ _ _ c.take_last-entry.result c.in_ok-right.ensures.taken c.take_last-entry.ensures.items in
    let s = taken_sorted g.K.Ord.cmp _ _ _ _ c.take_last-entry.result c.in_ok-right.ensures.taken c.take_last-entry.ensures.items c.requires.sorted in
    (omega (arith, c.decreases, c.if-count-le-FULL.false), (within.0, (within.1, (omega (arith, n, c.requires.enough, c.in_ok-right.ensures.count, c.if-count-le-FULL.false), s))))

pub node-requires : goal.node-requires
node-requires g t c =
    rw c.in_ok-entry.ensures (taken_node g.K.Ord.cmp _ _ _ _ _ _ c.take_last-entry.result c.in_ok-right.ensures.taken c.take_last-entry.ensures.items c.in_ok-below.ensures.taken c.requires.sorted)

pub returns-clause-taken : goal.returns-clause-taken
returns-clause-taken g t c =
    let whole = taken_whole _ _ _ _ _ _ c.take_last-entry.result c.in_ok-right.ensures.taken c.take_last-entry.ensures.items c.in_ok-below.ensures.taken in
    IfOk-weaker c.node.result _ _ (λ m is. whole ∙ ap (λ es. c.from_last-2.new.entries.items ++ es) (sym (is ∙ ap (λ e. c.in_ok-below.below ++ e ∷ c.in_ok-right.right) c.in_ok-entry.ensures))) c.node.ensures

pub returns-clause-count : goal.returns-clause-count
returns-clause-count g t c =
    IfOk-weaker c.node.result _ _ (λ m is. omega (arith, ap length is, length-append c.in_ok-below.below (c.in_ok-entry.entry ∷ c.in_ok-right.right), c.in_ok-below.ensures.count, c.in_ok-right.ensures.count, c.if-count-le-FULL.false)) c.node.ensures
