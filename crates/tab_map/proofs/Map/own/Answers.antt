use Rattle.std.proofs.Common.{ap, ◌∙◌}
use Rattle.tab_map.proofs.Map.own.Goals as goal

pub returns-clause-branches : goal.returns-clause-branches
returns-clause-branches g c =
    let copied = rw (c.deref-2.ensures.value, c.deref.ensures) at c.in_ok-copied.ensures in
    ap (λ v. v.branches.items) c.in_ok-node.ensures.ok ∙ copied

pub returns-clause-last : goal.returns-clause-last
returns-clause-last g c =
    let last = rw c.deref-3.ensures at c.in_ok-share.ensures in
    ap (λ v. v.last) c.in_ok-node.ensures.ok ∙ last
