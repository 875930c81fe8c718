use Rattle.std.proofs.Common.{ap, ◌∙◌}
use Rattle.tab_map.proofs.Map.own_items.Goals as goal

pub returns : goal.returns
returns g c =
    let copied = rw (c.as_slice.ensures.value, c.deref.ensures) at c.in_ok-copies.ensures in
    ap (λ v. v.items) c.in_ok-items.ensures.ok ∙ copied
