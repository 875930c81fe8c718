use Rattle.std.proofs.Common.{arith, sym, ap, ap₂, ◌∙◌}
use Rattle.std.specs.Cmp.{IsTotalOrder}
use Rattle.std.specs.Ordering.{ordering_reverse}
use Rattle.tab_term.specs.Abbreviations.{spelled_less}
use Rattle.tab_term.specs.View.{term}
use Rattle.tab_index.specs.Pairs.{value_cmp}
use Rattle.tab_index.proofs.PairsLemmas.{value_total}
use Rattle.tab_index.proofs.building.Pair.order.Goals as goal

pub returns-then-self-other : goal.returns-then-self-other
returns-then-self-other c =
    sym (ap₂ value_cmp (sym c.self.view_is) (sym c.other.view_is)
    ∙ spelled_less (term c.self.inside.value.now) (term c.other.inside.value.now) (omega (arith, c.self.invariant, c.other.invariant, c.if-self-other.true)))

pub returns-then-other-self : goal.returns-then-other-self
returns-then-other-self c =
    sym (IsTotalOrder.antisymm value_total c.args.self.now c.args.other.now
    ∙ ap ordering_reverse (ap₂ value_cmp (sym c.other.view_is) (sym c.self.view_is)
    ∙ spelled_less (term c.other.inside.value.now) (term c.self.inside.value.now) (omega (arith, c.self.invariant, c.other.invariant, c.if-other-self.true))))
