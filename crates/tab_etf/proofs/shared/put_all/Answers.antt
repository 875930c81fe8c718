use Rattle.std.proofs.Common.{ap, ◌∙◌}
use Rattle.tab_term.specs.Canon.{canons}
use Rattle.tab_term.specs.Data.{plain_terms}
use Rattle.tab_term.specs.View.{term}
use Rattle.tab_etf.proofs.SharedElements.{but_all, but_less, but_none, canons_first, canons_end}
use Rattle.tab_etf.proofs.shared.put_all.Goals as goal

pub loop-t-init : goal.loop-t-init
loop-t-init g c = but_all _ (ap (λ ts. canons (plain_terms ts)) c.into_iter-t-iterator.ensures.into_iter_gives ∙ ap canons c.iter-t-items.ensures)

pub loop-t-preserved : goal.loop-t-preserved
loop-t-preserved g c = but_less c.loop-t.invariant c.put.ensures (canons_first c.loop-t.t-iterator c.next.new.self (term c.in-Some.t.now) c.in-Some.ensures.steps)

pub returns : goal.returns
returns g c = but_none c.loop-t.invariant (canons_end c.loop-t.t-iterator c.in-None.ensures.steps.0)
