use Rattle.std.proofs.Common.{ap, sym, ◌∙◌}
use Rattle.std.specs.Prelude.{map}
use Rattle.tab_model.specs.State.{State}
use Rattle.tab_core.specs.Parts.{queued_of}
use Rattle.tab_core.proofs.Core.has_waiters.Goals as goal

pub returns : goal.returns
returns g c h = ap (λ (μ : State). μ.queue) (sym c.self.view_is) ∙ ap (map queued_of) (c.has_waiters.ensures h)
