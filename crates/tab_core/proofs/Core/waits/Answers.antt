use Rattle.std.proofs.Common.{ap, ◌∙◌}
use Rattle.tab_model.specs.State.{State, is_waiting}
use Rattle.tab_core.proofs.Core.waits.Goals as goal

pub returns : goal.returns
returns g c = c.waits.ensures ∙ ap (λ (μ : State). is_waiting μ c.args.session) c.self.view_is
