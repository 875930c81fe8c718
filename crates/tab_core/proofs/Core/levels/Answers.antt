use Rattle.std.proofs.Common.{ap, ◌∙◌}
use Rattle.std.specs.Prelude.{◌^◌, ◌-◌, min}
use Rattle.tab_model.specs.Standing.{levels_of}
use Rattle.tab_model.specs.State.{State}
use Rattle.tab_core.proofs.Core.levels.Goals as goal

pub returns : goal.returns
returns g c = c.levels.ensures ∙ ap (λ (μ : State). min (levels_of μ c.args.session) (2 ^ 64 - 1)) c.self.view_is
