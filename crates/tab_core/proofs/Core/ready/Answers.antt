use Rattle.std.proofs.Common.{subst}
use Rattle.tab_model.specs.State.{State}
use Rattle.tab_core.specs.Ready.{AreReady}
use Rattle.tab_core.proofs.Core.ready.Goals as goal

pub returns : goal.returns
returns g c = subst (λ (σ : State). AreReady σ c.ready.result.items) c.self.view_is c.ready.ensures
