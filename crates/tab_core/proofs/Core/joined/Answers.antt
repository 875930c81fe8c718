use Rattle.std.proofs.Common.{ap, ◌∙◌}
use Rattle.tab_model.specs.Standing.{is_joined}
use Rattle.tab_model.specs.State.{State}
use Rattle.tab_core.proofs.SessionsLemmas.{joined_seen}
use Rattle.tab_core.proofs.Core.joined.Goals as goal

pub returns : goal.returns
returns g c = c.is_some.ensures ∙ joined_seen c.self.inside.machine.sessions c.args.session c.place.result c.place.ensures ∙ ap (λ (μ : State). is_joined μ c.args.session) c.self.view_is
