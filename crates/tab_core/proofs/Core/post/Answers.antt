use Rattle.std.proofs.Common.{◌∙◌, ap}
use Rattle.std.specs.Prelude.{option_map}
use Rattle.tab_model.specs.State.{Session, State, session_at}
use Rattle.tab_core.proofs.MarksLemmas.{post_seen}
use Rattle.tab_core.proofs.Core.post.Goals as goal

pub returns : goal.returns
returns g c =
    c.post.ensures ∙ post_seen c.self.inside.machine.sessions c.args.session
    ∙ ap (λ (μ : State). option_map (λ (s : Session). s.outbox) (session_at μ.sessions c.args.session)) c.self.view_is
