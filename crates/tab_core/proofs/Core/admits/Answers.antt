use Rattle.std.proofs.Common.{ap, ◌∙◌, ◌&&◌, length}
use Rattle.std.specs.Prelude.{nat_lt}
use Rattle.tab_model.specs.State.{State}
use Rattle.tab_core.specs.Parts.{parts_of}
use Rattle.tab_core.proofs.SessionsLemmas.{count_seen}
use Rattle.tab_core.proofs.Core.admits.Goals as goal

pub returns : goal.returns
returns g c =
    let m = parts_of c.self.inside.machine in
    let n = c.args.session in
    c.admits.ensures
    ∙ ap (λ k. nat_lt m.greatest n && nat_lt k m.limits.sessions) (count_seen m.sessions)
    ∙ ap (λ (μ : State). nat_lt μ.greatest n && nat_lt (length μ.sessions) μ.limits.sessions) c.self.view_is
