use Rattle.std.proofs.Common.{ap, sym, ◌∙◌}
use Rattle.std.specs.Prelude.{is_some}
use Rattle.std.specs.List.{count_by}
use Rattle.tab_index.proofs.CountLemmas.{count-map}
use Rattle.tab_model.specs.State.{Session, State, level_in}
use Rattle.tab_core.specs.Parts.{session_of}
use Rattle.tab_core.proofs.Core.watchers.Goals as goal

pub returns : goal.returns
returns g c =
    let watches = λ (s : Session). is_some (level_in s.watching c.args.table.now) in
    c.watchers.ensures ∙ sym (count-map watches session_of c.self.inside.machine.sessions) ∙ ap (λ (σ : State). count_by watches σ.sessions) c.self.view_is
