use Rattle.tab_model.specs.declared.ask.Ask.TheVariants.{Leave}
use Rattle.tab_core.specs.Parts.{state_with}
use Rattle.tab_core.proofs.StepsLemmas.{leave_makes, sees}
use Rattle.tab_core.proofs.Core.leave.Goals as goal

pub returns : goal.returns
returns g c =
    let σ = state_with c.self.inside.machine in
    let τ = state_with c.leave.new.self in
    record {
      done = sees σ τ c.args.self.now c.args.session Leave c.leave.result c.self.view_is (leave_makes σ τ c.args.session c.leave.result c.leave.ensures.done);
    }
