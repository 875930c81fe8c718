use Rattle.tab_model.specs.declared.ask.Ask.TheVariants.{Join}
use Rattle.tab_core.specs.Parts.{state_with}
use Rattle.tab_core.proofs.StepsLemmas.{join_makes, ok_sees, err_stays, told_sees}
use Rattle.tab_core.proofs.Core.join.Goals as goal

pub returns : goal.returns
returns g c =
    let σ = state_with c.self.inside.machine in
    let τ = state_with c.join.new.self in
    let ρ = c.args.self.now in
    let n = c.args.session in
    let o = g.P.Post.outbox c.args.post in
    record {
      done = ok_sees σ τ ρ n (Join o) _ c.join.result c.self.view_is (λ s h. join_makes σ τ n s o h) c.join.ensures.done;
      free = λ h. told_sees σ ρ n (Join o) c.self.view_is h c.join.ensures.told;
      err = err_stays σ τ ρ c.join.result c.self.view_is c.join.ensures.err;
    }
