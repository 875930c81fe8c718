use Rattle.tab_model.specs.declared.ask.Ask.TheVariants.{Retry}
use Rattle.tab_core.specs.Parts.{state_with}
use Rattle.tab_core.proofs.StepsLemmas.{retry_makes, ok_sees, err_stays, free_sees}
use Rattle.tab_core.proofs.Core.retry.Goals as goal

pub returns : goal.returns
returns g c =
    let σ = state_with c.self.inside.machine in
    let τ = state_with c.retry.new.self in
    let ρ = c.args.self.now in
    let n = c.args.session in
    record {
      done = ok_sees σ τ ρ n Retry _ c.retry.result c.self.view_is (λ s h. retry_makes σ τ n s h) c.retry.ensures.done;
      free = λ h. free_sees σ ρ n Retry c.self.view_is h c.retry.ensures.free c.retry.ensures.told;
      err = err_stays σ τ ρ c.retry.result c.self.view_is c.retry.ensures.err;
    }
