use Rattle.std.proofs.Common.{◌≡◌, true, subst, IfOk, OnErr}
use Rattle.std.specs.Prelude.{IsOk}
use Rattle.tab_model.specs.State.{State, IsSound}
use Rattle.tab_model.specs.Reached.{IsRising}
use Rattle.tab_core.specs.Parts.{parts_of}
use Rattle.tab_core.specs.Runs.{ask_of, StepsTo}
use Rattle.tab_core.specs.Steps.{takes_no_memory}
use Rattle.tab_core.proofs.RunsLemmas.{step_goes_on}
use Rattle.tab_core.proofs.StepsLemmas.{rising_of}
use Rattle.tab_core.proofs.Core.step.Goals as goal

pub returns : goal.returns
returns g c =
    let σ = c.args.self.now in
    let a = ask_of g.P.Post.outbox c.args.step in
    let r = c.make-stepped.result in
    let τ = c.make-stepped.new.self in
    let kept = c.drop_replaced.ensures in
    let done = subst (λ (ρ : State). IfOk r (λ s. StepsTo ρ c.args.session a s τ)) kept c.make-stepped.ensures.done in
    record {
      done = done;
      tied = step_goes_on σ τ c.args.session a r done (subst IsSound c.self.view_is c.self.invariant.sound);
      free = subst (λ (ρ : State). takes_no_memory ρ c.args.session a ≡ true → IsOk r) kept c.make-stepped.ensures.free;
      err = subst (λ (ρ : State). OnErr r (τ ≡ ρ)) kept c.make-stepped.ensures.err;
      sound = subst IsSound c.self-2.view_is c.self-2.invariant.sound;
      rising = subst IsRising c.self-2.view_is (rising_of (parts_of c.self-2.inside.machine) c.self-2.invariant);
    }
