use Rattle.std.proofs.Common.{◌≡◌, None, sym, subst}
use Rattle.tab_model.specs.State.{State, session_at}
use Rattle.tab_model.specs.declared.ask.Ask.TheVariants.{Do as DoCommand}
use Rattle.tab_model.specs.declared.data.Command.TheVariants as command
use Rattle.tab_core.specs.Parts.{parts_of, state_with}
use Rattle.tab_core.specs.Runs.{StepsTo}
use Rattle.tab_core.specs.Subscribing.{inside_refusal, refused_by}
use Rattle.tab_core.proofs.OwingLemmas.{quiet_schema_steps, refused_schema_makes, removal_steps, put_keeps, step_keeps, delivered_keys, same_err, not_removed}
use Rattle.tab_core.proofs.Keeping.{none_of}
use Rattle.tab_core.proofs.SessionsLemmas.{same_keys}
use Rattle.tab_core.proofs.StepsLemmas.{ok_sees, err_stays}
use Rattle.tab_core.proofs.Core.redefine.Goals as goal

pub invariant_of-self : goal.invariant_of-self
invariant_of-self g c =
    let ss = c.self.inside.machine.sessions in
    let σ = state_with c.self.inside.machine in
    let τ = state_with c.schema.new.self in
    let free = subst (λ (ρ : State). None ≡ refused_by ρ c.args.session inside_refusal (session_at ρ.sessions c.args.session)) (sym c.self.view_is) c.requires.free in
    step_keeps (parts_of c.self.inside.machine) (parts_of c.schema.new.self) c.args.session (DoCommand (command.Schema c.args.schema)) _ c.schema.result c.self.invariant (c.schema.ensures.agree c.self.invariant)
    (λ s h. quiet_schema_steps σ ss c.args.session c.args.schema free (not_removed c.args.schema c.in_default.not-Remove) s τ c.schema.new.self.sessions c.schema.ensures.same h) (c.schema.ensures.done c.self.invariant) (same_err state_with c.schema.new.self c.self.inside.machine c.schema.result c.schema.ensures.err)

pub returns-in_default : goal.returns-in_default
returns-in_default g c =
    let ss = c.self.inside.machine.sessions in
    let σ = state_with c.self.inside.machine in
    let τ = state_with c.schema.new.self in
    let free = subst (λ (ρ : State). None ≡ refused_by ρ c.args.session inside_refusal (session_at ρ.sessions c.args.session)) (sym c.self.view_is) c.requires.free in
    record {
      done = ok_sees σ τ c.args.self.now c.args.session (DoCommand (command.Schema c.args.schema)) _ c.schema.result c.self.view_is (λ s h. quiet_schema_steps σ ss c.args.session c.args.schema free (not_removed c.args.schema c.in_default.not-Remove) s τ c.schema.new.self.sessions c.schema.ensures.same h) (c.schema.ensures.done c.self.invariant);
      err = err_stays σ τ c.args.self.now c.schema.result c.self.view_is (same_err state_with c.schema.new.self c.self.inside.machine c.schema.result c.schema.ensures.err);
    }

pub invariant_of-self-then-is_none : goal.invariant_of-self-then-is_none
invariant_of-self-then-is_none g c =
    let ss = c.self.inside.machine.sessions in
    let σ = state_with c.self.inside.machine in
    let ss' = c.schema-2.new.self.sessions in
    let free = subst (λ (ρ : State). None ≡ refused_by ρ c.args.session inside_refusal (session_at ρ.sessions c.args.session)) (sym c.self.view_is) c.requires.free in
    put_keeps (parts_of c.self.inside.machine) (parts_of c.schema-2.new.self) ss' c.args.session (DoCommand (command.Schema c.args.schema)) c.in_ok-stepped.stepped c.self.invariant (c.schema-2.ensures.agree c.self.invariant) (same_keys ss')
    (refused_schema_makes σ ss c.args.session c.args.schema free c.in_ok-stepped.stepped (state_with c.schema-2.new.self) (c.in_ok-stepped.ensures.done c.self.invariant) (none_of _ c.if-is_none.ensures))

pub returns-then-is_none-clause-done : goal.returns-then-is_none-clause-done
returns-then-is_none-clause-done g c =
    let ss = c.self.inside.machine.sessions in
    let σ = state_with c.self.inside.machine in
    let free = subst (λ (ρ : State). None ≡ refused_by ρ c.args.session inside_refusal (session_at ρ.sessions c.args.session)) (sym c.self.view_is) c.requires.free in
    subst (λ (μ : State). StepsTo μ c.args.session (DoCommand (command.Schema c.args.schema)) c.in_ok-stepped.stepped (state_with c.schema-2.new.self)) c.self.view_is
    (refused_schema_makes σ ss c.args.session c.args.schema free c.in_ok-stepped.stepped (state_with c.schema-2.new.self) (c.in_ok-stepped.ensures.done c.self.invariant) (none_of _ c.if-is_none.ensures))

pub invariant_of-self-2 : goal.invariant_of-self-2
invariant_of-self-2 g c =
    let ss = c.self.inside.machine.sessions in
    let σ = state_with c.self.inside.machine in
    let ss' = c.schema-2.new.self.sessions in
    let free = subst (λ (ρ : State). None ≡ refused_by ρ c.args.session inside_refusal (session_at ρ.sessions c.args.session)) (sym c.self.view_is) c.requires.free in
    put_keeps (parts_of c.self.inside.machine) (parts_of c.schema-2.new.self) c.deliver-over.new.self c.args.session (DoCommand (command.Schema c.args.schema)) c.with_overflowed.result c.self.invariant (c.schema-2.ensures.agree c.self.invariant)
    (delivered_keys c.in_ok-prepared.prepared ss' c.deliver-over.new.self c.deliver-over.result c.deliver-over.ensures)
    (removal_steps σ ss c.args.session c.args.schema free c.in-Remove.table c.in-Remove.is c.in_ok-stepped.stepped (state_with c.schema-2.new.self) ss' c.in_ok-stepped.ensures.same (c.in_ok-stepped.ensures.done c.self.invariant) c.if-is_none.ensures c.deliver-over.new.self c.deliver-over.result c.in_ok-prepared.prepared c.in_ok-number.number c.in_ok-prepared.ensures c.in_ok-number.ensures c.deliver-over.ensures c.with_overflowed.result c.with_overflowed.ensures)

pub returns-clause-done : goal.returns-clause-done
returns-clause-done g c =
    let ss = c.self.inside.machine.sessions in
    let σ = state_with c.self.inside.machine in
    let ss' = c.schema-2.new.self.sessions in
    let free = subst (λ (ρ : State). None ≡ refused_by ρ c.args.session inside_refusal (session_at ρ.sessions c.args.session)) (sym c.self.view_is) c.requires.free in
    subst (λ (μ : State). StepsTo μ c.args.session (DoCommand (command.Schema c.args.schema)) c.with_overflowed.result (state_with (record c.schema-2.new.self { sessions = c.deliver-over.new.self }))) c.self.view_is
    (removal_steps σ ss c.args.session c.args.schema free c.in-Remove.table c.in-Remove.is c.in_ok-stepped.stepped (state_with c.schema-2.new.self) ss' c.in_ok-stepped.ensures.same (c.in_ok-stepped.ensures.done c.self.invariant) c.if-is_none.ensures c.deliver-over.new.self c.deliver-over.result c.in_ok-prepared.prepared c.in_ok-number.number c.in_ok-prepared.ensures c.in_ok-number.ensures c.deliver-over.ensures c.with_overflowed.result c.with_overflowed.ensures)
