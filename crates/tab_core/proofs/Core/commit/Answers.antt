use Rattle.std.proofs.Common.{◌≡◌, ℕ, List, true, sym, ap, subst, ◌∙◌, IfOk}
use Rattle.std.proofs.lemmas.Bool.{false≢true}
use Rattle.tab_model.specs.declared.data.Change.{Change}
use Rattle.tab_model.specs.declared.data.Command.TheVariants as command
use Rattle.tab_model.specs.declared.ask.Ask.TheVariants.{Do as DoCommand}
use Rattle.tab_model.specs.State.{State}
use Rattle.tab_core.specs.Outermost.{outermost, CommitsBy}
use Rattle.tab_core.specs.Parts.{parts_of, state_with}
use Rattle.tab_core.specs.Owing.{Owes, are_watched}
use Rattle.tab_core.specs.Runs.{StepsTo}
use Rattle.tab_core.specs.Steps.{takes_no_memory}
use Rattle.tab_core.proofs.OwingLemmas.{inner_commit_makes, unwatched_commit_makes, step_keeps, none_of, nothing_due, unwatched_of, commits_of}
use Rattle.tab_core.proofs.StepsLemmas.{ok_sees}
use Rattle.tab_core.proofs.Core.commit.Goals as goal

pub invariant_of-self : goal.invariant_of-self
invariant_of-self g c =
    let m = parts_of c.self.inside.machine in
    let m' = parts_of c.commit.new.self in
    let σ = state_with c.self.inside.machine in
    let τ = state_with c.commit.new.self in
    let none = none_of _ c.outermost.result (outermost σ c.args.session) c.in_default.not-Some c.outermost.ensures in
    step_keeps m m' c.args.session (DoCommand command.Commit) _ c.commit.result c.self.invariant c.commit.ensures.agree (λ s h. inner_commit_makes σ c.args.session s τ none (subst (CommitsBy σ c.args.session s τ) none h)) c.commit.ensures.done c.commit.ensures.err

pub returns-in_default-clause-done : goal.returns-in_default-clause-done
returns-in_default-clause-done g c =
    let σ = state_with c.self.inside.machine in
    let τ = state_with c.commit.new.self in
    let none = none_of _ c.outermost.result (outermost σ c.args.session) c.in_default.not-Some c.outermost.ensures in
    ok_sees σ τ c.args.self.now c.args.session (DoCommand command.Commit) _ c.commit.result c.self.view_is (λ s h. inner_commit_makes σ c.args.session s τ none (subst (CommitsBy σ c.args.session s τ) none h)) c.commit.ensures.done

pub returns-in_err-updated-clause-free : goal.returns-in_err-updated-clause-free
returns-in_err-updated-clause-free g c h =
    let σ = state_with c.self.inside.machine in
    let e : ℕ × List Change = (c.in-Some.ending.age, c.in-Some.ending.updates.now) in
    absurd (false≢true (c.in_err-updated.ensures.free (nothing_due σ c.args.session e c.in-Some.ensures (subst (λ (ρ : State). takes_no_memory ρ c.args.session (DoCommand command.Commit) ≡ true) (sym c.self.view_is) h))))

pub invariant_of-self-in_default-2 : goal.invariant_of-self-in_default-2
invariant_of-self-in_default-2 g c =
    let m = parts_of c.self.inside.machine in
    let m' = parts_of c.commit-in_default-2.new.self in
    let σ = state_with c.self.inside.machine in
    let τ = state_with c.commit-in_default-2.new.self in
    let e : ℕ × List Change = (c.in-Some.ending.age, c.in-Some.ending.updates.now) in
    let unseen = unwatched_of _ c.self.inside.machine.sessions e.0 e.1 c.in_ok-updated.field-0 c.in_default-2.not-Some c.in_ok-updated.ensures.owes in
    step_keeps m m' c.args.session (DoCommand command.Commit) _ c.commit-in_default-2.result c.self.invariant c.commit-in_default-2.ensures.agree (λ s h. unwatched_commit_makes σ c.self.inside.machine.sessions c.args.session s τ c.commit-in_default-2.new.self.sessions e c.in-Some.ensures unseen h) c.commit-in_default-2.ensures.done c.commit-in_default-2.ensures.err

pub returns-in_default-2-clause-done : goal.returns-in_default-2-clause-done
returns-in_default-2-clause-done g c =
    let σ = state_with c.self.inside.machine in
    let τ = state_with c.commit-in_default-2.new.self in
    let e : ℕ × List Change = (c.in-Some.ending.age, c.in-Some.ending.updates.now) in
    let unseen = unwatched_of _ c.self.inside.machine.sessions e.0 e.1 c.in_ok-updated.field-0 c.in_default-2.not-Some c.in_ok-updated.ensures.owes in
    ok_sees σ τ c.args.self.now c.args.session (DoCommand command.Commit) _ c.commit-in_default-2.result c.self.view_is (λ s h. unwatched_commit_makes σ c.self.inside.machine.sessions c.args.session s τ c.commit-in_default-2.new.self.sessions e c.in-Some.ensures unseen h) c.commit-in_default-2.ensures.done

pub deliver_commit-requires-clause-ends : goal.deliver_commit-requires-clause-ends
deliver_commit-requires-clause-ends g c =
    let σ = state_with c.self.inside.machine in
    let e : ℕ × List Change = (c.in-Some.ending.age, c.in-Some.ending.updates.now) in
    let owes = subst (Owes c.self.inside.machine.catalog c.self.inside.machine.sessions e.0 e.1) c.in-Some-2.is c.in_ok-updated.ensures.owes in
    commits_of c.self.inside.machine.sessions σ c.args.session e c.in-Some-2.updated c.in-Some.ensures owes.1

pub returns-clause-done : goal.returns-clause-done
returns-clause-done g c =
    subst (λ (μ : State). IfOk c.deliver_commit.result (λ s. StepsTo μ c.args.session (DoCommand command.Commit) s (state_with c.deliver_commit.new.machine))) c.self.view_is c.deliver_commit.ensures.done

pub returns-clause-free : goal.returns-clause-free
returns-clause-free g c h =
    let σ = state_with c.self.inside.machine in
    let e : ℕ × List Change = (c.in-Some.ending.age, c.in-Some.ending.updates.now) in
    let owes = subst (Owes c.self.inside.machine.catalog c.self.inside.machine.sessions e.0 e.1) c.in-Some-2.is c.in_ok-updated.ensures.owes in
    let none = nothing_due σ c.args.session e c.in-Some.ensures (subst (λ (ρ : State). takes_no_memory ρ c.args.session (DoCommand command.Commit) ≡ true) (sym c.self.view_is) h) in
    absurd (false≢true (ap (are_watched c.self.inside.machine.sessions) (sym none) ∙ owes.0))
