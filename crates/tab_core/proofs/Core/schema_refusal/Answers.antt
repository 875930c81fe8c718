use Rattle.std.proofs.Common.{◌<◌, ◌≤◌, sym, subst, ◌∙◌}
use Rattle.tab_core.specs.Subscribing.{inside_refusal}
use Rattle.tab_core.proofs.MarksLemmas.{free}
use Rattle.tab_core.proofs.TellsLemmas.{refused_by_session, stands_inside, stands_outside}
use Rattle.tab_core.proofs.Core.schema_refusal.Goals as goal

pub returns-in-Some : goal.returns-in-Some
returns-in-Some g c = refused_by_session c.args.self.now c.args.session inside_refusal c.in-Some.refusal (sym c.in-Some.is ∙ c.session_refusal.ensures)

pub returns-then-levels-gt0 : goal.returns-then-levels-gt0
returns-then-levels-gt0 g c = stands_inside c.args.self.now c.args.session (free _ _ c.in_default.not-Some c.session_refusal.ensures) (subst (λ k. 0 < k) c.levels.ensures c.if-levels-gt0.true)

pub returns : goal.returns
returns g c = stands_outside c.args.self.now c.args.session (free _ _ c.in_default.not-Some c.session_refusal.ensures) (subst (λ k. k ≤ 0) c.levels.ensures c.if-levels-gt0.false)
