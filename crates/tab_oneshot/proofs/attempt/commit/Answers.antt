use Rattle.std.proofs.Common.{List, refl, sym, subst, ◌∙◌}
use Rattle.tab_oneshot.specs.Calls.{Call}
use Rattle.tab_oneshot.specs.Attempts.{Ends, AfterCommit}
use Rattle.tab_oneshot.proofs.HandingIn.{asked}
use Rattle.tab_oneshot.proofs.attempt.commit.Goals as goal

pub returns-in-Refused : goal.returns-in-Refused
returns-in-Refused g c =
    asked g.S.Steps.shows g.met.S.Steps.shows_on _ _ _ _ _ _ _ (λ s x rest. AfterCommit s x c.args.levels.now rest c.end.result) refl (sym c.in-Refused.is ∙ c.sort.ensures) c.ask-answer.ensures
    (subst (λ n. (more : List Call) × g.S.Steps.shows c.ask-answer.new.steps more c.end.new.steps × Ends n c.ask-answer.result.reply more c.end.result) (sym c.around.ensures) c.end.ensures)
