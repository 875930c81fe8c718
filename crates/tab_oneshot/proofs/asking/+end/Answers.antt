use Rattle.std.proofs.Common.{◌≡◌, ◌-◌, suc, List, refl, sym, subst, ◌∙◌, arith}
use Rattle.tab_oneshot.specs.Calls.{Call}
use Rattle.tab_oneshot.specs.Attempts.{Ends, Ended}
use Rattle.tab_oneshot.proofs.HandingIn.{asked}
use Rattle.tab_oneshot.proofs.asking.+end.Goals as goal

pub returns-in-Aborted : goal.returns-in-Aborted
returns-in-Aborted g t c =
    let e : suc (c.args.around - 1) ≡ c.args.around = omega arith in
    asked g.S.Steps.shows g.met.S.Steps.shows_on _ _ _ _ _ _ _ (λ s x rest. Ended s x (λ ys. Ends c.args.around c.args.last.reply ys c.end.result) rest c.end.result) refl (sym c.in-Aborted.is ∙ c.sort.ensures) c.ask-ended.ensures
    (subst (λ n. (more : List Call) × g.S.Steps.shows c.ask-ended.new.steps more c.end.new.steps × Ends n c.args.last.reply more c.end.result) e c.end.ensures)
