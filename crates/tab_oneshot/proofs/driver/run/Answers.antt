use Rattle.std.proofs.Common.{[], ap, inl, inr, refl, sym, ◌∙◌}
use Rattle.tab_model.specs.declared.data.Command.TheVariants as command
use Rattle.tab_oneshot.specs.OneShots.{Opens}
use Rattle.tab_oneshot.proofs.HandingIn.{asked}
use Rattle.tab_oneshot.proofs.driver.run.Goals as goal

pub returns-in_default : goal.returns-in_default
returns-in_default g c = ([], g.met.S.Steps.shows_none _, inr (refl, c.new.ensures))

pub returns-in-Opened : goal.returns-in-Opened
returns-in-Opened g c =
    let parts = c.args.parts in
    let retries = c.args.retries in
    let whole = asked g.S.Steps.shows g.met.S.Steps.shows_on _ _ _ (command.OneShot parts retries) _ _ _ (λ s x rest. Opens s x parts retries rest c.attempts.result)
    (ap (λ ps. command.OneShot ps retries) c.in-Ok.ensures) (sym c.in-Opened.is ∙ c.sort.ensures) c.ask-answer.ensures
    c.attempts.ensures in
    (whole.0, whole.1, inl whole.2)
