use Rattle.std.proofs.Common.{ap, subst}
use Rattle.tab_model.specs.declared.ask.Ask.TheVariants.{Join}
use Rattle.tab_outbox.specs.Posts.{as_outbox}
use Rattle.tab_session.specs.StepsMade.{StepMadeOrRefused}
use Rattle.tab_session.proofs.answering.join.Goals as goal

pub returns-in-Ok : goal.returns-in-Ok
returns-in-Ok g c =
    subst (λ b. StepMadeOrRefused c.args.core.now c.args.session (Join b) c.reply_to_step.result c.reply_to_step.new.core) (ap as_outbox c.in-Ok.ensures) c.reply_to_step.ensures
