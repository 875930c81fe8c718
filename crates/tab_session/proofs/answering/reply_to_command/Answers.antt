use Rattle.std.proofs.Common.{ap, sym, ◌∙◌}
use Rattle.std.specs.Prelude.{not}
use Rattle.tab_model.specs.declared.ask.Ask.TheVariants.{Do as DoCommand}
use Rattle.tab_session.proofs.AnsweredLemmas.{answered_by}
use Rattle.tab_session.proofs.answering.reply_to_command.Goals as goal

pub returns : goal.returns
returns g c outbox = answered_by outbox _ _ _ (DoCommand c.args.command) _ (ap not (sym c.is_one_shot.ensures ∙ c.if-is_one_shot.false)) c.reply_to_step.ensures
