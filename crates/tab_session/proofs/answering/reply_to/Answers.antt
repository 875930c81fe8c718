use Rattle.std.proofs.Common.{refl, sym, subst}
use Rattle.tab_model.specs.declared.ask.Ask.TheVariants.{Leave, Retry, Take}
use Rattle.tab_session.specs.AnsweredPayloads.{RepliesTo}
use Rattle.tab_session.proofs.AnsweredLemmas.{answered_by}
use Rattle.tab_session.proofs.answering.reply_to.Goals as goal

pub returns-in-Leave : goal.returns-in-Leave
returns-in-Leave g c =
    subst (λ r. RepliesTo c.args.outbox c.args.core.now c.args.session r c.reply_to_step.result c.reply_to_step.new.core) (sym c.in-Leave.is)
    (answered_by c.args.outbox _ _ _ Leave _ refl c.reply_to_step.ensures)

pub returns-in-Retry : goal.returns-in-Retry
returns-in-Retry g c =
    subst (λ r. RepliesTo c.args.outbox c.args.core.now c.args.session r c.reply_to_step-in-Retry.result c.reply_to_step-in-Retry.new.core) (sym c.in-Retry.is)
    (answered_by c.args.outbox _ _ _ Retry _ refl c.reply_to_step-in-Retry.ensures)

pub returns-in-Take : goal.returns-in-Take
returns-in-Take g c =
    subst (λ r. RepliesTo c.args.outbox c.args.core.now c.args.session r c.reply_to_step-in-Take.result c.reply_to_step-in-Take.new.core) (sym c.in-Take.is)
    (answered_by c.args.outbox _ _ _ Take _ refl c.reply_to_step-in-Take.ensures)

pub returns-in-Do : goal.returns-in-Do
returns-in-Do g c = subst (λ r. RepliesTo c.args.outbox c.args.core.now c.args.session r c.reply_to_command.result c.reply_to_command.new.core) (sym c.in-Do.is) (c.reply_to_command.ensures c.args.outbox)
