use Rattle.tab_core.specs.Runs.{ask_of}
use Rattle.tab_outbox.specs.Posts.{as_outbox}
use Rattle.tab_session.proofs.AnsweredLemmas.{replied}
use Rattle.tab_session.proofs.answering.reply_to_step.Goals as goal

pub returns : goal.returns
returns g c = replied _ _ _ _ (ask_of as_outbox c.args.step) _ c.reply_of.ensures c.step.ensures.done c.step.ensures.free c.step.ensures.err
