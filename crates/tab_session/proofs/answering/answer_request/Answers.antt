use Rattle.std.proofs.Common.{refl}
use Rattle.tab_session.proofs.AnsweredLemmas.{answered}
use Rattle.tab_session.proofs.answering.answer_request.Goals as goal

pub returns : goal.returns
returns g c = answered c.args.outbox _ _ _ _ c.args.request _ refl c.requires.session c.requires.formed c.reply_to.ensures
