use Rattle.std.proofs.Common.{Err, ap, inl, inr, refl}
use Rattle.tab_session.proofs.AnsweredLemmas.{answered, one_shot_numbered}
use Rattle.tab_session.proofs.answering.answer_to.Goals as goal

pub returns-in-Ok : goal.returns-in-Ok
returns-in-Ok g c = answered c.args.outbox _ _ _ _ c.in-Ok.request _ c.in-Ok.ensures.ok.0 c.in-Ok.ensures.ok.1 c.in-Ok.ensures.ok.2 c.reply_to.ensures

pub returns-in-Err-NoMemory : goal.returns-in-Err-NoMemory
returns-in-Err-NoMemory g c =
    let one_shot = c.in-Err-NoMemory.ensures.memory (ap Err c.in-Err-NoMemory.field-0-is) in
    inr (record { reply = c.new-in-Err-NoMemory.ensures; same = refl; under = (one_shot_numbered _ _ c.number_of-number.ensures one_shot, inl one_shot) })

pub returns-in-Err-BadCommand : goal.returns-in-Err-BadCommand
returns-in-Err-BadCommand g c =
    inl (inl (record {
      nothing = λ session a number asked same. c.in-Err-BadCommand.ensures.only session a number asked same (ap Err c.in-Err-BadCommand.field-0-is);
      reply = c.new.ensures;
      same = refl;
      under = c.number_of-number.ensures;
    }))
