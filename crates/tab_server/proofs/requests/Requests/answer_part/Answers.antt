use Rattle.std.proofs.Common.{Some, List, [], ◌∷◌, subst, sym}
use Rattle.tab_etf.specs.declared.framing.FrameFault.{FrameFault}
use Rattle.tab_model.specs.declared.data.Reply.TheVariants as reply
use Rattle.tab_book.specs.Logs.{Made}
use Rattle.tab_server.specs.Streamed.{AnswersBytes, IsSkipped}
use Rattle.tab_server.proofs.Answering.{on_ok}
use Rattle.tab_server.proofs.Streaming.{broken_not, err_at, on_err, refused_part}
use Rattle.tab_server.proofs.requests.Requests.answer_part.Goals as goal

pub returns-in_default : goal.returns-in_default
returns-in_default g c = record {
  answered = on_ok c.reply.result c.reply.ensures.sends (λ sent bytes old none given e. record {
    replies = Some reply.NoMemory ∷ [];
    answers = subst (λ (q : List Made). AnswersBytes c.args.self.now.seat c.args.self.now.held.seen q bytes old c.args.incoming.now (Some reply.NoMemory ∷ [])) (sym c.reply.ensures.seen)
        (refused_part c.args.self.now.seat c.args.self.now.held.seen c.in-Err.fault bytes old c.args.incoming.now c.in_default.not-FrameTooLong (err_at (λ (x : FrameFault). IsSkipped x bytes old c.args.incoming.now) c.args.taken c.in-Err.fault c.in-Err.is e));
    sends = sent;
  });
  err = on_err c.reply.result c.reply.ensures.err (λ broken whole bytes old none given e. broken_not _ broken whole);
  whole = c.reply.ensures.whole;
  seat = c.reply.ensures.seat;
}
