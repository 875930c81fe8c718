use Rattle.std.proofs.Common.{Some, ap, sym, ◌∙◌, subst, append-nil, List, [], ℕ}
use Rattle.tab_server.specs.Laws.{sends_on}
use Rattle.tab_server.specs.Sending.{reply_frame, Goes}
use Rattle.tab_server.proofs.Answering.{on_ok}
use Rattle.tab_server.proofs.requests.Requests.frame.Goals as goal

pub returns-clause-answered : goal.returns-clause-answered
returns-clause-answered g c =
    on_ok c.keep.result c.keep.ensures.bytes (λ kept.
    let told = c.in-Some.told in
    let sent : Goes g.O.Outlet.sent g.O.Outlet.broken c.args.self.now.answers.outlet c.args.self.now.answers.frames.items c.keep.new.self.outlet c.keep.new.self.frames.items (reply_frame c.reply.result.now) =
    sends_on g.O.Outlet.sent g.O.Outlet.broken c.args.self.now.answers c.payload-2.new.self.answers c.keep.new.self [] (reply_frame c.reply.result.now) c.payload-2.ensures.sends kept in (
      Some told,
      rw c.payload.ensures at c.in-Some.ensures.reply,
      subst (λ (bytes : List ℕ). Goes g.O.Outlet.sent g.O.Outlet.broken c.args.self.now.answers.outlet c.args.self.now.answers.frames.items c.keep.new.self.outlet c.keep.new.self.frames.items bytes)
          (ap reply_frame c.reply.ensures ∙ sym (append-nil (reply_frame told))) sent,
    ))
