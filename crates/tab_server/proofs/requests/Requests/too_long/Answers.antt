use Rattle.std.proofs.Common.{Some, List, ℕ, [], ◌∷◌, subst, sym}
use Rattle.tab_book.specs.Logs.{Made}
use Rattle.tab_model.specs.declared.data.Reply.TheVariants as reply
use Rattle.tab_server.specs.Sent.{AreAnswered}
use Rattle.tab_server.proofs.Streaming.{sends_then}
use Rattle.tab_server.proofs.requests.Requests.too_long.Goals as goal

pub returns-clause-last : goal.returns-clause-last
returns-clause-last g c whole =
    let told = c.in_ok-frames.ensures.answered in
    let n = c.args.self.now.seat in
    record {
      said = told.0;
      each = subst (λ (q : List Made). AreAnswered n c.args.self.now.held.seen c.args.incoming.now.splitter.before told.0 q) (sym c.in_ok-reply.ensures.seen)
          (subst (λ (ps : List (List ℕ)). AreAnswered n c.args.self.now.held.seen ps told.0 c.frames.new.self.held.seen) c.before_fault.ensures told.1);
      sends = sends_then n g.O.Outlet.sent g.O.Outlet.broken c.args.self.now.answers c.frames.new.self.answers c.reply.new.self.answers told.0 (Some reply.BadTerm ∷ []) told.2 c.in_ok-reply.ensures.sends;
    }
