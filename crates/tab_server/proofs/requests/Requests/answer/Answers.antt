use Rattle.std.proofs.Common.{List, [], sym, inr, subst}
use Rattle.tab_book.specs.Logs.{Made}
use Rattle.tab_server.specs.Laws.{sends_on}
use Rattle.tab_server.specs.Sent.{Sends}
use Rattle.tab_server.specs.Serving.{IsServed, IsSettled}
use Rattle.tab_server.proofs.Serving.{asked, settles}
use Rattle.tab_server.proofs.requests.Requests.answer.Goals as goal

pub returns-in_default-clause-served : goal.returns-in_default-clause-served
returns-in_default-clause-served g c = asked c.args.self.now.seat c.args.command c.args.self.now.held.seen c.make.new.self.held.seen c.new.result c.requires (inr (c.new.ensures, c.make.ensures.grows))

pub returns-then-matches-clause-served : goal.returns-then-matches-clause-served
returns-then-matches-clause-served g c =
    subst (λ (q : List Made). IsServed c.args.self.now.seat c.args.self.now.held.seen c.args.command c.settled-told.result q) (sym c.restarted.ensures.seen)
    (settles c.args.self.now.seat c.args.command c.args.self.now.held.seen c.make.new.self.held.seen _ _ _ c.requires c.in-Ok.ensures.reply
    (subst (λ n. IsSettled n c.make.new.self.held.seen c.in-Ok.told c.settled-told.result c.settled-told.new.self.held.seen) c.in-Ok.ensures.seat c.settled-told.ensures.reply))

pub returns-else-matches-clause-served : goal.returns-else-matches-clause-served
returns-else-matches-clause-served g c =
    settles c.args.self.now.seat c.args.command c.args.self.now.held.seen c.make.new.self.held.seen _ _ _ c.requires c.in-Ok.ensures.reply
    (subst (λ n. IsSettled n c.make.new.self.held.seen c.in-Ok.told c.settled-told.result c.settled-told.new.self.held.seen) c.in-Ok.ensures.seat c.settled-told.ensures.reply)

pub returns-then-matches-clause-sends : goal.returns-then-matches-clause-sends
returns-then-matches-clause-sends g c =
    subst (λ a. Sends g.O.Outlet.sent g.O.Outlet.broken a c.restarted.new.self.answers []) c.make.ensures.answers
    (sends_on g.O.Outlet.sent g.O.Outlet.broken c.make.new.self.answers c.settled-told.new.self.answers c.restarted.new.self.answers [] [] c.settled-told.ensures.sends c.restarted.ensures.sends)
