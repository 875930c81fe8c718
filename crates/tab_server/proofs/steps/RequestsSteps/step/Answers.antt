use Rattle.std.proofs.Common.{[], subst, sym}
use Rattle.tab_oneshot.specs.Calls.{Asked, answer_in}
use Rattle.tab_server.specs.Laws.{sends_none}
use Rattle.tab_server.specs.Sent.{Sends}
use Rattle.tab_server.proofs.Serving.{asked_call, one_call}
use Rattle.tab_server.proofs.steps.RequestsSteps.step.Goals as goal

pub returns-clause-shown : goal.returns-clause-shown
returns-clause-shown g c =
    let made = c.make.ensures in
    let old = c.args.self.now in (
      (one_call old.seat old.held.seen c.make.new.self.held.seen (Asked c.args.command (answer_in c.make.result)) (asked_call old.seat old.held.seen c.make.new.self.held.seen c.args.command c.make.result made.reply made.grows), made.seat),
      subst (λ a. Sends g.O.Outlet.sent g.O.Outlet.broken old.answers a []) (sym made.answers) (sends_none g.O.Outlet.sent g.O.Outlet.broken old.answers),
    )
