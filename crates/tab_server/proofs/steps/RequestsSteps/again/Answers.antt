use Rattle.std.proofs.Common.{List, subst, sym}
use mathlib.Core.List.{IsPrefix}
use Rattle.tab_oneshot.specs.Calls.{Again}
use Rattle.tab_post.proofs.Prefixes.{prefix_self}
use Rattle.tab_book.specs.Logs.{Made}
use Rattle.tab_server.proofs.Serving.{one_call}
use Rattle.tab_server.proofs.steps.RequestsSteps.again.Goals as goal

pub returns : goal.returns
returns g c =
    let old = c.args.self.now in
    let seen = c.restarted.new.self.held.seen in
    ((one_call old.seat old.held.seen seen Again (subst (λ (s : List Made). IsPrefix old.held.seen s) (sym c.restarted.ensures.seen) (prefix_self old.held.seen)), c.restarted.ensures.seat), c.restarted.ensures.sends)
