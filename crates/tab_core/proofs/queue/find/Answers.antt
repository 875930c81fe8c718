use Rattle.std.proofs.Common.{eq-eqb}
use Rattle.tab_core.proofs.Keeping.{request_there, request_nowhere}
use Rattle.tab_core.proofs.queue.find.Goals as goal

pub returns-then-request-session : goal.returns-then-request-session
returns-then-request-session c =
    request_there c.args.session c.args.queue.now c.loop-request.request-index c.request-item.result c.loop-request-test.true c.loop-request.invariant c.request-item.is (eq-eqb c.request-item.result.session c.args.session c.if-request-session.true)

pub returns : goal.returns
returns c = request_nowhere c.args.session c.args.queue.now c.loop-request.request-index c.loop-request-test.false c.loop-request.invariant
