use Rattle.std.proofs.Common.{inl, inr, take}
use Rattle.tab_post.proofs.Prefixes.{prefix_self}
use Rattle.tab_server.proofs.Streaming.{always_err, keeps_consumes, read_none, takes_none}
use Rattle.tab_server.proofs.requests.Requests.read_once.Goals as goal

pub returns-in_err-piece-in-Ok-clause-err : goal.returns-in_err-piece-in-Ok-clause-err
returns-in_err-piece-in-Ok-clause-err g c =
    always_err c.from_residual.result (λ whole at i. inr (record {
      part = take c.in-Ok.count c.read.new.buf;
      read = c.in-Ok.ensures.bytes.0;
      served = c.in_err-piece-in-Ok.ensures.err whole at i;
    }))

pub returns-then-is_silent-clause-answered : goal.returns-then-is_silent-clause-answered
returns-then-is_silent-clause-answered g c at i =
    rw c.is_silent.ensures.answers (takes_none c.args.self.now.seat g.O.Outlet.sent g.O.Outlet.broken c.args.self.now.held.seen c.is_silent.new.self.held.seen c.is_silent.ensures.grows _ _ at c.args.incoming.now c.args.self.now.answers (keeps_consumes _ _ c.in-Err.ensures.bytes) i)

pub returns-in-Ok-eq0-clause-answered : goal.returns-in-Ok-eq0-clause-answered
returns-in-Ok-eq0-clause-answered g c at i =
    takes_none c.args.self.now.seat g.O.Outlet.sent g.O.Outlet.broken c.args.self.now.held.seen c.args.self.now.held.seen (prefix_self c.args.self.now.held.seen) _ _ at c.args.incoming.now c.args.self.now.answers (read_none _ _ c.read.result c.in-Ok-eq0.field-0 c.read.new.buf c.in-Ok-eq0.is c.in-Ok-eq0.field-0-test c.read.ensures.bytes) i

pub returns-else-is_silent-clause-answered : goal.returns-else-is_silent-clause-answered
returns-else-is_silent-clause-answered g c at i =
    rw c.is_silent.ensures.answers (takes_none c.args.self.now.seat g.O.Outlet.sent g.O.Outlet.broken c.args.self.now.held.seen c.is_silent.new.self.held.seen c.is_silent.ensures.grows _ _ at c.args.incoming.now c.args.self.now.answers (keeps_consumes _ _ c.in-Err.ensures.bytes) i)

pub returns-in-Err-2-clause-answered : goal.returns-in-Err-2-clause-answered
returns-in-Err-2-clause-answered g c at i =
    takes_none c.args.self.now.seat g.O.Outlet.sent g.O.Outlet.broken c.args.self.now.held.seen c.args.self.now.held.seen (prefix_self c.args.self.now.held.seen) _ _ at c.args.incoming.now c.args.self.now.answers (keeps_consumes _ _ c.in-Err-2.ensures.bytes) i

pub returns-in-Err-3-clause-err : goal.returns-in-Err-3-clause-err
returns-in-Err-3-clause-err g c whole at i =
    inl (takes_none c.args.self.now.seat g.O.Outlet.sent g.O.Outlet.broken c.args.self.now.held.seen c.args.self.now.held.seen (prefix_self c.args.self.now.held.seen) _ _ at c.args.incoming.now c.args.self.now.answers (keeps_consumes _ _ c.in-Err-3.ensures.bytes) i)
