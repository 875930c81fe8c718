use Rattle.std.proofs.Common.{inl, ap, length, arith}
use Rattle.tab_server.proofs.Streaming.{nothing_answered, ok_map}
use Rattle.tab_server.proofs.requests.Requests.stream.Goals as goal

pub returns-in_default-clause-err : goal.returns-in_default-clause-err
returns-in_default-clause-err g c whole =
    inl (nothing_answered c.args.self.now.seat g.O.Outlet.sent g.O.Outlet.broken c.args.self.now.held.seen (g.R.Read.remaining c.args.reader.now) c.args.self.now.answers)

pub returns-clause-end : goal.returns-clause-end
returns-clause-end g c = ok_map _ _ c.pieces.result (λ end h over. h over (omega (arith, ap length c.deref_mut.ensures.value, c.in-Ok.ensures.len))) c.pieces.ensures.end
