use Rattle.std.proofs.Common.{◌≡◌, ap}
use Rattle.tab_post.specs.Ends.{mailbox_of, received}
use Rattle.tab_server.proofs.Answering.{on_ok}
use Rattle.tab_server.proofs.Forwarding.{ended, passes_at, passes_kept, passes_then}
use Rattle.tab_server.proofs.events.Events.send_waiting.Goals as goal

pub returns-clause-sent : goal.returns-clause-sent
returns-clause-sent g c =
    let S = g.O.Outlet.sent in
    let B = g.O.Outlet.broken in
    let n = c.args.self.now.seat in
    let d = c.args.self.now.delivery in
    let m = mailbox_of c.args.self.now.inbox.now in
    let first = received c.args.self.now.inbox.now in
    let came = c.keep_waiting.new.self in
    let all = c.keep_missed.new.self in
    let last = c.send.new.self in
    let missed = passes_at S B n came.seat d came.delivery m (mailbox_of came.inbox.now) (received came.inbox.now) came.outlet came.frames.now.items (received all.inbox.now) all.outlet all.frames.now.items
    c.in_ok-received.ensures.seat c.in_ok-received.ensures.delivery c.in_ok-received.ensures.mailbox c.in_ok-keep_missed.ensures.sent in
    on_ok c.send.result c.send.ensures.bytes (λ goes.
    passes_then S B n d m first (received came.inbox.now) (received last.inbox.now) _ _ _ _ _ _ c.in_ok-received.ensures.sent
    (passes_then S B n d m (received came.inbox.now) (received all.inbox.now) (received last.inbox.now) _ _ _ _ _ _ missed
    (passes_kept S B n d m (received all.inbox.now) (received last.inbox.now) all.outlet last.outlet all.frames.now.items last.frames.now.items (ap received c.send.ensures.inbox) goes)))

pub returns-clause-end : goal.returns-clause-end
returns-clause-end g c =
    let n = c.args.self.now.seat in
    let m = mailbox_of c.args.self.now.inbox.now in
    let came = c.keep_waiting.new.self in
    let all = c.keep_missed.new.self in
    let last = c.send.new.self in
    on_ok c.send.result c.send.ensures.bytes (λ _.
    ended n came.seat m (mailbox_of came.inbox.now) (received c.args.self.now.inbox.now) (received came.inbox.now) (received last.inbox.now) c.args.taken c.in_ok-received.received
    c.args.self.now.shared.now.room came.shared.now.room c.in_ok-received.ensures.seat c.in_ok-received.ensures.mailbox c.in_ok-received.ensures.count (ap (λ s. s.now.room) c.in_ok-received.ensures.shared)
    (all.inbox.now ≡ came.inbox.now) (received all.inbox.now) (ap received) c.in_ok-keep_missed.ensures.end (ap received c.send.ensures.inbox))
