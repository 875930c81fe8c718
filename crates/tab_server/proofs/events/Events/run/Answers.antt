use Rattle.std.proofs.Common.{◌∙◌, refl, ap, subst, ℕ, List}
use Rattle.tab_post.specs.Ends.{mailbox_of, received}
use Rattle.tab_proto.specs.declared.events.Delivery.{Delivery}
use Rattle.tab_proto.specs.Events.{sent_frames}
use Rattle.tab_server.specs.Sending.{Goes}
use Rattle.tab_server.proofs.Forwarding.{passes_at, passes_none, passes_item, passes_then}
use Rattle.tab_server.proofs.events.Events.run.Goals as goal

pub loop-init : goal.loop-init
loop-init g c =
    let now = c.args.self.now in (tt, tt, refl, refl, refl, passes_none g.O.Outlet.sent g.O.Outlet.broken now.seat now.delivery (mailbox_of now.inbox.now) (received now.inbox.now) now.outlet now.frames.now.items)

pub loop-preserved : goal.loop-preserved
loop-preserved g c =
    let S = g.O.Outlet.sent in
    let B = g.O.Outlet.broken in
    let n = c.args.self.now.seat in
    let d = c.args.self.now.delivery in
    let m = mailbox_of c.args.self.now.inbox.now in
    let first = received c.args.self.now.inbox.now in
    let old = c.loop.self in
    let new = c.keep.new.self in
    let last = c.send_waiting.new.self in
    let bytes = ap (λ (e : Delivery). sent_frames e c.in-Some-receive.item) c.loop.invariant.4 in
    let goes = subst (λ (r : List ℕ). Goes S B old.outlet old.frames.now.items new.outlet new.frames.now.items r) bytes c.in_ok-keep.ensures.bytes in
    let taken = ap received c.keep.ensures.inbox ∙ c.in-Some-receive.ensures.next in
    let mailbox = ap mailbox_of c.keep.ensures.inbox ∙ c.in-Some-receive.ensures.stays.1 ∙ c.loop.invariant.2 in
    let seat = c.keep.ensures.seat ∙ c.loop.invariant.3 in
    let delivery = c.keep.ensures.delivery ∙ c.loop.invariant.4 in
    let one = passes_item S B n d m (received old.inbox.now) (received new.inbox.now) old.outlet new.outlet old.frames.now.items new.frames.now.items c.in-Some-receive.item taken goes in
    let others = passes_at S B n new.seat d new.delivery m (mailbox_of new.inbox.now) (received new.inbox.now) new.outlet new.frames.now.items (received last.inbox.now) last.outlet last.frames.now.items
    seat delivery mailbox c.in_ok-send_waiting.ensures.sent in (
      tt,
      tt,
      c.send_waiting.ensures.mailbox ∙ mailbox,
      c.send_waiting.ensures.seat ∙ seat,
      c.send_waiting.ensures.delivery ∙ delivery,
      passes_then S B n d m first (received old.inbox.now) (received last.inbox.now) _ _ _ _ _ _ c.loop.invariant.5
          (passes_then S B n d m (received old.inbox.now) (received new.inbox.now) (received last.inbox.now) _ _ _ _ _ _ one others),
    )
