use Rattle.std.proofs.Common.{◌∙◌, refl, ap, subst, ℕ, List}
use Rattle.tab_post.specs.Ends.{mailbox_of, received}
use Rattle.tab_proto.specs.declared.events.Delivery.{Delivery}
use Rattle.tab_proto.specs.Events.{sent_frames}
use Rattle.tab_server.specs.Sending.{Goes}
use Rattle.tab_server.proofs.Forwarding.{after_none, after_one, passes_none, passes_item, passes_then}
use Rattle.tab_server.proofs.events.Events.keep_waiting.Goals as goal

pub loop-init : goal.loop-init
loop-init g c =
    let now = c.args.self.now in (tt, tt, refl, refl, refl, refl, after_none c.args.taken (received now.inbox.now), (refl, refl), passes_none g.O.Outlet.sent g.O.Outlet.broken now.seat now.delivery (mailbox_of now.inbox.now) (received now.inbox.now) now.outlet now.frames.now.items)

pub loop-preserved : goal.loop-preserved
loop-preserved g c =
    let S = g.O.Outlet.sent in
    let B = g.O.Outlet.broken in
    let n = c.args.self.now.seat in
    let d = c.args.self.now.delivery in
    let m = mailbox_of c.args.self.now.inbox.now in
    let first = received c.args.self.now.inbox.now in
    let old = c.loop.self in
    let new = c.keep.new.self in
    let bytes = ap (λ (e : Delivery). sent_frames e c.in-Some-try_receive.item) c.loop.invariant.4 in
    let goes = subst (λ (r : List ℕ). Goes S B old.outlet old.frames.now.items new.outlet new.frames.now.items r) bytes c.in_ok-keep.ensures.bytes in
    let taken = ap received c.keep.ensures.inbox ∙ c.in-Some-try_receive.ensures.next in (
      tt,
      tt,
      ap mailbox_of c.keep.ensures.inbox ∙ c.in-Some-try_receive.ensures.stays.1 ∙ c.loop.invariant.2,
      c.keep.ensures.seat ∙ c.loop.invariant.3,
      c.keep.ensures.delivery ∙ c.loop.invariant.4,
      c.keep.ensures.shared ∙ c.loop.invariant.5,
      after_one first (received old.inbox.now) (received new.inbox.now) c.in-Some-try_receive.item c.args.taken c.loop.taken c.with-taken.result taken c.loop.invariant.6 c.with-taken.ensures.items c.with-taken.ensures.bytes,
      (c.keep.ensures.slots.0 ∙ c.loop.invariant.7.0, c.keep.ensures.slots.1 ∙ c.loop.invariant.7.1),
      passes_then S B n d m first (received old.inbox.now) (received new.inbox.now) _ _ _ _ _ _ c.loop.invariant.8
          (passes_item S B n d m (received old.inbox.now) (received new.inbox.now) old.outlet new.outlet old.frames.now.items new.frames.now.items c.in-Some-try_receive.item taken goes),
    )
