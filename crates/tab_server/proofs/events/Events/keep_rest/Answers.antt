use Rattle.std.proofs.Common.{◌∙◌, refl, ap, subst, ℕ, List}
use Rattle.tab_post.specs.Ends.{mailbox_of, received}
use Rattle.tab_proto.specs.declared.events.Delivery.{Delivery}
use Rattle.tab_proto.specs.Events.{sent_frames}
use Rattle.tab_book.specs.declared.step.Drained.TheVariants.{Overflow}
use Rattle.tab_book.specs.Inboxes.{IsDrained}
use Rattle.tab_server.specs.Sending.{Goes}
use Rattle.tab_server.proofs.Forwarding.{goes_kept, passes_none, passes_item, passes_overflow, passes_then}
use Rattle.tab_server.proofs.events.Events.keep_rest.Goals as goal

pub loop-init : goal.loop-init
loop-init g c =
    let now = c.args.self.now in (tt, tt, refl, refl, refl, (refl, refl), passes_none g.O.Outlet.sent g.O.Outlet.broken now.seat now.delivery (mailbox_of now.inbox.now) (received now.inbox.now) now.outlet now.frames.now.items)

pub loop-preserved-in-Going : goal.loop-preserved-in-Going
loop-preserved-in-Going g c =
    let S = g.O.Outlet.sent in
    let B = g.O.Outlet.broken in
    let n = c.args.self.now.seat in
    let d = c.args.self.now.delivery in
    let m = mailbox_of c.args.self.now.inbox.now in
    let first = received c.args.self.now.inbox.now in
    let old = c.loop.self in
    let new = c.keep.new.self in
    let bytes = ap (λ (e : Delivery). sent_frames e c.in-Going.item) c.loop.invariant.4 in
    let goes = subst (λ (r : List ℕ). Goes S B old.outlet old.frames.now.items new.outlet new.frames.now.items r) bytes c.in_ok-keep-in-Going.ensures.bytes in
    let taken = ap received c.keep.ensures.inbox ∙ c.in-Going.ensures.takes in (
      tt,
      tt,
      ap mailbox_of c.keep.ensures.inbox ∙ c.in-Going.ensures.mailbox ∙ c.loop.invariant.2,
      c.keep.ensures.seat ∙ c.loop.invariant.3,
      c.keep.ensures.delivery ∙ c.loop.invariant.4,
      (c.keep.ensures.slots.0 ∙ c.loop.invariant.5.0, c.keep.ensures.slots.1 ∙ c.loop.invariant.5.1),
      passes_then S B n d m first (received old.inbox.now) (received new.inbox.now) _ _ _ _ _ _ c.loop.invariant.6
          (passes_item S B n d m (received old.inbox.now) (received new.inbox.now) old.outlet new.outlet old.frames.now.items new.frames.now.items c.in-Going.item taken goes),
    )

pub loop-preserved : goal.loop-preserved
loop-preserved g c =
    let S = g.O.Outlet.sent in
    let B = g.O.Outlet.broken in
    let n = c.args.self.now.seat in
    let d = c.args.self.now.delivery in
    let m = mailbox_of c.args.self.now.inbox.now in
    let first = received c.args.self.now.inbox.now in
    let old = c.loop.self in
    let after = received c.drained.new.inbox in
    let of_session = subst (λ (k : ℕ). IsDrained k (mailbox_of old.inbox.now) (received old.inbox.now) (Overflow c.in-Overflow.number) after) c.loop.invariant.3 c.in-Overflow.ensures.of_a_running_book in
    let is = subst (λ (k : ℕ). IsDrained n k (received old.inbox.now) (Overflow c.in-Overflow.number) after) c.loop.invariant.2 of_session in (
      tt,
      tt,
      c.in-Overflow.ensures.mailbox ∙ c.loop.invariant.2,
      c.loop.invariant.3,
      c.loop.invariant.4,
      c.loop.invariant.5,
      passes_then S B n d m first (received old.inbox.now) after _ _ _ _ _ _ c.loop.invariant.6
          (passes_overflow S B n d m (received old.inbox.now) after old.outlet old.frames.now.items c.append_overflow.new.out.items c.in-Overflow.number c.in-Overflow.ensures.takes is
          (goes_kept S B old.outlet old.frames.now.items c.append_overflow.new.out.items _ c.in_ok-append_overflow-in-Overflow.ensures.ok)),
    )
