use Rattle.std.proofs.Common.{◌≡◌}
use Rattle.tab_post.specs.Ends.{mailbox_of, received}
use Rattle.tab_post.specs.Rooms.{IsAfter}
use Rattle.tab_server.proofs.Forwarding.{Passes}
use Rattle.tab_server.proofs.events.Events.keep_waiting.Given as goal

abbrev pub invariant-loop : goal.invariant-loop
invariant-loop g l =
    (goal.iterator-loop g).can_next l.iterator' × (goal.iterator-loop g).is_finite l.iterator'
    × (mailbox_of l.self.inbox.now ≡ mailbox_of l.initial.self.inbox.now) × (l.self.seat ≡ l.initial.self.seat) × (l.self.delivery ≡ l.initial.self.delivery)
    × (l.self.shared ≡ l.initial.self.shared) × IsAfter l.initial.taken (received l.initial.self.inbox.now) (received l.self.inbox.now) l.taken
    × ((l.self.inbox.ghost_name ≡ l.initial.self.inbox.ghost_name) × (l.self.frames.ghost_name ≡ l.initial.self.frames.ghost_name))
    × Passes g.O.Outlet.sent g.O.Outlet.broken l.initial.self.seat l.initial.self.delivery (mailbox_of l.initial.self.inbox.now)
    (received l.initial.self.inbox.now) l.initial.self.outlet l.initial.self.frames.now.items (received l.self.inbox.now) l.self.outlet l.self.frames.now.items
