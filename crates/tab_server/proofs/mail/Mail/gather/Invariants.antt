use Rattle.std.proofs.Common.{◌≡◌}
use Rattle.tab_post.specs.Ends.{received}
use Rattle.tab_server.specs.Gathered.{Adds}
use Rattle.tab_server.proofs.mail.Mail.gather.Given as goal

abbrev pub invariant-loop : goal.invariant-loop
invariant-loop g l =
    (goal.iterator-loop g).can_next l.iterator' × (goal.iterator-loop g).is_finite l.iterator'
    × Adds l.delivery (received l.initial.self.inbox) l.initial.self.frames.items (received l.self.inbox) l.self.frames.items × (l.self.long ≡ l.initial.self.long)
