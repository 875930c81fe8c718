use Rattle.std.proofs.Common.{ap}
use Rattle.tab_post.proofs.Relays.{gets}
use Rattle.tab_post.proofs.inbox.Inbox.try_receive.Goals as goal

pub try_recv_as-requires-clause-rule : goal.try_recv_as-requires-clause-rule
try_recv_as-requires-clause-rule g c = (gets _ _ (ap (λ v. v.takes) c.args.self.now.role), λ items views kept at. tt)
