use Rattle.std.proofs.Common.{ap}
use Rattle.tab_post.proofs.Relays.{gets}
use Rattle.tab_post.proofs.inbox.Inbox.receive.Goals as goal

pub recv_as-requires-clause-rule : goal.recv_as-requires-clause-rule
recv_as-requires-clause-rule g c = (gets _ _ (ap (λ v. v.takes) c.args.self.now.role), λ items views kept at. tt)
