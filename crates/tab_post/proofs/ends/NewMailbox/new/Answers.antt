use Rattle.tab_post.proofs.Relays.{begins}
use Rattle.tab_post.proofs.ends.NewMailbox.new.Goals as goal

pub bounded_with-requires-clause-rule : goal.bounded_with-requires-clause-rule
bounded_with-requires-clause-rule c = begins
