use Rattle.std.proofs.Common.{rules}
use Rattle.tab_post.proofs.Relays.{forks}
use Rattle.tab_post.proofs.ends.NewMailbox.enter.Goals as goal

pub another-taking-requires-clause-rule : goal.another-taking-requires-clause-rule
another-taking-requires-clause-rule g c = forks _ _ (search rules) (search rules)
