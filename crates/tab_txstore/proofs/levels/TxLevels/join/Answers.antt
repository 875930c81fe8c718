use Rattle.std.proofs.Common.{ap, ◌∙◌}
use Rattle.tab_txstore.specs.Stores.{joined}
use Rattle.tab_txstore.proofs.KeptLemmas.{commit_rises, commit_levels}
use Rattle.tab_txstore.proofs.levels.TxLevels.join.Goals as goal

pub invariant_of-self-2 : goal.invariant_of-self-2
invariant_of-self-2 c = commit_rises c.self.inside.updates.items c.self.inside.saved.items c.pop.new.self.items c.in-Some.parent c.in-Some.ensures.items c.self.invariant

pub returns : goal.returns
returns c = commit_levels c.self.inside.overlay c.self.inside.updates.items c.self.inside.saved.items c.pop.new.self.items c.in-Some.parent c.in-Some.ensures.items ∙ ap joined c.self.view_is
