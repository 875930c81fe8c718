use Rattle.std.proofs.Common.{ap, ◌∙◌}
use Rattle.tab_txstore.specs.Stores.{ended}
use Rattle.tab_txstore.proofs.KeptLemmas.{abort_rises, abort_levels}
use Rattle.tab_txstore.proofs.levels.TxLevels.end.Goals as goal

pub invariant_of-self : goal.invariant_of-self
invariant_of-self c = abort_rises c.self.inside.updates.items c.truncate.new.self.items c.self.inside.saved.items c.pop.new.self.items c.in-Some.field-0 c.in-Some.ensures.items c.truncate.ensures.items c.self.invariant

pub returns-in-Some : goal.returns-in-Some
returns-in-Some c =
    abort_levels c.self.inside.overlay c.self.inside.updates.items c.truncate.new.self.items c.self.inside.saved.items c.pop.new.self.items c.in-Some.field-0 c.in-Some.ensures.items c.truncate.ensures.items c.self.invariant
    ∙ ap ended c.self.view_is
