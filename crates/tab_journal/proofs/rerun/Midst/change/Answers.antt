use Rattle.std.proofs.Common.{sym, subst}
use Rattle.tab_model.specs.Catalogs.{IsOrderedCatalog}
use Rattle.tab_journal.proofs.AuditLemmas.{effect_ordered}
use Rattle.tab_journal.proofs.rerun.Midst.change.Goals as goal

pub invariant_of-result : goal.invariant_of-result
invariant_of-result c = (subst IsOrderedCatalog (sym c.in_ok-after.ensures) (effect_ordered c.self.inside.now c.args.operation.now c.self.invariant.0), c.self.invariant.1, c.self.invariant.2)
