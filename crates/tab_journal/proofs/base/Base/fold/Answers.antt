use Rattle.std.proofs.Common.{sym, subst, ◌∙◌}
use Rattle.tab_model.specs.declared.data.Entry.TheVariants as entry
use Rattle.tab_model.specs.Catalogs.{IsOrderedCatalog}
use Rattle.tab_journal.proofs.AuditLemmas.{all_changed_ordered, folded_ordered}
use Rattle.tab_journal.proofs.base.Base.fold.Goals as goal

pub invariant_of-self-in-Committed : goal.invariant_of-self-in-Committed
invariant_of-self-in-Committed g c = subst IsOrderedCatalog (sym c.in_ok-update-in-Committed.ensures.ok) (all_changed_ordered c.self.inside.tables c.as_slice-in-Committed.result.now c.self.invariant)

pub invariant_of-self-in-Changed : goal.invariant_of-self-in-Changed
invariant_of-self-in-Changed g c =
    subst IsOrderedCatalog (sym (c.replace-before.ensures.after ∙ c.in_ok-tables-in-Changed.ensures)) (folded_ordered c.self.inside.tables (entry.Changed c.in-Changed.command c.in-Changed.overflowed) c.self.invariant)
