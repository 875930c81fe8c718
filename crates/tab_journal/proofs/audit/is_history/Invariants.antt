use Rattle.tab_journal.proofs.AuditLemmas.{Goes}
use Rattle.tab_journal.proofs.audit.is_history.Given as goal

-- the entries that are left go on from these tables
abbrev pub invariant-loop-entry : goal.invariant-loop-entry
invariant-loop-entry l = Goes l.base l.entries.items l.tables l.now l.commits l.entry-iterator
