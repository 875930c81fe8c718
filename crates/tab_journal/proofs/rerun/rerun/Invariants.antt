use Rattle.tab_journal.proofs.AuditLemmas.{Runs}
use Rattle.tab_journal.proofs.rerun.rerun.Given as goal

-- the moves that are left go on from where the transaction stands
abbrev pub invariant-loop-place : goal.invariant-loop-place
invariant-loop-place l = Runs l.tables l.age l.moves l.told l.run l.place
