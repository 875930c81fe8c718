use Rattle.std.proofs.Common.{◌≡◌, length}
use Rattle.tab_journal.specs.Audits.{same_rows}
use Rattle.tab_journal.proofs.same.have_same_records.Given as goal

abbrev pub invariant-loop-row : goal.invariant-loop-row
invariant-loop-row l = same_rows l.ones l.others ≡ same_rows l.one.rows l.other.rows

abbrev pub decreases-loop-row : goal.decreases-loop-row
decreases-loop-row l = length l.ones
