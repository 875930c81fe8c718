use Rattle.std.proofs.Common.{◌≡◌, drop}
use Rattle.tab_journal.specs.Audits.{same_names}
use Rattle.tab_journal.proofs.same.are_same_names.Given as goal

abbrev pub invariant-loop-place : goal.invariant-loop-place
invariant-loop-place l = same_names (drop l.place l.ones) (drop l.place l.others) ≡ same_names l.ones l.others
