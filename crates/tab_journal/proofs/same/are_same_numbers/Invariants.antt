use Rattle.std.proofs.Common.{◌≡◌, drop}
use Rattle.tab_journal.specs.Audits.{same_numbers}
use Rattle.tab_journal.proofs.same.are_same_numbers.Given as goal

abbrev pub invariant-loop-place : goal.invariant-loop-place
invariant-loop-place l = same_numbers (drop l.place l.ones) (drop l.place l.others) ≡ same_numbers l.ones l.others
