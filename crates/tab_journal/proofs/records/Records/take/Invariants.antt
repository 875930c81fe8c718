use Rattle.std.proofs.Common.{◌≡◌, ◌++◌, length}
use Rattle.tab_rows.specs.Joined.{joined}
use Rattle.tab_journal.proofs.records.Records.take.Given as goal

-- what is left is as it was
abbrev pub invariant-loop-first : goal.invariant-loop-first
invariant-loop-first l = l.self-inside.left ++ joined l.self-inside.walk ≡ l.fn.self

abbrev pub decreases-loop-first : goal.decreases-loop-first
decreases-loop-first l = length l.self-inside.walk
