use Rattle.std.proofs.Common.{◌≡◌, length}
use Rattle.tab_rows.specs.Former.{all_put_back}
use Rattle.tab_rows.proofs.rows.Rows.undo_all.Given as goal

-- what is left to be undone leads to the same rows
abbrev pub invariant-loop-before : goal.invariant-loop-before
invariant-loop-before g l = all_put_back l.self l.former.items ≡ all_put_back l.initial.self l.initial.former.items

abbrev pub decreases-loop-before : goal.decreases-loop-before
decreases-loop-before g l = length l.former.items
