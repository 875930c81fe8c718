use Rattle.std.proofs.Common.{◌≡◌}
use Rattle.tab_rows.proofs.rows.Rows.undo.Given as goal

-- nothing is undone yet
abbrev pub invariant-loop : goal.invariant-loop
invariant-loop g l = l.self ≡ l.fn.self
