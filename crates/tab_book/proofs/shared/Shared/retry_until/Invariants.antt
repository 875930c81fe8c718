use mathlib.Core.List.{IsPrefix}
use Rattle.tab_book.proofs.shared.Shared.retry_until.Given as goal

-- what was seen goes on
abbrev pub invariant-loop : goal.invariant-loop
invariant-loop g l = IsPrefix l.fn.seen l.seen
