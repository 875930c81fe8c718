use Rattle.std.proofs.Common.{◌≤◌, length}
use Rattle.tab_post.proofs.ends.take_place.Given as goal

abbrev pub invariant-loop : goal.invariant-loop
invariant-loop g l = length l.fn.prefix ≤ length l.prefix
