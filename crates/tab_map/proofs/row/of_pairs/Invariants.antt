use Rattle.std.proofs.Common.{◌≡◌}
use Rattle.tab_map.proofs.row.of_pairs.Given as goal

abbrev pub invariant-loop-pair : goal.invariant-loop-pair
invariant-loop-pair g l = l.items.items ≡ l.yielded
