use Rattle.std.proofs.Common.{◌+◌, drop}
use Rattle.tab_term.specs.Order.{term_cmp}
use Rattle.tab_map.specs.Entries.{Ascends}
use Rattle.tab_schema.specs.Positions.{AreNamed}
use Rattle.tab_schema.proofs.positions.by_term.Given as goal

abbrev pub invariant-loop-n : goal.invariant-loop-n
invariant-loop-n l = Ascends term_cmp l.positions × AreNamed (l.n + 3) (drop l.n l.names) l.positions
