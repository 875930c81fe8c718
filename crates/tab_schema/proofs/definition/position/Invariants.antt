use Rattle.std.proofs.Common.{◌≡◌, ◌+◌, drop}
use Rattle.tab_term.specs.View.{term}
use Rattle.tab_model.specs.Definitions.{position_from}
use Rattle.tab_schema.proofs.definition.position.Given as goal

abbrev pub invariant-loop-n : goal.invariant-loop-n
invariant-loop-n l = position_from (l.n + 3) (drop l.n l.rest) (term l.named) ≡ position_from 3 l.rest (term l.named)
