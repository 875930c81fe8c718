use Rattle.std.proofs.Common.{◌≡◌, ◌++◌, drop}
use Rattle.tab_model.specs.Definitions.{less_number}
use Rattle.tab_schema.proofs.definition.without_index.Given as goal

-- what is left of the positions, less the one, after those that are kept
abbrev pub invariant-loop-other : goal.invariant-loop-other
invariant-loop-other l = l.positions.items ++ less_number l.position (drop l.other-index l.other-items) ≡ less_number l.position l.other-items
