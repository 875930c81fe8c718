use Rattle.std.proofs.Common.{◌≡◌, drop}
use Rattle.tab_model.specs.Definitions.{has_number}
use Rattle.tab_schema.proofs.definition.has_index.Given as goal

abbrev pub invariant-loop-index : goal.invariant-loop-index
invariant-loop-index l = has_number (drop l.index-index l.def.indexes) l.position ≡ has_number l.def.indexes l.position
