use Rattle.std.proofs.Common.{◌≡◌, take}
use Rattle.tab_schema.proofs.definition.with_positions.Given as goal

abbrev pub invariant-loop-attribute : goal.invariant-loop-attribute
invariant-loop-attribute l = l.attributes.items ≡ take l.attribute-index l.def.attributes
