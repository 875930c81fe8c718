use Rattle.std.proofs.Common.{◌≡◌, drop}
use Rattle.tab_model.specs.Names.{has_name}
use Rattle.tab_schema.proofs.attributes.contains.Given as goal

abbrev pub invariant-loop-other : goal.invariant-loop-other
invariant-loop-other l = has_name (drop l.other-index l.names) l.name ≡ has_name l.names l.name
