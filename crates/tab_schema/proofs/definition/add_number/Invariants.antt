use Rattle.std.proofs.Common.{◌≡◌, ◌++◌, drop, take}
use Rattle.tab_model.specs.Definitions.{add_number}
use Rattle.tab_schema.proofs.definition.add_number.Given as goal

abbrev pub invariant-loop-other : goal.invariant-loop-other
invariant-loop-other l = (l.place ≡ l.other-index) × (take l.place l.other-items ++ add_number l.number (drop l.place l.other-items) ≡ add_number l.number l.other-items)
