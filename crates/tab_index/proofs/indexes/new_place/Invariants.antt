use Rattle.std.proofs.Common.{◌≡◌, ◌++◌, take, drop}
use Rattle.tab_model.specs.Definitions.{add_number}
use Rattle.tab_index.specs.Indexed.{positions}
use Rattle.tab_index.proofs.indexes.new_place.Given as goal

abbrev pub invariant-loop-n : goal.invariant-loop-n
invariant-loop-n l = add_number l.position (positions l.indexes) ≡ positions (take l.n l.indexes) ++ add_number l.position (positions (drop l.n l.indexes))
