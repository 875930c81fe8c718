use Rattle.std.proofs.Common.{◌≡◌, drop}
use Rattle.tab_model.specs.Definitions.{has_number}
use Rattle.tab_index.specs.Indexed.{positions}
use Rattle.tab_index.proofs.indexes.index_at.Given as goal

abbrev pub invariant-loop-index : goal.invariant-loop-index
invariant-loop-index l = has_number (positions (drop l.index-index l.indexes)) l.position ≡ has_number (positions l.indexes) l.position
