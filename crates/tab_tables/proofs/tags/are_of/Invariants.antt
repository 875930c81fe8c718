use Rattle.std.proofs.Common.{◌≡◌, drop}
use Rattle.std.specs.List.{list_all}
use Rattle.tab_tables.specs.OneTable.{is_of}
use Rattle.tab_tables.proofs.tags.are_of.Given as goal

-- the updates that are left decide
abbrev pub invariant-loop-update : goal.invariant-loop-update
invariant-loop-update l = list_all (is_of l.name) (drop l.update-index l.updates) ≡ list_all (is_of l.name) l.updates
