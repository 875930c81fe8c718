use Rattle.std.proofs.Common.{◌≡◌, drop}
use Rattle.tab_model.specs.Events.{change_all}
use Rattle.tab_tables.proofs.catalog.Catalog.updated.Given as goal

-- the changes that are left lead to the same tables
abbrev pub invariant-loop-change : goal.invariant-loop-change
invariant-loop-change l = change_all l.changing (drop l.change-index l.changes) ≡ change_all l.self l.changes
