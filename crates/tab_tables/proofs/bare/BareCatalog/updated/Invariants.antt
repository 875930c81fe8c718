use Rattle.std.proofs.Common.{◌≡◌, drop}
use Rattle.tab_model.specs.Events.{change_all}
use Rattle.tab_tables.proofs.bare.BareCatalog.updated.Given as goal

-- the changes that are left lead to the same tables
abbrev pub invariant-loop-update : goal.invariant-loop-update
invariant-loop-update l = change_all l.tables (drop l.update-index l.updates) ≡ change_all l.self l.updates
