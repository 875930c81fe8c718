use Rattle.std.proofs.Common.{◌≡◌, ◌++◌}
use Rattle.tab_tables.proofs.bare.BareCatalog.to_catalog.Given as goal

-- the tables that are made, and after them those that are left
abbrev pub invariant-loop-entry : goal.invariant-loop-entry
invariant-loop-entry l = l.tables.items ++ l.entry-iterator ≡ l.initial.entry-iterator
