use Rattle.std.proofs.Common.{◌≡◌}
use Rattle.tab_tables.specs.Named.{catalog_of}
use Rattle.tab_journal.specs.Audits.{same_tables}
use Rattle.tab_journal.proofs.same.are_same_tables.Given as goal

abbrev pub invariant-loop-one : goal.invariant-loop-one
invariant-loop-one l = same_tables (catalog_of l.one-iterator) (catalog_of l.left) ≡ same_tables l.ones l.others
