use Rattle.std.proofs.Common.{◌≡◌, drop}
use Rattle.std.specs.Option.{option_copied}
use Rattle.tab_term.specs.View.{terms}
use Rattle.tab_model.specs.Definitions.{positions, first_fault}
use Rattle.tab_schema.specs.Options.{option_term}
use Rattle.tab_schema.proofs.options.indexed.Given as goal

abbrev pub invariant-loop-n : goal.invariant-loop-n
invariant-loop-n l = (l.indexes.items ≡ positions l.def (terms (drop l.n l.entries))) × (option_term (option_copied l.fault) ≡ first_fault l.def (terms (drop l.n l.entries)))
