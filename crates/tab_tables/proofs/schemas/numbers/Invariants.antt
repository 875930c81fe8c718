use Rattle.std.proofs.Common.{◌≡◌, take}
use Rattle.tab_term.specs.View.{terms}
use Rattle.tab_model.specs.Names.{numbers}
use Rattle.tab_tables.proofs.schemas.numbers.Given as goal

abbrev pub invariant-loop-position : goal.invariant-loop-position
invariant-loop-position l = terms l.terms.items ≡ numbers (take l.position-index l.positions)
