use Rattle.std.proofs.Common.{◌≡◌, take}
use Rattle.tab_term.specs.View.{terms}
use Rattle.tab_model.specs.Names.{names}
use Rattle.tab_tables.proofs.schemas.names.Given as goal

abbrev pub invariant-loop-name : goal.invariant-loop-name
invariant-loop-name l = terms l.terms.items ≡ names (take l.name-index l.attributes)
