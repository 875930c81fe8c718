use Rattle.std.proofs.Common.{◌≡◌}
use Rattle.std.specs.List.{list_all}
use Rattle.tab_term.specs.Pattern.{matches}
use Rattle.tab_term.specs.View.{term}
use Rattle.tab_model.specs.Names.{terms_list}
use Rattle.tab_index.proofs.matching.fits.Given as goal

abbrev pub invariant-loop-row : goal.invariant-loop-row
invariant-loop-row l = list_all (matches (term l.pattern)) l.row-iterator ≡ list_all (matches (term l.pattern)) (terms_list l.entry.1)
