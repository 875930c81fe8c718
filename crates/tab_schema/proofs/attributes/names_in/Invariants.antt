use Rattle.std.proofs.Common.{◌≡◌, drop}
use Rattle.tab_term.specs.View.{terms}
use Rattle.tab_model.specs.Definitions.{atoms_in}
use Rattle.tab_schema.proofs.NamesLemmas.{onto}
use Rattle.tab_schema.proofs.attributes.names_in.Given as goal

abbrev pub invariant-loop-element : goal.invariant-loop-element
invariant-loop-element l = onto l.names.items (atoms_in (terms (drop l.element-index l.listed))) ≡ atoms_in (terms l.listed)
