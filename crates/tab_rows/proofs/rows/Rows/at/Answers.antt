use Rattle.std.proofs.Common.{ap, sym, ◌∙◌}
use Rattle.tab_model.specs.Names.{terms_list}
use Rattle.tab_records.proofs.NumbersLemmas.{list-plain}
use Rattle.tab_rows.proofs.rows.Rows.at.Goals as goal

pub returns-in-Some : goal.returns-in-Some
returns-in-Some c = c.iter.ensures ∙ ap terms_list (ap (λ e. e.1) c.pair.ensures ∙ c.in-Some.ensures) ∙ list-plain _

pub returns-in-None : goal.returns-in-None
returns-in-None c = c.over.ensures ∙ sym c.in-None.ensures
