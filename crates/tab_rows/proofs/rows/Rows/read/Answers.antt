use Rattle.std.proofs.Common.{ap, sym, ◌∙◌}
use Rattle.tab_term.specs.View.{terms}
use Rattle.tab_model.specs.Names.{plain_terms}
use Rattle.tab_rows.proofs.rows.Rows.read.Goals as goal

pub returns-in_ok-try_clone-in-Some : goal.returns-in_ok-try_clone-in-Some
returns-in_ok-try_clone-in-Some c = c.from_entry.ensures ∙ ap (λ e. e.1) c.in_ok-try_clone-in-Some.ensures ∙ c.in-Some.ensures

pub returns-in-None : goal.returns-in-None
returns-in-None c = c.from_terms.ensures ∙ c.from_vec.ensures ∙ ap terms c.new.ensures.items ∙ ap plain_terms (sym c.in-None.ensures)
