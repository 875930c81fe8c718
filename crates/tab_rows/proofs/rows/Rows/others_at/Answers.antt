use Rattle.std.proofs.Common.{◌≡◌, ap, sym, subst, ◌∙◌}
use Rattle.std.specs.Prelude.{IfOk}
use Rattle.tab_term.specs.View.{term}
use Rattle.tab_model.specs.Names.{plain_terms, terms_list}
use Rattle.tab_model.specs.Tables.{delete_object}
use Rattle.tab_records.proofs.NumbersLemmas.{list-plain}
use Rattle.tab_rows.proofs.rows.Rows.others_at.Goals as goal

pub returns-in-Some : goal.returns-in-Some
returns-in-Some c =
    subst (λ rows. IfOk c.without.result (λ left. left ≡ plain_terms (delete_object rows (term c.args.row.now))))
    (ap terms_list (ap (λ e. e.1) c.pair.ensures ∙ c.in-Some.ensures) ∙ list-plain _) c.without.ensures

pub returns-in-None : goal.returns-in-None
returns-in-None c = c.new.ensures ∙ ap (λ rows. plain_terms (delete_object rows (term c.args.row.now))) (sym c.in-None.ensures)
