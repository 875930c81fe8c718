use Rattle.std.proofs.Common.{sym, ap, ◌∙◌}
use Rattle.std.specs.List.{list_any}
use Rattle.tab_term.specs.Data.{terms_list}
use Rattle.tab_term.specs.Same.{same}
use Rattle.tab_term.specs.View.{term}
use Rattle.tab_model.specs.Tables.{at}
use Rattle.tab_records.proofs.NumbersLemmas.{list-plain}
use Rattle.tab_index.proofs.index.has_record.Goals as goal

pub returns-in-Some : goal.returns-in-Some
returns-in-Some c =
    let test = list_any (same (term c.args.row.now)) in
    c.contains.ensures ∙ ap (λ ts. test (terms_list ts)) (ap (λ e. e.1) c.pair.ensures ∙ c.in-Some.ensures) ∙ ap test (list-plain (at c.args.rows.now.1 (term c.args.key.now)))

pub returns-in-None : goal.returns-in-None
returns-in-None c = ap (list_any (same (term c.args.row.now))) (sym c.in-None.ensures)
