use Rattle.std.proofs.Common.{sym, ap, ◌∙◌}
use Rattle.tab_term.specs.View.{term}
use Rattle.tab_term.specs.Data.{plain_terms, terms_list}
use Rattle.tab_records.specs.Forms.{records_of}
use Rattle.tab_records.proofs.NumbersLemmas.{list-plain, others}
use Rattle.tab_records.proofs.records.Records.without.Goals as goal

pub returns-in_ok-without-in-Many : goal.returns-in_ok-without-in-Many
returns-in_ok-without-in-Many c =
    ap plain_terms c.in_ok-without-in-Many.ensures
    ∙ ap (λ ts. plain_terms (others (term c.args.row.now) ts)) (sym (list-plain _) ∙ ap terms_list (sym (ap records_of c.in-Many.is) ∙ c.self.view_is))
