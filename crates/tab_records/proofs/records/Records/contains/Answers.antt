use Rattle.std.proofs.Common.{sym, ap, ◌∙◌}
use Rattle.std.specs.List.{list_any}
use Rattle.tab_term.specs.Same.{same}
use Rattle.tab_term.specs.View.{term}
use Rattle.tab_term.specs.Data.{terms_list}
use Rattle.tab_records.specs.Forms.{records_of}
use Rattle.tab_records.proofs.NumbersLemmas.{list-plain}
use Rattle.tab_records.proofs.records.Records.contains.Goals as goal

pub returns-in-Many : goal.returns-in-Many
returns-in-Many c =
    c.contains.ensures
    ∙ ap (list_any (same (term c.args.row.now))) (sym (list-plain _) ∙ ap terms_list (sym (ap records_of c.in-Many.is) ∙ c.self.view_is))
