use Rattle.std.proofs.Common.{sym, ap, ◌∙◌}
use Rattle.tab_term.specs.Data.{terms_list}
use Rattle.tab_records.specs.Forms.{records_of}
use Rattle.tab_records.proofs.NumbersLemmas.{list-plain}
use Rattle.tab_records.proofs.records.Records.by_number.Goals as goal

pub returns-in-Many : goal.returns-in-Many
returns-in-Many c = c.by_number.ensures ∙ sym (list-plain _) ∙ ap terms_list (sym (ap records_of c.in-Many.is) ∙ c.self.view_is)
