use Rattle.std.proofs.Common.{sym, ap, ◌∙◌}
use Rattle.tab_term.specs.Data.{count}
use Rattle.tab_records.specs.Forms.{records_of}
use Rattle.tab_records.proofs.NumbersLemmas.{count-plain}
use Rattle.tab_records.proofs.records.Records.len.Goals as goal

pub returns-in-Many : goal.returns-in-Many
returns-in-Many c = c.len.ensures ∙ sym (count-plain _) ∙ ap count (sym (ap records_of c.in-Many.is) ∙ c.self.view_is)
