use Rattle.std.proofs.Common.{sym, ap, ◌∙◌}
use Rattle.tab_records.specs.Forms.{records_of}
use Rattle.tab_records.proofs.NumbersLemmas.{single_plain}
use Rattle.tab_records.proofs.records.Records.single.Goals as goal

pub returns-in-Many : goal.returns-in-Many
returns-in-Many c = single_plain _ _ c.single.result (sym (ap records_of c.in-Many.is) ∙ c.self.view_is) c.single.ensures
