use Rattle.std.proofs.Common.{length, ap, sym, ◌∙◌}
use Rattle.tab_term.specs.Data.{count}
use Rattle.tab_rows.specs.Restored.{records_of}
use Rattle.tab_rows.proofs.SizeLemmas.{count-list}
use Rattle.tab_rows.proofs.rows.count_of.Goals as goal

pub returns-in-Some : goal.returns-in-Some
returns-in-Some c = c.len.ensures ∙ ap (λ e. count e.1) c.pair.ensures ∙ count-list _ ∙ ap (λ o. length (records_of o)) (sym c.in-Some.is)
