use Rattle.std.proofs.Common.{◌∷◌, [], sym, ap, ◌∙◌}
use Rattle.tab_term.specs.View.{term}
use Rattle.tab_term.specs.Data.{plain_terms}
use Rattle.tab_records.specs.Forms.{records_of, first_of}
use Rattle.tab_records.proofs.NumbersLemmas.{first_in, none_in}
use Rattle.tab_records.proofs.records.Records.first.Goals as goal

pub returns-in-Some : goal.returns-in-Some
returns-in-Some c =
    ap first_of (sym (sym (ap records_of c.in-Many.is) ∙ c.self.view_is) ∙ ap plain_terms (sym c.by_number.ensures))
    ∙ first_in c.by_number.result.now c.in-Some.entry.now c.in-Some.ensures.entry ∙ ap (λ e. term e.1.0 ∷ []) (sym c.pair.ensures) ∙ ap (λ e. term e.0 ∷ []) (sym c.pair-in-Some.ensures)

pub returns-in-None : goal.returns-in-None
returns-in-None c =
    sym (sym (ap records_of c.in-Many.is) ∙ c.self.view_is) ∙ ap plain_terms (sym c.by_number.ensures ∙ none_in c.by_number.result.now c.in-None.ensures.entry)
