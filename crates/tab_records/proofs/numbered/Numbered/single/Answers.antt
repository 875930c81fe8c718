use Rattle.std.proofs.Common.{◌∷◌, [], sym, ap, ◌∙◌, length}
use Rattle.tab_term.specs.View.{term}
use Rattle.tab_records.proofs.NumbersLemmas.{single_in, single_there}
use Rattle.tab_records.proofs.numbered.Numbered.single.Goals as goal

pub returns-in-Some : goal.returns-in-Some
returns-in-Some c =
    sym c.self.view_is
    ∙ single_in c.self.inside.by_number c.in-Some.entry.now (ap length c.self.view_is ∙ sym c.len.ensures ∙ c.if-len-ne1.false) c.in-Some.ensures.entry
    ∙ ap (λ e. term e.1.0 ∷ []) (sym c.pair.ensures) ∙ ap (λ e. term e.0 ∷ []) (sym c.pair-in-Some.ensures)

pub returns-in-None : goal.returns-in-None
returns-in-None c = λ n. single_there c.self.inside.by_number (ap length c.self.view_is ∙ n) c.in-None.ensures.entry
