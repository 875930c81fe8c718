use Rattle.std.proofs.Common.{ap, sym, ◌∙◌}
use Rattle.std.proofs.lemmas.Result.{IfOk-weaker}
use Rattle.tab_term.specs.View.{term}
use Rattle.tab_model.proofs.TableLaws.{same_true}
use Rattle.tab_rows.proofs.rows.entry_at.Goals as goal

pub returns-then-eq-clause-key : goal.returns-then-eq-clause-key
returns-then-eq-clause-key c =
    let here = ap (λ e. term e.0) (sym c.pair.ensures) ∙ same_true _ _ (sym c.eq.ensures ∙ c.if-eq.true) in
    IfOk-weaker c.try_clone.result _ _ (λ found e. ap (λ x. term x.0) e ∙ here) c.try_clone.ensures
