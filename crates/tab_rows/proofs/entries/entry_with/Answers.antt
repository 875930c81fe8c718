use Rattle.std.proofs.Common.{sym, ap, ◌∙◌}
use Rattle.tab_term.specs.View.{term}
use Rattle.tab_model.specs.Names.{terms_list}
use Rattle.tab_model.proofs.TableLaws.{same_true}
use Rattle.tab_rows.proofs.entries.entry_with.Goals as goal

pub returns-then-eq : goal.returns-then-eq
returns-then-eq c = record {
  key = ap (λ e. term e.0) (sym c.pair.ensures) ∙ same_true _ _ (sym c.eq.ensures ∙ c.if-eq.true) ∙ c.in_ok-key.ensures;
  only = ap (λ e. terms_list e.1) (sym c.pair.ensures) ∙ c.is_only.ensures c.if-is_only.true;
}
