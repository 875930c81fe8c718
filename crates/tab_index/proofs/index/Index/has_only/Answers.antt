use Rattle.std.proofs.Common.{◌∷◌, [], map, sym, ap, ◌∙◌}
use Rattle.tab_term.specs.View.{term}
use Rattle.tab_model.specs.WholeTables.{element}
use Rattle.tab_model.proofs.TableLaws.{same_true}
use Rattle.tab_index.proofs.index.Index.has_only.Goals as goal

pub returns-in-None : goal.returns-in-None
returns-in-None c = λ h.
    ap (map (element c.args.self.now.position)) (c.in-Some.ensures.steps ∙ ap (λ rs. term c.in-Some.first.now ∷ rs) c.in-None.ensures.steps.0)
    ∙ ap (λ x. x ∷ []) (sym c.element.ensures ∙ same_true _ _ (sym c.eq.ensures ∙ h))
