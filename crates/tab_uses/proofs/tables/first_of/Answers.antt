use Rattle.std.proofs.Common.{◌≡◌, ◌∷◌, sym, ap, ◌∙◌}
use Rattle.tab_lists.proofs.ListsLemmas.{list-plain}
use Rattle.tab_term.specs.View.{term}
use Rattle.tab_term.specs.declared.term.Term.{Term}
use Rattle.tab_model.specs.Names.{plain_terms, terms_list}
use Rattle.tab_model.specs.Tables.{Rows}
use Rattle.tab_uses.proofs.tables.first_of.Goals as goal

one_list : (xs ys : Rows) → plain_terms xs ≡ plain_terms ys → xs ≡ ys
one_list xs ys e = sym (list-plain xs) ∙ ap terms_list e ∙ list-plain ys

pub returns-in_ok-try_clone-in-Some : goal.returns-in_ok-try_clone-in-Some
returns-in_ok-try_clone-in-Some c rows e =
    let others : Rows = c.next.new.self in
    (others, sym (one_list c.iter.result rows (c.iter.ensures ∙ e)) ∙ c.in-Some.ensures.steps ∙ ap (λ (t : Term). term t ∷ others) (sym c.in_ok-try_clone-in-Some.ensures))

pub returns-in-None : goal.returns-in-None
returns-in-None c rows e = sym (one_list c.iter.result rows (c.iter.ensures ∙ e)) ∙ c.in-None.ensures.steps.0
