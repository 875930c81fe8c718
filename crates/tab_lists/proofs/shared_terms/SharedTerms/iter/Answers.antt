use Rattle.std.proofs.Common.{sym, ap, ◌∙◌}
use Rattle.tab_term.specs.Data.{plain_terms}
use Rattle.tab_lists.specs.Lists.{listed}
use Rattle.tab_lists.proofs.ListsLemmas.{plain-list}
use Rattle.tab_lists.proofs.shared_terms.SharedTerms.iter.Goals as goal

pub returns-in-Own : goal.returns-in-Own
returns-in-Own c = ap plain_terms c.over.ensures ∙ plain-list _ ∙ c.as_slice.ensures.items ∙ sym (ap listed c.in-Own.is) ∙ c.form.ensures

pub returns-in-Entry : goal.returns-in-Entry
returns-in-Entry c =
    ap plain_terms (c.over_records_of.ensures ∙ c.iter.ensures) ∙ plain-list _ ∙ ap (λ e. e.1) c.pair.ensures ∙ sym (ap listed c.in-Entry.is) ∙ c.form.ensures
