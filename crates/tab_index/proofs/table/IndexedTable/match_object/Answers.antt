use Rattle.std.proofs.Common.{sym, ap, ◌∙◌}
use Rattle.std.specs.Prelude.{option_map}
use Rattle.std.specs.List.{filter}
use Rattle.std.specs.Option.{option_copied}
use Rattle.std.proofs.lemmas.Result.{IfOk-weaker}
use Rattle.tab_term.specs.declared.term.Term.{Term}
use Rattle.tab_term.specs.Data.{PlainTerms}
use Rattle.tab_term.specs.Pattern.{matches}
use Rattle.tab_term.specs.View.{term, terms}
use Rattle.tab_lists.specs.ByKey.{Entry}
use Rattle.tab_model.specs.Names.{plain_terms, terms_list}
use Rattle.tab_model.specs.Tables.{Rows, at}
use Rattle.tab_model.specs.WholeTables.{match_object}
use Rattle.tab_records.proofs.NumbersLemmas.{list-plain}
use Rattle.tab_index.proofs.BoundKeyLemmas.{at_bound_key}
use Rattle.tab_index.proofs.table.IndexedTable.match_object.Goals as goal

pub returns-in_ok-try_clone-in-Some-entry : goal.returns-in_ok-try_clone-in-Some-entry
returns-in_ok-try_clone-in-Some-entry c =
    let rows = c.args.self.now.rows in
    let p = term c.args.pattern.now in
    let k = term c.in-Some.key.now in
    let bound = sym c.bound_key.ensures ∙ ap (λ o. option_map term (option_copied o)) c.in-Some.is in
    IfOk-weaker c.from_query-in-Some-entry.result _ _
    (λ found e. e ∙ ap (λ (t : Term). plain_terms (filter (matches (term t)) (terms_list c.in_ok-try_clone-in-Some-entry.field-0.1))) c.in_ok-try_clone.ensures
    ∙ ap (λ (x : Entry). plain_terms (match_object (terms_list x.1) p)) c.in_ok-try_clone-in-Some-entry.ensures
    ∙ ap (λ (ts : PlainTerms). plain_terms (match_object (terms_list ts) p)) c.in-Some-entry.ensures
    ∙ ap (λ (rs : Rows). plain_terms (match_object rs p)) (list-plain (at rows k)) ∙ ap plain_terms (at_bound_key p k rows bound))
    c.from_query-in-Some-entry.ensures

pub returns-in-None : goal.returns-in-None
returns-in-None c =
    let rows = c.args.self.now.rows in
    let p = term c.args.pattern.now in
    let k = term c.in-Some.key.now in
    let bound = sym c.bound_key.ensures ∙ ap (λ o. option_map term (option_copied o)) c.in-Some.is in
    let none = ap (λ (rs : Rows). plain_terms (match_object rs p)) (sym c.in-None.ensures) ∙ ap plain_terms (at_bound_key p k rows bound) in
    c.from_terms.ensures ∙ c.from_vec.ensures ∙ ap terms c.new.ensures.items ∙ none
