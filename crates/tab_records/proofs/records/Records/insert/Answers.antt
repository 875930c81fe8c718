use Rattle.std.proofs.Common.{◌++◌, ◌∷◌, [], sym, ap, ◌∙◌}
use Rattle.std.specs.Prelude.{if◌then◌else◌}
use Rattle.std.specs.List.{list_any}
use Rattle.tab_term.specs.Data.{plain_terms, terms_list}
use Rattle.tab_term.specs.Same.{same}
use Rattle.tab_term.specs.View.{term}
use Rattle.tab_records.specs.Forms.{records_of}
use Rattle.tab_records.proofs.NumbersLemmas.{list-plain}
use Rattle.tab_records.proofs.records.Records.insert.Goals as goal

pub returns-in-Many-clause-ok : goal.returns-in-Many-clause-ok
returns-in-Many-clause-ok c =
    let all = c.args.self.now in
    let row = term c.args.row.now in
    let view = sym (ap records_of c.in-Many.is) ∙ c.self.view_is in
    let there = sym c.if-contains.true ∙ c.contains.ensures ∙ ap (list_any (same row)) (sym (list-plain _) ∙ ap terms_list view) in
    view ∙ ap (λ b. if b then all else plain_terms (terms_list all ++ row ∷ [])) there

pub returns-in_ok-push-in-Many-2-clause-ok : goal.returns-in_ok-push-in-Many-2-clause-ok
returns-in_ok-push-in-Many-2-clause-ok c =
    let all = c.args.self.now in
    let row = term c.args.row.now in
    let one = sym (list-plain _) ∙ ap terms_list (sym (ap records_of c.in-Many.is) ∙ c.self.view_is) in
    ap plain_terms c.in_ok-push-in-Many-2.ensures.ok ∙ ap (λ ts. plain_terms (ts ++ row ∷ [])) one
    ∙ ap (λ b. if b then all else plain_terms (terms_list all ++ row ∷ [])) (sym c.if-contains.false ∙ c.contains.ensures ∙ ap (list_any (same row)) one)
