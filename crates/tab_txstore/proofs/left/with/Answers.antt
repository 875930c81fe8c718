use Rattle.std.proofs.Common.{◌≡◌, ap, sym, ◌∙◌, ◌++◌, ◌∷◌, [], Bool, true, false, refl}
use Rattle.std.specs.Prelude.{if◌then◌else◌}
use Rattle.tab_term.specs.Data.{PlainTerm, PlainTerms}
use Rattle.tab_term.specs.View.{term}
use Rattle.tab_model.specs.Names.{plain_terms, terms_list}
use Rattle.tab_lists.proofs.ListsLemmas.{plain-list}
use Rattle.tab_records.specs.Forms.{with_one}
use Rattle.tab_txstore.proofs.left.with.Goals as goal

either : (ts : PlainTerms) (r : PlainTerm) (b : Bool) → (if b then ts else plain_terms (terms_list ts ++ r ∷ [])) ≡ plain_terms (if b then terms_list ts else terms_list ts ++ r ∷ [])
either ts r true = sym (plain-list ts)
either ts r false = refl

pub returns-then-contains : goal.returns-then-contains
returns-then-contains c =
    c.in_ok-all.ensures ∙ sym (plain-list _)
    ∙ ap (λ b. plain_terms (if b then terms_list c.args.records.now else terms_list c.args.records.now ++ term c.args.row.now ∷ [])) (sym c.if-contains.true ∙ c.contains.ensures)

pub returns : goal.returns
returns c =
    c.in_ok-insert.ensures.ok
    ∙ ap (λ ts. with_one ts (term c.args.row.now)) c.in_ok-all.ensures
    ∙ either c.args.records.now (term c.args.row.now) _
