use Rattle.std.proofs.Common.{sym, ap, ◌∙◌, subst}
use Rattle.tab_map.specs.Revised.{revised_at}
use Rattle.tab_model.specs.Operations.{change_catalog}
use Rattle.tab_term.specs.Order.{bytes_cmp}
use Rattle.tab_tables.specs.Named.{catalog_of, AreNamed}
use Rattle.tab_tables.proofs.NamedLemmas.{changed, altered, named_altered}
use Rattle.tab_tables.proofs.catalog.Catalog.change.Goals as goal

pub invariant_of-self-2 : goal.invariant_of-self-2
invariant_of-self-2 c =
    let es = c.self.inside.by_name in
    let change = c.args.update.now in
    let name = c.in_ok-name.ensures in
    subst AreNamed (sym (c.in_ok-revise.ensures.ok ∙ ap (λ n. revised_at bytes_cmp (changed change) n es) name)) (named_altered es change c.self.invariant)

pub returns-clause-ok : goal.returns-clause-ok
returns-clause-ok c =
    let es = c.self.inside.by_name in
    let change = c.args.update.now in
    let name = c.in_ok-name.ensures in
    ap catalog_of (c.in_ok-revise.ensures.ok ∙ ap (λ n. revised_at bytes_cmp (changed change) n es) name)
    ∙ altered es change c.self.invariant ∙ ap (λ w. change_catalog w change) (c.self.view_is ∙ c.note.ensures)
