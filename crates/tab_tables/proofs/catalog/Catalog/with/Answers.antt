use Rattle.std.proofs.Common.{ap, sym, ◌∙◌, subst}
use Rattle.tab_model.specs.Catalogs.{place}
use Rattle.tab_tables.specs.Named.{catalog_of, AreNamed}
use Rattle.tab_tables.proofs.NamedLemmas.{placed, named_insert}
use Rattle.tab_tables.proofs.catalog.Catalog.with.Goals as goal

pub invariant_of-result : goal.invariant_of-result
invariant_of-result c =
    subst AreNamed (sym (c.in_ok-insert-2.ensures.ok)) (named_insert c.self.inside.by_name c.args.table c.in_ok-name.name (c.in_ok-name.ensures.ok ∙ ap (λ d. d.name) c.def.ensures) c.self.invariant)

pub returns : goal.returns
returns c =
    ap catalog_of (c.in_ok-insert-2.ensures.ok) ∙ placed c.self.inside.by_name c.args.table c.in_ok-name.name (c.in_ok-name.ensures.ok ∙ ap (λ d. d.name) c.def.ensures) c.self.invariant.named ∙ ap (λ w. place w c.args.table) c.self.view_is
