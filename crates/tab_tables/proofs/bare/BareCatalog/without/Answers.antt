use Rattle.std.proofs.Common.{ap, sym, ◌∙◌, subst}
use Rattle.tab_model.specs.Catalogs.{without}
use Rattle.tab_tables.specs.Named.{catalog_of, AreNamed}
use Rattle.tab_tables.proofs.NamedLemmas.{gone, named_remove}
use Rattle.tab_tables.proofs.bare.BareCatalog.without.Goals as goal

pub invariant_of-result : goal.invariant_of-result
invariant_of-result c = subst AreNamed (sym c.in_ok-removed.ensures) (named_remove c.self.inside.by_name c.args.name.now c.self.invariant)

pub returns : goal.returns
returns c = ap catalog_of c.in_ok-removed.ensures ∙ gone c.self.inside.by_name c.args.name.now c.self.invariant ∙ ap (λ w. without w c.args.name.now) c.self.view_is
