use Rattle.std.proofs.Common.{ap, sym, ◌∙◌}
use Rattle.tab_model.specs.Catalogs.{find}
use Rattle.tab_tables.proofs.NamedLemmas.{found}
use Rattle.tab_tables.proofs.bare.BareCatalog.table.Goals as goal

pub returns : goal.returns
returns c = c.get.ensures.value ∙ sym (found c.self.inside.by_name c.args.name.now c.self.invariant) ∙ ap (λ w. find w c.args.name.now) c.self.view_is
