use Rattle.std.proofs.Common.{sym, ap, ◌∙◌, subst}
use Rattle.tab_model.specs.Events.{change_all}
use Rattle.tab_tables.specs.Named.{catalog_of, AreNamed}
use Rattle.tab_tables.proofs.OneTableLemmas.{all_altered, named_all_altered}
use Rattle.tab_tables.proofs.catalog.Catalog.change_table.Goals as goal

pub invariant_of-self-2 : goal.invariant_of-self-2
invariant_of-self-2 g c = subst AreNamed (sym c.in_ok-revise.ensures.ok) (named_all_altered c.self.inside.by_name c.args.name c.args.updates.now c.self.invariant)

pub returns-clause-ok : goal.returns-clause-ok
returns-clause-ok g c =
    ap catalog_of c.in_ok-revise.ensures.ok ∙ all_altered c.self.inside.by_name c.args.name c.args.updates.now c.self.invariant c.requires
    ∙ ap (λ w. change_all w c.args.updates.now) (c.self.view_is ∙ c.note.ensures)
