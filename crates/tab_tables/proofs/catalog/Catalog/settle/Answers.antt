use Rattle.std.proofs.Common.{sym, ap, ◌∙◌, subst}
use Rattle.tab_tables.specs.Named.{catalog_of, AreNamed}
use Rattle.tab_tables.proofs.NamedLemmas.{revised_same}
use Rattle.tab_tables.proofs.catalog.Catalog.settle.Goals as goal

pub invariant_of-self-2 : goal.invariant_of-self-2
invariant_of-self-2 c =
    subst AreNamed (sym (c.in_ok-revise.ensures.ok ∙ revised_same c.self.inside.by_name _)) c.self.invariant

pub returns : goal.returns
returns c = c.take_settled.ensures ∙ ap catalog_of (c.in_ok-revise.ensures.ok ∙ revised_same c.self.inside.by_name _) ∙ c.self.view_is
