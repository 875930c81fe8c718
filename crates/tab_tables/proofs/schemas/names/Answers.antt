use Rattle.std.proofs.Common.{ap}
use Rattle.tab_term.specs.Data.{atom}
use Rattle.tab_model.specs.Names.{names}
use Rattle.tab_tables.proofs.InfoLemmas.{next, names_push}
use Rattle.tab_tables.proofs.schemas.names.Goals as goal

pub loop-name-preserved : goal.loop-name-preserved
loop-name-preserved c =
    next names atom names_push c.loop-name.terms.items _ _ c.args.attributes.now c.loop-name.name-index c.name-item.result c.in_ok-push.ensures.items (ap atom c.in_ok-try_clone.ensures.ok) (rw (c.deref-name-items.ensures.value, c.attributes.view_is) at c.loop-name-test.true) (rw (c.deref-name-items.ensures.value, c.attributes.view_is) at c.name-item.is) c.loop-name.invariant
