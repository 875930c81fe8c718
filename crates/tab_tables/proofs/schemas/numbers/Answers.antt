use Rattle.tab_model.specs.Names.{number, numbers}
use Rattle.tab_tables.proofs.InfoLemmas.{next, numbers_push, at_is}
use Rattle.tab_tables.proofs.schemas.numbers.Goals as goal

pub loop-position-preserved : goal.loop-position-preserved
loop-position-preserved c =
    let inside = rw (c.deref-position-items.ensures.value, c.positions.view_is) at c.loop-position-test.true in
    next numbers number numbers_push c.loop-position.terms.items _ _ c.args.positions.now c.loop-position.position-index _ c.in_ok-push.ensures.items c.number_term.ensures inside
    (rw (c.deref-position-items.ensures.value, c.positions.view_is) (at_is c.args.positions.now c.loop-position.position-index 0 _ inside)) c.loop-position.invariant
