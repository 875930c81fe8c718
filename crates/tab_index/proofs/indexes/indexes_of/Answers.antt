use Rattle.std.proofs.Common.{sym, subst}
use Rattle.std.proofs.lemmas.List.Elements.{All-push}
use Rattle.tab_index.specs.Indexed.{IsOf, AreIndexesOf}
use Rattle.tab_index.proofs.IndexedLemmas.{next_position}
use Rattle.tab_index.proofs.indexes.indexes_of.Goals as goal

pub loop-position-preserved : goal.loop-position-preserved
loop-position-preserved c =
    let rows = c.args.rows.now.1 in
    let was = c.loop-position.indexes.items in
    let index = c.in_ok-of.field-0 in
    let more = c.in_ok-push.ensures.items in
    record {
      positions_are = next_position was c.push.new.self.items index c.deref-position-items.result.now c.loop-position.position-index 0 _ c.loop-position-test.true c.in_ok-of.ensures.position more c.loop-position.invariant.positions_are;
      indexes_are = subst (AreIndexesOf rows) (sym more) (All-push (IsOf rows) was index c.loop-position.invariant.indexes_are (record { index = c.in_ok-of.ensures.index; further = c.in_ok-of.ensures.further }));
    }
