use Rattle.std.proofs.Common.{[], sym, subst}
use Rattle.std.proofs.lemmas.List.Elements.{All-push}
use Rattle.tab_index.specs.Indexed.{IsOf, AreIndexesOf}
use Rattle.tab_index.proofs.IndexedLemmas.{next_position}
use Rattle.tab_index.proofs.indexes.empty_indexes.Goals as goal

pub loop-position-preserved : goal.loop-position-preserved
loop-position-preserved c =
    let was = c.loop-position.indexes.items in
    let more = c.in_ok-push.ensures.items in
    record {
      positions_are = next_position was c.push.new.self.items c.new.result c.deref-position-items.result.now c.loop-position.position-index 0 _ c.loop-position-test.true c.new.ensures.position more c.loop-position.invariant.positions_are;
      indexes_are = subst (AreIndexesOf []) (sym more) (All-push (IsOf []) was c.new.result c.loop-position.invariant.indexes_are (record { index = c.new.ensures.index; further = c.new.ensures.further }));
    }
