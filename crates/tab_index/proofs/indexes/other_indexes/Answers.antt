use Rattle.std.proofs.Common.{sym, subst}
use Rattle.std.proofs.lemmas.List.Elements.{All-push}
use Rattle.tab_index.specs.Indexed.{IsOf, AreIndexesOf}
use Rattle.tab_index.proofs.IndexedLemmas.{other_kept}
use Rattle.tab_index.proofs.indexes.other_indexes.Goals as goal

pub loop-index-preserved : goal.loop-index-preserved
loop-index-preserved c =
    let was = c.loop-index.others.items in
    let x = c.index-item.result in
    let y = c.in_ok-share.field-0 in
    let i = c.loop-index.index-index in
    let more = c.in_ok-push.ensures.items in
    record {
      positions_are = other_kept c.args.position c.args.indexes.now was c.push.new.self.items i x y _ c.loop-index-test.true c.index-item.is c.if-index-position.false c.in_ok-share.ensures more c.loop-index.invariant.positions_are;
      indexes_are = λ rows all.
          let here = subst (IsOf rows) (sym c.index-item.is) (all i x c.loop-index-test.true) in
          subst (AreIndexesOf rows) (sym more) (All-push (IsOf rows) was y (c.loop-index.invariant.indexes_are rows all) (subst (IsOf rows) (sym c.in_ok-share.ensures) here));
    }
