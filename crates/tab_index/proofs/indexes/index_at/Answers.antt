use Rattle.std.proofs.Common.{sym, subst}
use Rattle.tab_index.specs.IndexOf.{IsIndexOf}
use Rattle.tab_index.specs.Indexed.{IsOf}
use Rattle.tab_index.proofs.indexes.index_at.Goals as goal

pub returns-then-index-position-clause-index : goal.returns-then-index-position-clause-index
returns-then-index-position-clause-index c = λ rows all.
    let index = c.index-item.result in
    let here = (subst (IsOf rows) (sym c.index-item.is) (all c.loop-index.index-index index c.loop-index-test.true)).index in
    subst (λ p. IsIndexOf rows p index.keys) c.if-index-position.true here
