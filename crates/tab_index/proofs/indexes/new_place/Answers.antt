use Rattle.tab_index.proofs.IndexedLemmas.{place_there}
use Rattle.tab_index.proofs.indexes.new_place.Goals as goal

pub returns-then-index-position : goal.returns-then-index-position
returns-then-index-position c = place_there c.args.position c.args.indexes.now c.loop-n.n c.index-indexes-n.result c.loop-n-test.true c.if-index-position.true c.index-indexes-n.is c.loop-n.invariant
