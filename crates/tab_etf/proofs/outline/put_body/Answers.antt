use Rattle.tab_etf.proofs.OutlinesLemmas.{writes_pair, writes_triple, writes_four}
use Rattle.tab_etf.proofs.outline.put_body.Goals as goal

pub returns-in-One : goal.returns-in-One
returns-in-One g c = rw c.in-One.is c.put_leaf.ensures

pub returns-in-Two : goal.returns-in-Two
returns-in-Two g c = rw c.in-Two.is (writes_pair _ _ c.put.ensures c.put_leaf-in-Two.ensures c.put_leaf-in-Two-2.ensures)

pub returns-in-Three : goal.returns-in-Three
returns-in-Three g c = rw c.in-Three.is (writes_triple _ _ _ c.put-in-Three.ensures c.put_leaf-in-Three.ensures c.put_leaf-in-Three-2.ensures c.put_leaf-in-Three-3.ensures)

pub returns-in-Four : goal.returns-in-Four
returns-in-Four g c =
    rw c.in-Four.is (writes_four _ _ _ _ c.put-in-Four.ensures c.put_leaf-in-Four.ensures c.put_leaf-in-Four-2.ensures c.put_leaf-in-Four-3.ensures c.put_leaf-in-Four-4.ensures)
