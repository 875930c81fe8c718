use Rattle.tab_etf.proofs.PartsLemmas.{tuple_at}
use Rattle.tab_etf.proofs.parts.read_tuple.Goals as goal

pub returns-in-len2-up : goal.returns-in-len2-up
returns-in-len2-up c levels ts rest h = tuple_at _ levels ts rest c.in-len2-up.len_at_least c.if-tag-eq-SMALL_TUPLE_EXT.true h
