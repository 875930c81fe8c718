use Rattle.std.proofs.Common.{sym}
use Rattle.tab_map.proofs.PlacesLemmas.{has_lookup, gap_lookup}
use Rattle.tab_map.proofs.row.get.Goals as goal

pub returns-in-Ok : goal.returns-in-Ok
returns-in-Ok g c = has_lookup g.met.K.Ord.total _ _ _ _ c.in-Ok.ensures.found c.requires c.index-items-n.is

pub returns-in-Err : goal.returns-in-Err
returns-in-Err g c = sym (gap_lookup g.K.Ord.cmp _ _ _ c.in-Err.ensures.gap)
