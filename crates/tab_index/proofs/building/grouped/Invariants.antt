use Rattle.std.proofs.Common.{take}
use Rattle.tab_term.specs.Order.{term_cmp}
use Rattle.tab_map.specs.Entries.{Ascends}
use Rattle.tab_index.specs.Pairs.{HasPairs, CountsPairs}
use Rattle.tab_index.proofs.PairsLemmas.{EndsBefore}
use Rattle.tab_index.proofs.building.grouped.Given as goal

-- the entries have the pairs before the index
abbrev pub invariant-loop-pair : goal.invariant-loop-pair
invariant-loop-pair l = record {
  has : HasPairs (take l.pair-index l.pairs) l.entries.items;
  ascends : Ascends term_cmp l.entries.items;
  ends : EndsBefore l.pairs l.pair-index l.entries.items;
  counts : CountsPairs (take l.pair-index l.pairs) l.further.by_key;
}
