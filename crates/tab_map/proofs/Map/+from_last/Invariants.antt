use Rattle.tab_map.proofs.Map.+from_last.Given as goal

abbrev pub decreases-from_last : goal.decreases-from_last
decreases-from_last g l = l.count
