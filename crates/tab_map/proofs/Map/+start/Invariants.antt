use Rattle.tab_map.proofs.Map.+start.Given as goal

abbrev pub decreases-start : goal.decreases-start
decreases-start g l = goal.size-start g l
