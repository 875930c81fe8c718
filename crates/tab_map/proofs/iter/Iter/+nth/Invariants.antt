use Rattle.tab_map.proofs.iter.Iter.+nth.Given as goal

abbrev pub decreases-nth : goal.decreases-nth
decreases-nth g l = l.n
