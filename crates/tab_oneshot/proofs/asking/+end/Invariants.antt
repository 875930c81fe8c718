use Rattle.tab_oneshot.proofs.asking.+end.Given as goal

abbrev pub decreases-end : goal.decreases-end
decreases-end g l = l.around
