use Rattle.tab_book.proofs.shared.Shared.let_go.Given as goal

abbrev pub decreases-loop-owed : goal.decreases-loop-owed
decreases-loop-owed g l = l.owed
