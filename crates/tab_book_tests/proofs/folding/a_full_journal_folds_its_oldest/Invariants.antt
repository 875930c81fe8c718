use Rattle.tab_book_tests.proofs.folding.a_full_journal_folds_its_oldest.Given as goal

-- the registers that were just opened
abbrev pub ghosts-fold_named : goal.ghosts-fold_named
ghosts-fold_named g a = record { books = a.opened }
