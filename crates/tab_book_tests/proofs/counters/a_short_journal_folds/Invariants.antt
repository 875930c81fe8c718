use Rattle.tab_book_tests.proofs.counters.a_short_journal_folds.Given as goal

-- the registers that were just opened
abbrev pub ghosts-count_named : goal.ghosts-count_named
ghosts-count_named g a = record { books = a.opened }
