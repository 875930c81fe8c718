use Rattle.tab_book_tests.proofs.counters.each_raise_counts_once.Given as goal

-- the registers that were just opened
abbrev pub ghosts-count_named : goal.ghosts-count_named
ghosts-count_named g a = record { books = a.opened }
