use Rattle.tab_book_tests.proofs.overflow.each_overflow_is_told_once.Given as goal

-- the registers that were just opened
abbrev pub ghosts-overflow_named : goal.ghosts-overflow_named
ghosts-overflow_named g a = record { books = a.opened }
