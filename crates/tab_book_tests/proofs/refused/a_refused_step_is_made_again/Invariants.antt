use Rattle.tab_book_tests.proofs.refused.a_refused_step_is_made_again.Given as goal

-- the registers that were just opened
abbrev pub ghosts-differs_named : goal.ghosts-differs_named
ghosts-differs_named g a = record { books = a.opened }
