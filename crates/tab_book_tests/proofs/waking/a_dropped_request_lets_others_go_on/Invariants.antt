use Rattle.tab_book_tests.proofs.waking.a_dropped_request_lets_others_go_on.Given as goal

-- the registers that were just opened
abbrev pub ghosts-make_named_steps : goal.ghosts-make_named_steps
ghosts-make_named_steps g a = record { books = a.opened }
