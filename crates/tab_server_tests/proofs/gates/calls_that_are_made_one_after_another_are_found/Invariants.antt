use Rattle.tab_server_tests.proofs.gates.calls_that_are_made_one_after_another_are_found.Given as goal

-- the registers that were just opened
abbrev pub ghosts-run_named : goal.ghosts-run_named
ghosts-run_named g a = record { books = a.opened }
