use Rattle.tab_server_tests.proofs.gates.connections_are_served_side_by_side.Given as goal

-- the registers that were just opened
abbrev pub ghosts-run_named : goal.ghosts-run_named
ghosts-run_named g a = record { books = a.opened }
