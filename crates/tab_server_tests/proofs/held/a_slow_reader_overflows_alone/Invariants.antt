use Rattle.tab_server_tests.proofs.held.a_slow_reader_overflows_alone.Given as goal

-- the registers that were just opened
abbrev pub ghosts-run_named : goal.ghosts-run_named
ghosts-run_named g a = record { books = a.opened }
