use Rattle.tab_uses.proofs.tests.writes.writes_end.Given as goal

-- the registers that were just opened
abbrev pub ghosts-named_ending_differs : goal.ghosts-named_ending_differs
ghosts-named_ending_differs g a = record { books = a.opened }
