use Rattle.tabd.proofs.main.Given as goal

-- the registers that were just opened
abbrev pub ghosts-run : goal.ghosts-run
ghosts-run g a = record { books = a.program.opened }
