use Rattle.tab_uses.proofs.tests.mailboxes.items_come_out.Given as goal

-- the register that was just opened
abbrev pub ghosts-named_comes_out : goal.ghosts-named_comes_out
ghosts-named_comes_out g a = record { books = record { mailboxes = a.opened; steps = a.opened } }
