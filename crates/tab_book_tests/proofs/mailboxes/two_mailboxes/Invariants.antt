use Rattle.tab_book_tests.proofs.mailboxes.two_mailboxes.Given as goal

-- the register that was just opened
abbrev pub ghosts-make_named_calls : goal.ghosts-make_named_calls
ghosts-make_named_calls g a = record { books = record { mailboxes = a.opened; steps = a.opened } }
