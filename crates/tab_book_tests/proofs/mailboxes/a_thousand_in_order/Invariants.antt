use Rattle.tab_book_tests.proofs.mailboxes.a_thousand_in_order.Given as goal

-- the register that was just opened
abbrev pub ghosts-exchange_named : goal.ghosts-exchange_named
ghosts-exchange_named g a = record { books = record { mailboxes = a.opened; steps = a.opened } }
