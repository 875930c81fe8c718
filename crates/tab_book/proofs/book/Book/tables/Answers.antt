use Rattle.std.proofs.Common.{length, subst}
use Rattle.tab_book.specs.Running.{IsRunning}
use Rattle.tab_book.proofs.Keeping.{running}
use Rattle.tab_book.proofs.book.Book.tables.Goals as goal

pub returns-clause-running : goal.returns-clause-running
returns-clause-running g c = subst IsRunning c.self.view_is (running (length c.self.inside.prefix) c.self.inside.core c.self.inside.journal c.self.inside.log c.self.invariant)
