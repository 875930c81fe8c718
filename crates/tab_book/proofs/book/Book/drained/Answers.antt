use Rattle.std.proofs.Common.{length, subst}
use Rattle.tab_book.specs.Running.{IsRunning}
use Rattle.tab_book.proofs.Keeping.{running}
use Rattle.tab_book.proofs.book.Book.drained.Goals as goal

pub returns-clause-running : goal.returns-clause-running
returns-clause-running g c = subst IsRunning c.self.view_is (running (length c.self.inside.prefix) c.self.inside.core c.self.inside.journal c.self.inside.log c.self.invariant)

pub returns-clause-of_a_running_book : goal.returns-clause-of_a_running_book
returns-clause-of_a_running_book g c =
    record {
      book = c.args.self.now;
      next = c.next_at-drained.new.self;
      runs = c.journal.ensures.running;
      drains = c.next_at-drained.ensures.drained;
      runs_on = subst IsRunning c.self.view_is (running (length c.self.inside.prefix) c.self.inside.core c.self.inside.journal c.self.inside.log c.self.invariant);
    }
