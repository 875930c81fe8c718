use Rattle.std.proofs.Common.{length, subst}
use Rattle.tab_book.specs.Running.{IsRunning}
use Rattle.tab_book.specs.Steps.{ask_of}
use Rattle.tab_book.proofs.Keeping.{running}
use Rattle.tab_book.proofs.Replying.{answers}
use Rattle.tab_book.proofs.book.Book.step.Goals as goal

pub returns-clause-running : goal.returns-clause-running
returns-clause-running g c = subst IsRunning c.self.view_is (running (length c.self.inside.prefix) c.self.inside.core c.self.inside.journal c.self.inside.log c.self.invariant)

pub returns-clause-answer : goal.returns-clause-answer
returns-clause-answer g c =
    answers c.args.session (ask_of c.args.step) _ _ c.answered-answered.result c.journal.ensures.running
    (subst IsRunning c.self.view_is (running (length c.self.inside.prefix) c.self.inside.core c.self.inside.journal c.self.inside.log c.self.invariant))
    c.answered-answered.ensures.done c.answered-answered.ensures.releases c.answered-answered.ensures.transaction
