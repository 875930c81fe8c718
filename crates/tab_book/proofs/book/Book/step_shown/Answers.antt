use Rattle.tab_book.specs.Steps.{ask_of}
use Rattle.tab_book.proofs.Seeing.{shown_step}
use Rattle.tab_book.proofs.book.Book.step_shown.Goals as goal

-- src/steps.rt:68:5
pub returns-clause-answer : goal.returns-clause-answer
returns-clause-answer g c = shown_step c.args.seen.now c.show-2.new.seen c.args.session (ask_of c.args.step) c.args.self.now c.step-answered.new.self c.step-answered.result c.show.ensures.before c.show-2.ensures.all c.step-answered.ensures.answer
