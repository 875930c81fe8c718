use Rattle.std.proofs.Common.{◌*◌, ◌+◌, take}
use Rattle.tab_term.specs.Data.{weight, nodes}
use Rattle.tab_term.specs.Canon.{canons}
use Rattle.tab_lists.specs.Answers.{answer_term, answers}
use Rattle.tab_etf.specs.Writing.{Writes}
use Rattle.tab_etf.proofs.answers.+put.Given as goal

abbrev pub decreases-put_answers : goal.decreases-put_answers
decreases-put_answers g l = 3 * nodes l.answers.now + 2

abbrev pub decreases-put_answer : goal.decreases-put_answer
decreases-put_answer g l = 3 * weight (answer_term l.answer.now)

abbrev pub decreases-put_all : goal.decreases-put_all
decreases-put_all g l = 3 * nodes (answers l.items.now) + 1

abbrev pub invariant-put_all-loop-answer : goal.invariant-put_all-loop-answer
invariant-put_all-loop-answer g l = Writes g.W.Target.contents g.W.Target.faults l.initial.writer l.writer (canons (answers (take l.answer-index l.items)))
