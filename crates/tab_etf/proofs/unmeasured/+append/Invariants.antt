use Rattle.std.proofs.Common.{◌≡◌, ◌*◌, ◌+◌, ◌++◌, take}
use Rattle.tab_term.specs.Data.{weight, nodes}
use Rattle.tab_term.specs.Canon.{canons}
use Rattle.tab_lists.specs.Answers.{answer_term, answers}
use Rattle.tab_etf.proofs.unmeasured.+append.Given as goal

abbrev pub decreases-append_answers : goal.decreases-append_answers
decreases-append_answers l = 3 * nodes l.answers.now + 2

abbrev pub decreases-append_answer : goal.decreases-append_answer
decreases-append_answer l = 3 * weight (answer_term l.answer.now)

abbrev pub decreases-append_all : goal.decreases-append_all
decreases-append_all l = 3 * nodes (answers l.items.now) + 1

abbrev pub invariant-append_all-loop-answer : goal.invariant-append_all-loop-answer
invariant-append_all-loop-answer l = l.out.items ≡ l.initial.out.items ++ canons (answers (take l.answer-index l.items))
