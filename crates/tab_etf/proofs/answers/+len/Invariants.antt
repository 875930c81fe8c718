use Rattle.std.proofs.Common.{◌≡◌, ◌*◌, ◌+◌, ◌-◌, ◌^◌, min, take, length}
use Rattle.tab_term.specs.Data.{weight, nodes}
use Rattle.tab_term.specs.Canon.{canons}
use Rattle.tab_lists.specs.Answers.{answer_term, answers}
use Rattle.tab_etf.proofs.answers.+len.Given as goal

abbrev pub decreases-answers_len : goal.decreases-answers_len
decreases-answers_len l = 3 * nodes l.answers.now + 2

abbrev pub decreases-answer_len : goal.decreases-answer_len
decreases-answer_len l = 3 * weight (answer_term l.answer.now)

abbrev pub decreases-all_len : goal.decreases-all_len
decreases-all_len l = 3 * nodes (answers l.items.now) + 1

abbrev pub invariant-all_len-loop-answer : goal.invariant-all_len-loop-answer
invariant-all_len-loop-answer l = l.sum ≡ min (length (canons (answers (take l.answer-index l.items)))) (2 ^ 64 - 1)
