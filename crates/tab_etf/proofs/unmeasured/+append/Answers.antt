use Rattle.std.proofs.Common.{List, ℕ, ◌++◌, take, arith, length, length-append, ap, sym, rules, ◌∙◌, append_assoc, append-nil}
use Rattle.tab_term.specs.Canon.{canon, canons}
use Rattle.tab_lists.specs.Answers.{answer_term, answers}
use Rattle.tab_lists.proofs.AnswersLemmas.{answer_weight_at}
use Rattle.tab_etf.proofs.AddingLemmas.{atomic_past, atomic_spelled, elements_past, list_spelled, many_past, none_added, ok_spelled, past_part, told_also, told_over}
use Rattle.tab_etf.proofs.AnswersSpelled.{answers_next, answers_upto, none_in, some_in}
use Rattle.tab_etf.proofs.Elements.{no_canons}
use Rattle.tab_etf.proofs.unmeasured.+append.Goals as goal

pub append_all-loop-answer-init : goal.append_all-loop-answer-init
append_all-loop-answer-init t c = sym (append-nil c.args.out.now.items) ∙ ap (λ (r : List ℕ). c.args.out.now.items ++ r) no_canons

pub append_all-append_answer-requires : goal.append_all-append_answer-requires
append_all-append_answer-requires t c = (
  omega (arith, c.decreases, answer_weight_at c.args.items.now c.loop-answer.answer-index c.answer-item.result c.loop-answer-test.true c.answer-item.is),
  tt,
)

pub append_all-loop-answer-preserved : goal.append_all-loop-answer-preserved
append_all-loop-answer-preserved t c =
    let old = c.args.out.now.items in
    let done = canons (answers (take c.loop-answer.answer-index c.args.items.now)) in
    c.in_ok-append_answer.ensures.ok (search rules)
    ∙ ap (λ (r : List ℕ). r ++ canon (answer_term c.answer-item.result)) c.loop-answer.invariant
    ∙ append_assoc old done (canon (answer_term c.answer-item.result))
    ∙ ap (λ (r : List ℕ). old ++ r) (sym (answers_next c.args.items.now c.loop-answer.answer-index c.answer-item.result c.loop-answer-test.true c.answer-item.is))

pub append_answer-returns-in_ok-extend_from_slice-in-Done-clause-ok : goal.append_answer-returns-in_ok-extend_from_slice-in-Done-clause-ok
append_answer-returns-in_ok-extend_from_slice-in-Done-clause-ok t c within =
    rw c.in-Done.is (c.in_ok-extend_from_slice-in-Done.ensures.items ∙ ap (λ (r : List ℕ). c.args.out.now.items ++ r) (sym ok_spelled))

pub append_answer-returns-in_ok-extend_from_slice-in-Atomic-clause-ok : goal.append_answer-returns-in_ok-extend_from_slice-in-Atomic-clause-ok
append_answer-returns-in_ok-extend_from_slice-in-Atomic-clause-ok t c =
    rw c.in-Atomic.is (told_also c.append_answers.result
    (atomic_spelled c.args.out.now.items c.extend_from_slice-in-Atomic.new.self.items c.append_answers.new.out.items c.in-Atomic.inner c.in_ok-extend_from_slice-in-Atomic.ensures.items)
    c.append_answers.ensures.ok)

pub append_answers-returns-then-is_empty-clause-ok : goal.append_answers-returns-then-is_empty-clause-ok
append_answers-returns-then-is_empty-clause-ok t c within =
    let items = c.as_slice-items.result.now in
    none_added c.args.out.now.items c.push.new.self.items (answers items) c.args.answers.now (none_in items c.is_empty.ensures c.if-is_empty.true) c.as_slice-items.ensures.items c.in_ok-push.ensures.items

pub append_answers-returns-clause-ok : goal.append_answers-returns-clause-ok
append_answers-returns-clause-ok t c within =
    let items = c.as_slice-items.result.now in
    list_spelled c.args.out.now.items c.extend_from_slice.new.self.items _ c.append_all.new.out.items c.push-2.new.self.items items c.args.answers.now _ (some_in items c.is_empty.ensures c.if-is_empty.false) (search rules) (search rules) c.in_ok-extend_from_slice.ensures.items c.tagged.ensures
    (c.in_ok-append_all.ensures.ok (search rules)) c.in_ok-push-2.ensures.items c.as_slice-items.ensures.items

-- ---- what passes the bound

pub append_all-returns-then-not-branch-clause-over : goal.append_all-returns-then-not-branch-clause-over
append_all-returns-then-not-branch-clause-over t c over =
    let items = c.args.items.now in
    let i = c.loop-answer.answer-index in
    let x = c.answer-item.result in
    let upto = answers_upto items i x c.loop-answer-test.true c.answer-item.is in
    past_part c.args.most (length c.loop-answer.out.items) (length (canon (answer_term x))) (length c.args.out.now.items) (length (canons (answers items)))
    (omega (arith, upto, ap length c.loop-answer.invariant, length-append c.args.out.now.items (canons (answers (take i items)))))
    (omega (arith, upto))
    (c.in_ok-append_answer.ensures.over (search rules))

pub append_answer-returns-in_ok-extend_from_slice-in-Atomic-clause-over : goal.append_answer-returns-in_ok-extend_from_slice-in-Atomic-clause-over
append_answer-returns-in_ok-extend_from_slice-in-Atomic-clause-over t c =
    rw c.in-Atomic.is (told_over c.append_answers.result
    (atomic_past c.args.most c.args.out.now.items c.extend_from_slice-in-Atomic.new.self.items c.in-Atomic.inner c.in_ok-extend_from_slice-in-Atomic.ensures.items)
    c.append_answers.ensures.over)

pub append_answers-returns-then-items-ge4294967295-clause-over : goal.append_answers-returns-then-items-ge4294967295-clause-over
append_answers-returns-then-items-ge4294967295-clause-over t c over =
    many_past c.as_slice-items.result.now c.args.answers.now c.args.most (length c.args.out.now.items) c.if-items-ge4294967295.true c.as_slice-items.ensures.items

pub append_answers-returns-then-not-branch-clause-over : goal.append_answers-returns-then-not-branch-clause-over
append_answers-returns-then-not-branch-clause-over t c over =
    let items = c.as_slice-items.result.now in
    elements_past c.args.most c.args.out.now.items c.extend_from_slice.new.self.items _ items c.args.answers.now _ (some_in items c.is_empty.ensures c.if-is_empty.false) (search rules) (search rules) c.in_ok-extend_from_slice.ensures.items c.tagged.ensures c.as_slice-items.ensures.items
    (c.in_ok-append_all.ensures.over (search rules))
