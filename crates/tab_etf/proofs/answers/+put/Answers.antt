use Rattle.std.proofs.Common.{arith, ap, sym, codes, length, ◌∙◌, ◌∷◌, ◌++◌, []}
use Rattle.tab_term.specs.Canon.{canon, canons, length_field}
use Rattle.tab_term.specs.Data.{atom, list, nodes}
use Rattle.tab_term.specs.View.{term}
use Rattle.tab_lists.specs.Answers.{answers}
use Rattle.tab_lists.proofs.AnswersLemmas.{answer_weight_at, count_answers}
use Rattle.tab_etf.proofs.Elements.{no_canons}
use Rattle.tab_etf.proofs.OutlinesLemmas.{pair_canon, pair_length}
use Rattle.tab_etf.proofs.SharedElements.{list_fits}
use Rattle.tab_etf.proofs.WritingLemmas.{writes_as, writes_then, writes_none}
use Rattle.tab_etf.proofs.AnswersSpelled.{answer_within, answers_next, none_in, none_spelled, some_in, some_length, some_spelled}
use Rattle.tab_etf.proofs.answers.+put.Goals as goal

pub put_all-loop-answer-init : goal.put_all-loop-answer-init
put_all-loop-answer-init g t c = writes_as (writes_none _) no_canons

pub put_all-put_answer-requires : goal.put_all-put_answer-requires
put_all-put_answer-requires g t c κs within = (
  omega (arith, c.decreases, answer_weight_at c.args.items.now c.loop-answer.answer-index c.answer-item.result c.loop-answer-test.true c.answer-item.is),
  (within, omega (arith, c.requires, answer_within c.args.items.now c.loop-answer.answer-index c.answer-item.result c.loop-answer-test.true c.answer-item.is)),
)

pub put_all-loop-answer-preserved : goal.put_all-loop-answer-preserved
put_all-loop-answer-preserved g t c =
    writes_as (writes_then c.loop-answer.invariant c.put_answer.ensures)
    (sym (answers_next c.args.items.now c.loop-answer.answer-index c.answer-item.result c.loop-answer-test.true c.answer-item.is))

pub put_answer-put_shared-requires-clause-fits : goal.put_answer-put_shared-requires-clause-fits
put_answer-put_shared-requires-clause-fits g t c = list_fits c.in-Found.rows (rw c.in-Found.is at c.requires)

pub put_answer-put_answers-requires : goal.put_answer-put_answers-requires
put_answer-put_answers-requires g t c κs within = (
  omega (arith, rw c.in-Atomic.is at c.decreases),
  (within, omega (arith, rw c.in-Atomic.is at c.requires, pair_length (atom (codes "atomic")) (list c.in-Atomic.inner))),
)

pub put_answer-returns-in-Done : goal.put_answer-returns-in-Done
unfolding canon
put_answer-returns-in-Done g t c = rw c.in-Done.is c.put_atom.ensures

pub put_answer-returns-in-Found : goal.put_answer-returns-in-Found
unfolding canon
put_answer-returns-in-Found g t c = rw c.in-Found.is c.put_shared.ensures

pub put_answer-returns-in-Aborted : goal.put_answer-returns-in-Aborted
put_answer-returns-in-Aborted g t c =
    rw c.in-Aborted.is (writes_as (writes_then c.put_word.ensures c.put.ensures) (sym (pair_canon (atom (codes "aborted")) (term c.in-Aborted.reason))))

pub put_answer-returns-in-Atomic : goal.put_answer-returns-in-Atomic
put_answer-returns-in-Atomic g t c =
    rw c.in-Atomic.is (writes_as (writes_then c.put_word-in-Atomic.ensures c.put_answers.ensures) (sym (pair_canon (atom (codes "atomic")) (list c.in-Atomic.inner))))

pub put_answers-returns-then-is_empty : goal.put_answers-returns-then-is_empty
put_answers-returns-then-is_empty g t c = writes_as c.put.ensures (sym none_spelled ∙ ap (λ ts. canon (list ts)) (none_in c.as_slice-items.result.now c.is_empty.ensures c.if-is_empty.true ∙ c.as_slice-items.ensures.items))

pub put_answers-put_all-requires : goal.put_answers-put_all-requires
put_answers-put_all-requires g t c κs within =
    let items = c.as_slice-items.result.now in (
      omega (arith, c.decreases, ap nodes c.as_slice-items.ensures.items),
      (within, omega (arith, c.requires, some_length items (some_in items c.is_empty.ensures c.if-is_empty.false), ap (λ ts. length (canon (list ts))) c.as_slice-items.ensures.items)),
    )

pub put_answers-returns : goal.put_answers-returns
put_answers-returns g t c =
    let items = c.as_slice-items.result.now in
    writes_as (writes_then (writes_then c.put_tagged.ensures c.put_all.ensures) c.put-2.ensures)
    (ap (λ n. (108 ∷ length_field n) ++ canons (answers items) ++ 106 ∷ []) (sym (count_answers items))
    ∙ sym (some_spelled items (some_in items c.is_empty.ensures c.if-is_empty.false))
    ∙ ap (λ ts. canon (list ts)) c.as_slice-items.ensures.items)
