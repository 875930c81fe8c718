use Rattle.std.proofs.Common.{arith, ap, sym, codes, length, ◌∙◌}
use Rattle.tab_term.specs.Canon.{canon, length_field}
use Rattle.tab_term.specs.Data.{atom, list}
use Rattle.tab_term.specs.View.{term}
use Rattle.tab_lists.proofs.AnswersLemmas.{answer_weight_at, count_answers}
use Rattle.tab_etf.proofs.Lengths.{atom_length, none_length}
use Rattle.tab_etf.proofs.OutlinesLemmas.{pair_length}
use Rattle.tab_etf.proofs.AnswersSpelled.{answers_more, none_in, none_spelled, some_in, some_length}
use Rattle.tab_etf.proofs.answers.+len.Goals as goal

pub all_len-loop-answer-init : goal.all_len-loop-answer-init
all_len-loop-answer-init t c = none_length

pub all_len-answer_len-requires : goal.all_len-answer_len-requires
all_len-answer_len-requires t c = omega (arith, c.decreases, answer_weight_at c.args.items.now c.loop-answer.answer-index c.answer-item.result c.loop-answer-test.true c.answer-item.is)

pub all_len-loop-answer-preserved : goal.all_len-loop-answer-preserved
all_len-loop-answer-preserved t c =
    omega (arith, c.loop-answer.invariant, c.answer_len.ensures, c.saturating_add-sum.ensures, answers_more c.args.items.now c.loop-answer.answer-index c.answer-item.result c.loop-answer-test.true c.answer-item.is)

pub answer_len-returns-in-Done : goal.answer_len-returns-in-Done
answer_len-returns-in-Done t c = rw c.in-Done.is (omega (arith, c.atom_len.ensures, atom_length (codes "ok")))

pub answers_len-returns-then-is_empty : goal.answers_len-returns-then-is_empty
answers_len-returns-then-is_empty t c =
    let none_is = none_in c.as_slice-items.result.now c.is_empty.ensures c.if-is_empty.true ∙ c.as_slice-items.ensures.items in
    omega (arith, ap length (sym (ap (λ ts. canon (list ts)) none_is) ∙ none_spelled))

pub answers_len-returns : goal.answers_len-returns
answers_len-returns t c =
    let items = c.as_slice-items.result.now in
    let spelled = some_length items (some_in items c.is_empty.ensures c.if-is_empty.false) in
    omega (
      arith,
      spelled,
      ap (λ ts. length (canon (list ts))) c.as_slice-items.ensures.items,
      ap (λ n. length (length_field n)) (count_answers items),
      c.all_len.ensures,
      c.field_len.ensures.value,
      c.saturating_add.ensures,
    )

pub answer_len-returns-in-Aborted : goal.answer_len-returns-in-Aborted
answer_len-returns-in-Aborted t c =
    rw c.in-Aborted.is (omega (arith, pair_length (atom (codes "aborted")) (term c.in-Aborted.reason), c.spelled_len.ensures, c.word_len.ensures.value, c.saturating_add.ensures))

pub answer_len-returns-in-Atomic : goal.answer_len-returns-in-Atomic
answer_len-returns-in-Atomic t c =
    rw c.in-Atomic.is (omega (arith, pair_length (atom (codes "atomic")) (list c.in-Atomic.inner), c.answers_len.ensures, c.word_len-in-Atomic.ensures.value, c.saturating_add-in-Atomic.ensures))
