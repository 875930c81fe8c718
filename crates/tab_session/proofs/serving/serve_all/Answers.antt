use Rattle.std.proofs.Common.{refl, ◌∙◌}
use Rattle.std.proofs.lemmas.Result.{err_from_is_err_and}
use Rattle.tab_session.proofs.ServedLemmas.{serving_init, serving_handed, serving_done, serving_device, serving_fault, passed_keeps, passed_device, serving_at, serving_end, serving_buffer}
use Rattle.tab_session.proofs.serving.serve_all.Goals as goal

pub loop-frame-init : goal.loop-frame-init
loop-frame-init g c = record { serving = rw (c.settle.ensures, c.new-buffer.ensures.items) (serving_init c.args.outbox _ _ _); faults = refl }

pub returns-in_err-put-clause-served : goal.returns-in_err-put-clause-served
returns-in_err-put-clause-served g c =
    let p = err_from_is_err_and c.from_residual.result c.from_residual.ensures.1 in
    let here = serving_at c.args.outbox _ _ _ _ _ _ _ _ _ c.loop-frame.invariant.serving c.loop-frame-test.true c.frame-item.is c.payload.ensures in
    rw (p.1, p.2) (serving_fault c.args.outbox _ _ _ _ _ _ _ _ _ c.put.new.buffer.items _ _ c.in_err-put.field-0.0 here c.answer-answer.ensures c.in_err-put.ensures.handed)

pub loop-frame-preserved : goal.loop-frame-preserved
loop-frame-preserved g c =
    let here = serving_at c.args.outbox _ _ _ _ _ _ _ _ _ c.loop-frame.invariant.serving c.loop-frame-test.true c.frame-item.is c.payload.ensures in
    record {
      serving = serving_handed c.args.outbox _ _ _ _ _ _ _ _ _ _ _ _ here c.answer-answer.ensures c.in_ok-put.ensures.handed;
      faults = c.in_ok-put.ensures.faults ∙ c.loop-frame.invariant.faults;
    }

pub returns-in_err-give_all-clause-served : goal.returns-in_err-give_all-clause-served
returns-in_err-give_all-clause-served g c =
    let p = err_from_is_err_and c.from_residual-in_err-give_all.result c.from_residual-in_err-give_all.ensures.1 in
    rw (p.1, p.2) (serving_device c.args.outbox _ _ _ _ _ _ _ _ _ (serving_buffer c.args.outbox _ _ _ _ _ _ _ _ c.loop-frame.invariant.serving c.deref.ensures.value) c.in_err-give_all.ensures.part.1)

pub returns-in_err-flush-clause-served : goal.returns-in_err-flush-clause-served
returns-in_err-flush-clause-served g c =
    let p = err_from_is_err_and c.from_residual-in_err-flush.result c.from_residual-in_err-flush.ensures.1 in
    rw (p.1, p.2) (passed_device c.args.outbox _ _ _ _ _ _ (serving_done c.args.outbox _ _ _ _ _ _ _ (serving_end c.args.outbox _ _ _ _ _ _ _ (serving_buffer c.args.outbox _ _ _ _ _ _ _ _ c.loop-frame.invariant.serving c.deref.ensures.value) c.loop-frame-test.false) c.in_ok-give_all.ensures.ok) c.in_err-flush.ensures.bytes)

pub returns-clause-served : goal.returns-clause-served
returns-clause-served g c =
    passed_keeps c.args.outbox _ _ _ _ _ _ (serving_done c.args.outbox _ _ _ _ _ _ _ (serving_end c.args.outbox _ _ _ _ _ _ _ (serving_buffer c.args.outbox _ _ _ _ _ _ _ _ c.loop-frame.invariant.serving c.deref.ensures.value) c.loop-frame-test.false) c.in_ok-give_all.ensures.ok) c.in_ok-flush.ensures.bytes
