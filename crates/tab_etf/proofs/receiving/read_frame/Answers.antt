use Rattle.std.proofs.Common.{arith}
use Rattle.std.proofs.lemmas.Result.{err_from_is_err_and}
use Rattle.tab_etf.proofs.ArrivalsLemmas.{frame_short, frame_long, frame_ok, frame_err}
use Rattle.tab_etf.proofs.receiving.read_frame.Goals as goal

pub returns-then-came-lt4-clause-frame : goal.returns-then-came-lt4-clause-frame
returns-then-came-lt4-clause-frame g c =
    frame_short _ _ _ _ c.in_ok-came.ensures.bytes (omega (arith, c.fill.auto.buf)) (omega (arith, c.if-came-eq0.false)) c.if-came-lt4.true (c.in_ok-came.ensures.end (omega (arith, c.fill.auto.buf, c.if-came-lt4.true)))

pub returns-then-count-gt-LIMIT-clause-frame : goal.returns-then-count-gt-LIMIT-clause-frame
returns-then-count-gt-LIMIT-clause-frame g c =
    frame_long _ _ _ _ _ c.in_ok-came.ensures.bytes (omega (arith, c.fill.auto.buf)) c.if-came-lt4.false c.from_be_bytes-count.ensures c.if-count-gt-LIMIT.true

pub returns-clause-frame : goal.returns-clause-frame
returns-clause-frame g c =
    frame_ok _ _ _ _ _ _ _ c.in_ok-came.ensures.bytes (omega (arith, c.fill.auto.buf)) c.if-came-lt4.false c.from_be_bytes-count.ensures c.if-count-gt-LIMIT.false c.in_ok-frame.ensures.payload

pub returns-in_err-frame-clause-frame : goal.returns-in_err-frame-clause-frame
returns-in_err-frame-clause-frame g c =
    let q = err_from_is_err_and c.from_residual-in_err-frame.result c.from_residual-in_err-frame.ensures.1 in
    rw (q.1, q.2) (frame_err _ _ _ _ _ _ _ c.in_ok-came.ensures.bytes (omega (arith, c.fill.auto.buf)) c.if-came-lt4.false c.from_be_bytes-count.ensures c.if-count-gt-LIMIT.false c.in_err-frame.ensures.payload)
