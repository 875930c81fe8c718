use Rattle.std.proofs.Common.{refl, ap, arith}
use Rattle.std.proofs.lemmas.List.{length-take}
use Rattle.std.proofs.lemmas.Result.{err_from_is_err_and}
use Rattle.tab_etf.specs.Feeding.{Held}
use Rattle.tab_session.proofs.ReplayedLemmas.{init_if, device_if, end_if, piece_if}
use Rattle.tab_session.proofs.replaying.run_all.Goals as goal

pub loop-round-init : goal.loop-round-init
loop-round-init g c = record {
  replaying = init_if c.args.outbox _ _ _ _ (ap (λ (h : Held). h.rest) c.requires.splitter) c.requires.core;
  going = ap (λ (h : Held). h.over) c.requires.splitter;
  room = c.requires.room;
  input = refl;
  output = refl;
  flushed = λ h. h;
}

pub returns-then-count-eq0-clause-bytes : goal.returns-then-count-eq0-clause-bytes
returns-then-count-eq0-clause-bytes g c =
    end_if c.args.outbox _ _ _ _ _ _ _ _ c.in_ok-count.count c.get.new.buf c.end_of_stream-end.result _ c.loop-round.invariant.going c.loop-round.invariant.replaying (omega arith) c.in_ok-count.ensures.bytes.0 c.in_ok-count.ensures.bytes.1 (omega (arith, c.loop-round.invariant.room)) c.end_of_stream-end.ensures.found c.end_of_stream-end.ensures.ok c.end_of_stream-end.ensures.err

pub returns-in_err-count-clause-bytes : goal.returns-in_err-count-clause-bytes
returns-in_err-count-clause-bytes g c =
    let p = err_from_is_err_and c.from_residual.result c.from_residual.ensures.1 in
    rw (p.1, p.2) (device_if c.args.outbox _ _ _ _ _ _ _ c.loop-round.invariant.replaying)

pub returns-in_err-serve_piece-clause-bytes : goal.returns-in_err-serve_piece-clause-bytes
returns-in_err-serve_piece-clause-bytes g c =
    let p = err_from_is_err_and c.from_residual-in_err-serve_piece.result c.from_residual-in_err-serve_piece.ensures.1 in
    let many = length-take c.in_ok-count.count c.get.new.buf in
    rw (p.1, p.2) (piece_if c.args.outbox _ _ _ _ _ _ _ _ _ _ c.loop-round.invariant.replaying (λ stream s. c.in_err-serve_piece.ensures.piece stream _ _ _ _ s (c.end_of_stream-end.ensures.found c.loop-round.invariant.going) c.in_ok-count.ensures.bytes.0 (omega (arith, many)) (omega (arith, many, c.in_ok-count.ensures.bound, c.loop-round.invariant.room))))
