use Rattle.std.proofs.lemmas.Result.{err_from_is_err_and}
use Rattle.tab_session.proofs.ReplayedLemmas.{advance, stopped, replaying_over, replaying_err, next_stopped, replaying_no_memory}
use Rattle.tab_session.proofs.serving.serve_piece.Goals as goal

pub returns-in-Ok-clause-piece : goal.returns-in-Ok-clause-piece
returns-in-Ok-clause-piece g c stream old left new_left i s none read some short =
    advance c.args.outbox c.serve_all.result stream left new_left _ _ _ i _ c.serve_all.new.core old _ _ _ s read some c.in-Ok.ensures.ok.goes
    (rw c.deref.ensures.value at c.serve_all.ensures.served)

pub returns-in_ok-serve_all-in-Err-FrameTooLong-clause-piece : goal.returns-in_ok-serve_all-in-Err-FrameTooLong-clause-piece
returns-in_ok-serve_all-in-Err-FrameTooLong-clause-piece g c stream old left new_left i s none read some short =
    let stops = stopped c.in-Err-FrameTooLong.field-0 c.in-Err-FrameTooLong.field-0-0 c.args.splitter.now c.feed.new.self c.args.piece.now c.in-Err-FrameTooLong.field-0-is c.requires c.in-Err-FrameTooLong.ensures.err in
    replaying_over c.args.outbox {n = c.in-Err-FrameTooLong.field-0-0} stream left new_left _ _ i _ c.serve_all-in-Err-FrameTooLong.new.core old _ _ _ s read (rw c.before_fault.ensures.payloads stops) c.in_ok-serve_all-in-Err-FrameTooLong.ensures.served

pub returns-in_err-serve_all-in-Err-FrameTooLong-clause-piece : goal.returns-in_err-serve_all-in-Err-FrameTooLong-clause-piece
returns-in_err-serve_all-in-Err-FrameTooLong-clause-piece g c stream old left new_left i s none read some short =
    let p = err_from_is_err_and c.from_residual.result c.from_residual.ensures.1 in
    let stops = stopped c.in-Err-FrameTooLong.field-0 c.in-Err-FrameTooLong.field-0-0 c.args.splitter.now c.feed.new.self c.args.piece.now c.in-Err-FrameTooLong.field-0-is c.requires c.in-Err-FrameTooLong.ensures.err in
    rw (p.1, p.2) (replaying_err c.args.outbox stream left new_left _ i _ c.serve_all-in-Err-FrameTooLong.new.core old _ _ _ c.in_err-serve_all-in-Err-FrameTooLong.field-0.0 s (next_stopped c.args.outbox {n = c.in-Err-FrameTooLong.field-0-0} stream left new_left _ _ i _ old _ _ s read (rw c.before_fault.ensures.payloads stops)) c.in_err-serve_all-in-Err-FrameTooLong.ensures.served)

pub returns-in-Err-clause-piece : goal.returns-in-Err-clause-piece
returns-in-Err-clause-piece g c stream old left new_left i s none read some short =
    replaying_no_memory c.args.outbox stream left new_left _ _ i _ old _ s none read short
