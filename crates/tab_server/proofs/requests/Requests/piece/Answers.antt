use Rattle.std.proofs.Common.{List, ℕ, arith}
use Rattle.tab_book.specs.Logs.{Made}
use Rattle.tab_server.proofs.Answering.{on_ok}
use Rattle.tab_server.proofs.Streaming.{all_skipped, is_false, last_skip, on_err, over_skip, served_skip}
use Rattle.tab_server.proofs.requests.Requests.piece.Goals as goal

pub returns-then-is_over-clause-err : goal.returns-then-is_over-clause-err
returns-then-is_over-clause-err g c whole at i =
    let n : ℕ = c.args.self.now.seat in
    let p : List Made = c.args.self.now.held.seen in
    let h = c.skip-count.ensures.answer n p at i in
    over_skip n g.O.Outlet.sent g.O.Outlet.broken p p p at c.args.piece.now c.skip-count.result c.args.incoming.now c.skip-count.new.self c.args.self.now.answers h (c.is_over.ensures c.if-is_over.true n p h.left h.is_in)

pub returns-then-count-piece-clause-answered : goal.returns-then-count-piece-clause-answered
returns-then-count-piece-clause-answered g c at i =
    let n : ℕ = c.args.self.now.seat in
    let p : List Made = c.args.self.now.held.seen in
    all_skipped n g.O.Outlet.sent g.O.Outlet.broken p p at c.args.piece.now c.skip-count.result c.args.incoming.now c.skip-count.new.self c.args.self.now.answers (c.skip-count.ensures.answer n p at i) (omega arith)

pub returns-clause-answered : goal.returns-clause-answered
returns-clause-answered g c =
    on_ok c.feed.result c.feed.ensures.answered (λ k at i.
    let n : ℕ = c.args.self.now.seat in
    let p : List Made = c.args.self.now.held.seen in
    let h = c.skip-count.ensures.answer n p at i in
    served_skip n g.O.Outlet.sent g.O.Outlet.broken p p c.feed.new.self.held.seen at c.args.piece.now c.skip-count.result c.args.incoming.now c.skip-count.new.self c.feed.new.incoming c.args.self.now.answers c.feed.new.self.answers h (k h.left h.is_in (is_false c.skip-count.new.self.skips (λ e. c.if-count-piece.false (c.skip-count.ensures.skips e)))))

pub returns-clause-err : goal.returns-clause-err
returns-clause-err g c =
    on_err c.feed.result c.feed.ensures.err (λ k whole at i.
    let n : ℕ = c.args.self.now.seat in
    let p : List Made = c.args.self.now.held.seen in
    let h = c.skip-count.ensures.answer n p at i in
    last_skip n g.O.Outlet.sent g.O.Outlet.broken p p c.feed.new.self.held.seen at c.args.piece.now c.skip-count.result c.args.incoming.now c.skip-count.new.self c.args.self.now.answers c.feed.new.self.answers h (k whole h.left h.is_in (is_false c.skip-count.new.self.skips (λ e. c.if-count-piece.false (c.skip-count.ensures.skips e)))))
