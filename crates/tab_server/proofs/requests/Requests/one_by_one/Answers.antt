use Rattle.std.proofs.Common.{◌≡◌, ◌<◌, ◌-◌, ◌++◌, [], List, ℕ, false, refl, sym, subst, ◌∙◌, append_assoc, length, take, drop}
use Rattle.tab_post.proofs.Prefixes.{prefix_self}
use Rattle.tab_book.specs.Logs.{Made}
use Rattle.tab_server.specs.Streamed.{SendsAnswers, SendsLast}
use Rattle.tab_server.proofs.Placing.{some_bytes}
use Rattle.tab_server.proofs.Streaming.{always_err, broken_not, err_map, not_skipped, nothing_left, nothing_sent, ok_map, parts_at, parts_on, served_last, served_more, served_on}
use Rattle.tab_server.proofs.requests.Requests.one_by_one.Goals as goal

pub loop-init : goal.loop-init
loop-init g c = (
  tt,
  tt,
  record {
    seat = refl;
    whole = λ h. h;
    skips = λ e f. broken_not _ f e;
    served = ([], refl, λ at i none. nothing_sent c.args.self.now.seat g.O.Outlet.sent g.O.Outlet.broken c.args.self.now.held.seen c.args.self.now.held.seen (prefix_self c.args.self.now.held.seen) at c.args.incoming.now c.args.self.now.answers i);
  },
)

pub returns-in_err-answer_part-clause-err : goal.returns-in_err-answer_part-clause-err
returns-in_err-answer_part-clause-err g c =
    always_err c.from_residual.result (λ whole at i none.
    let n : ℕ = c.args.self.now.seat in
    let p : List Made = c.args.self.now.held.seen in
    let q : List Made = c.loop.self.held.seen in
    let s : List Made = c.answer_part.new.self.held.seen in
    let k = c.loop.invariant.2 in
    let x = c.args.incoming.now in
    let y = c.loop.incoming in
    let z = c.feed_part-count.new.self in
    let done : List ℕ = k.served.0 in
    let rest : List ℕ = c.loop.rest.now in
    let count : ℕ = c.feed_part-count.result.0 in
    let part : List ℕ = take count rest in
    let some : 0 < length rest = some_bytes (length rest) (sym c.is_empty.ensures ∙ c.if-is_empty.false) in
    let now : c.loop.incoming.skips ≡ false = not_skipped c.loop.incoming.skips (length rest) (k.skips none) some in
    let h = k.served.2 at i none in
    let j = h.answers.is_in in
    let last = c.in_err-answer_part.ensures.err whole (h.answers.left ++ part) y now
    (ok_map _ _ c.feed_part-count.result.1 (λ frames f. f h.answers.left j now some) c.feed_part-count.ensures.ok)
    (err_map _ _ c.feed_part-count.result.1 (λ e f. f h.answers.left j now some) c.feed_part-count.ensures.err) in
    subst (λ (bytes : List ℕ). SendsLast g.O.Outlet.sent g.O.Outlet.broken n p s bytes x c.args.self.now.answers c.answer_part.new.self.answers) (parts_at at done rest c.args.piece.now count k.served.1)
    (served_more n g.O.Outlet.sent g.O.Outlet.broken p s ((at ++ done) ++ part) (take (length rest - count) (drop count rest)) x c.args.self.now.answers c.answer_part.new.self.answers
    (served_last n g.O.Outlet.sent g.O.Outlet.broken p q s (at ++ done) part x y c.args.self.now.answers c.loop.self.answers c.answer_part.new.self.answers h
    (subst (λ (m : ℕ). SendsLast g.O.Outlet.sent g.O.Outlet.broken m q s (h.answers.left ++ part) y c.loop.self.answers c.answer_part.new.self.answers) k.seat last))))

pub loop-preserved : goal.loop-preserved
loop-preserved g c =
    let n : ℕ = c.args.self.now.seat in
    let p : List Made = c.args.self.now.held.seen in
    let q : List Made = c.loop.self.held.seen in
    let s : List Made = c.answer_part.new.self.held.seen in
    let k = c.loop.invariant.2 in
    let x = c.args.incoming.now in
    let y = c.loop.incoming in
    let z = c.feed_part-count.new.self in
    let done : List ℕ = k.served.0 in
    let rest : List ℕ = c.loop.rest.now in
    let count : ℕ = c.feed_part-count.result.0 in
    let part : List ℕ = take count rest in
    let some : 0 < length rest = some_bytes (length rest) (sym c.is_empty.ensures ∙ c.if-is_empty.false) in
    let now : c.args.incoming.now.skips ≡ false → c.loop.incoming.skips ≡ false = λ none. not_skipped c.loop.incoming.skips (length rest) (k.skips none) some in (
      tt,
      tt,
      record {
        seat = c.in_ok-answer_part.ensures.seat ∙ k.seat;
        whole = λ e. c.in_ok-answer_part.ensures.whole;
        skips = λ none e. nothing_left rest count (c.feed_part-count.ensures.skips (now none) e);
        served = (
          done ++ part,
          parts_on done rest c.args.piece.now count k.served.1,
          λ at i none.
              let h = k.served.2 at i none in
              let j = h.answers.is_in in
              let served = c.in_ok-answer_part.ensures.answered (h.answers.left ++ part) y (now none)
              (ok_map _ _ c.feed_part-count.result.1 (λ frames f. f h.answers.left j (now none) some) c.feed_part-count.ensures.ok)
              (err_map _ _ c.feed_part-count.result.1 (λ e f. f h.answers.left j (now none) some) c.feed_part-count.ensures.err) in
              subst (λ (bytes : List ℕ). SendsAnswers g.O.Outlet.sent g.O.Outlet.broken n p s bytes x z c.args.self.now.answers c.answer_part.new.self.answers) (append_assoc at done part)
              (served_on n g.O.Outlet.sent g.O.Outlet.broken p q s (at ++ done) part x y z c.args.self.now.answers c.loop.self.answers c.answer_part.new.self.answers h
              (subst (λ (m : ℕ). SendsAnswers g.O.Outlet.sent g.O.Outlet.broken m q s (h.answers.left ++ part) y z c.loop.self.answers c.answer_part.new.self.answers) k.seat served)),
        );
      },
    )
