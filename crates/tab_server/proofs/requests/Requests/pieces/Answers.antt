use Rattle.std.proofs.Common.{[], List, ℕ, refl, subst, ◌∙◌, inl, inr}
use Rattle.tab_etf.proofs.KnownBytesLemmas.{Consumes-none}
use Rattle.tab_post.proofs.Prefixes.{prefix_self}
use Rattle.tab_book.specs.Logs.{Made}
use Rattle.tab_server.specs.Streamed.{TakesLast, TakesPart}
use Rattle.tab_server.proofs.Streaming.{always_err, stream_answered, stream_stopped, takes_last, takes_none, takes_on}
use Rattle.tab_server.proofs.requests.Requests.pieces.Goals as goal

pub loop-init : goal.loop-init
loop-init g c = (
  tt,
  tt,
  record {
    seat = refl;
    whole = λ h. h;
    none = c.new-incoming.ensures.skips;
    taken = takes_none c.args.self.now.seat g.O.Outlet.sent g.O.Outlet.broken c.args.self.now.held.seen c.args.self.now.held.seen (prefix_self c.args.self.now.held.seen) _ _ [] c.new-incoming.result c.args.self.now.answers (Consumes-none _) c.new-incoming.ensures.at;
  },
)

pub returns-in_err-end-clause-err : goal.returns-in_err-end-clause-err
returns-in_err-end-clause-err g c =
    always_err c.from_residual.result (λ whole.
    let n : ℕ = c.args.self.now.seat in
    let p : List Made = c.args.self.now.held.seen in
    let q : List Made = c.loop.self.held.seen in
    let s : List Made = c.read_once.new.self.held.seen in
    let k = c.loop.invariant.2 in
    let h = k.taken in
    let j = h.served.answers in
    elim (c.in_err-end.ensures.err whole j.left j.is_in) [
      | inl more ↦ inl (stream_answered n g.O.Outlet.sent g.O.Outlet.broken p s (g.R.Read.remaining c.args.reader.now) (g.R.Read.remaining c.read_once.new.reader) c.new-incoming.result c.read_once.new.incoming c.args.self.now.answers c.read_once.new.self.answers k.none
          (takes_on n g.O.Outlet.sent g.O.Outlet.broken p q s (g.R.Read.remaining c.args.reader.now) (g.R.Read.remaining c.loop.reader) (g.R.Read.remaining c.read_once.new.reader) [] c.new-incoming.result c.loop.incoming c.read_once.new.incoming c.args.self.now.answers c.loop.self.answers c.read_once.new.self.answers h (subst (λ (m : ℕ). TakesPart g.O.Outlet.sent g.O.Outlet.broken m q s (g.R.Read.remaining c.loop.reader) (g.R.Read.remaining c.read_once.new.reader) j.left c.loop.incoming c.read_once.new.incoming c.loop.self.answers c.read_once.new.self.answers) k.seat more)))
      | inr last ↦ inr (stream_stopped n g.O.Outlet.sent g.O.Outlet.broken p s (g.R.Read.remaining c.args.reader.now) (g.R.Read.remaining c.read_once.new.reader) c.new-incoming.result c.args.self.now.answers c.read_once.new.self.answers k.none
          (takes_last n g.O.Outlet.sent g.O.Outlet.broken p q s (g.R.Read.remaining c.args.reader.now) (g.R.Read.remaining c.loop.reader) (g.R.Read.remaining c.read_once.new.reader) [] c.new-incoming.result c.loop.incoming c.args.self.now.answers c.loop.self.answers c.read_once.new.self.answers h (subst (λ (m : ℕ). TakesLast g.O.Outlet.sent g.O.Outlet.broken m q s (g.R.Read.remaining c.loop.reader) (g.R.Read.remaining c.read_once.new.reader) j.left c.loop.incoming c.loop.self.answers c.read_once.new.self.answers) k.seat last)))
    ])

pub returns-in-Some-2-clause-answered : goal.returns-in-Some-2-clause-answered
returns-in-Some-2-clause-answered g c =
    let n : ℕ = c.args.self.now.seat in
    let p : List Made = c.args.self.now.held.seen in
    let q : List Made = c.loop.self.held.seen in
    let s : List Made = c.read_once.new.self.held.seen in
    let k = c.loop.invariant.2 in
    let h = k.taken in
    let j = h.served.answers in
    let more = c.in_ok-end.ensures.answered j.left j.is_in in
    stream_answered n g.O.Outlet.sent g.O.Outlet.broken p s (g.R.Read.remaining c.args.reader.now) (g.R.Read.remaining c.read_once.new.reader) c.new-incoming.result c.read_once.new.incoming c.args.self.now.answers c.read_once.new.self.answers k.none
    (takes_on n g.O.Outlet.sent g.O.Outlet.broken p q s (g.R.Read.remaining c.args.reader.now) (g.R.Read.remaining c.loop.reader) (g.R.Read.remaining c.read_once.new.reader) [] c.new-incoming.result c.loop.incoming c.read_once.new.incoming c.args.self.now.answers c.loop.self.answers c.read_once.new.self.answers h (subst (λ (m : ℕ). TakesPart g.O.Outlet.sent g.O.Outlet.broken m q s (g.R.Read.remaining c.loop.reader) (g.R.Read.remaining c.read_once.new.reader) j.left c.loop.incoming c.read_once.new.incoming c.loop.self.answers c.read_once.new.self.answers) k.seat more))

pub loop-preserved : goal.loop-preserved
loop-preserved g c =
    let n : ℕ = c.args.self.now.seat in
    let p : List Made = c.args.self.now.held.seen in
    let q : List Made = c.loop.self.held.seen in
    let s : List Made = c.read_once.new.self.held.seen in
    let k = c.loop.invariant.2 in
    let h = k.taken in
    let j = h.served.answers in
    let more = c.in_ok-end.ensures.answered j.left j.is_in in (
      tt,
      tt,
      record {
        seat = c.in_ok-end.ensures.seat ∙ k.seat;
        whole = λ e. c.in_ok-end.ensures.whole (k.whole e);
        none = k.none;
        taken = takes_on n g.O.Outlet.sent g.O.Outlet.broken p q s (g.R.Read.remaining c.args.reader.now) (g.R.Read.remaining c.loop.reader) (g.R.Read.remaining c.read_once.new.reader) [] c.new-incoming.result c.loop.incoming c.read_once.new.incoming c.args.self.now.answers c.loop.self.answers c.read_once.new.self.answers h
            (subst (λ (m : ℕ). TakesPart g.O.Outlet.sent g.O.Outlet.broken m q s (g.R.Read.remaining c.loop.reader) (g.R.Read.remaining c.read_once.new.reader) j.left c.loop.incoming c.read_once.new.incoming c.loop.self.answers c.read_once.new.self.answers) k.seat more);
      },
    )
