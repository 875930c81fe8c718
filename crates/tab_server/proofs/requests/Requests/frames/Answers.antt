use Rattle.std.proofs.Common.{◌≡◌, ◌∙◌, ◌++◌, [], ◌∷◌, refl, ap, sym, subst, List, ℕ}
use Rattle.tab_etf.specs.Frames.{contents, payload_of}
use Rattle.tab_server.specs.Laws.{sends_none, sends_on}
use Rattle.tab_server.specs.Sending.{reply_frames}
use Rattle.tab_server.specs.Sent.{IsAnswered, Sends}
use Rattle.tab_server.proofs.Answering.{Begun, begins, goes_on, frames_behind}
use Rattle.tab_server.proofs.requests.Requests.frames.Goals as goal

pub loop-frame-init : goal.loop-frame-init
loop-frame-init g c = (refl, (begins c.args.self.now.seat c.args.self.now.held.seen (contents c.args.frames.now), sends_none g.O.Outlet.sent g.O.Outlet.broken c.args.self.now.answers))

pub loop-frame-preserved : goal.loop-frame-preserved
loop-frame-preserved g c =
    let n = c.args.self.now.seat in
    let b = c.loop-frame.invariant.1.0 in
    let told = c.in_ok-frame.ensures.answered in
    let q = c.loop-frame.self.held.seen in
    let s = c.frame.new.self.held.seen in
    let each : IsAnswered n q (payload_of c.in-Some.frame.now) told.0 s = subst (λ (m : ℕ). IsAnswered m q (payload_of c.in-Some.frame.now) told.0 s) c.loop-frame.invariant.0 told.1 in (
      c.in_ok-frame.ensures.seat ∙ c.loop-frame.invariant.0,
      (
        goes_on n c.args.self.now.held.seen q s (contents c.args.frames.now) (contents c.loop-frame.rest.now) (contents c.in-Some.behind.now) (payload_of c.in-Some.frame.now) told.0 (ap contents c.in-Some.ensures.cases.0) b each,
        subst (λ (bytes : List ℕ). Sends g.O.Outlet.sent g.O.Outlet.broken c.args.self.now.answers c.frame.new.self.answers bytes) (sym (frames_behind b.replies (told.0 ∷ [])))
            (sends_on g.O.Outlet.sent g.O.Outlet.broken c.args.self.now.answers c.loop-frame.self.answers c.frame.new.self.answers (reply_frames b.replies) (reply_frames (told.0 ∷ [])) c.loop-frame.invariant.1.1 told.2),
      ),
    )
