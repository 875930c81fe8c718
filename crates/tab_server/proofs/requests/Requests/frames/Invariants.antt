use Rattle.std.proofs.Common.{◌≡◌, length}
use Rattle.tab_etf.specs.Frames.{contents}
use Rattle.tab_server.specs.Sending.{reply_frames}
use Rattle.tab_server.specs.Sent.{Sends}
use Rattle.tab_server.proofs.Answering.{Begun}
use Rattle.tab_server.proofs.requests.Requests.frames.Given as goal

abbrev pub invariant-loop-frame : goal.invariant-loop-frame
invariant-loop-frame g l =
    (l.self.seat ≡ l.initial.self.seat)
    × ((b : Begun l.initial.self.seat l.initial.self.held.seen l.self.held.seen (contents l.frames) (contents l.rest)) × Sends g.O.Outlet.sent g.O.Outlet.broken l.initial.self.answers l.self.answers (reply_frames b.replies))

abbrev pub decreases-loop-frame : goal.decreases-loop-frame
decreases-loop-frame g l = length l.rest
