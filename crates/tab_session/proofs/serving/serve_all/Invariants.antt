use Rattle.std.proofs.Common.{◌≡◌, drop}
use Rattle.tab_etf.specs.Frames.{contents}
use Rattle.tab_session.specs.Replays.{IsServing}
use Rattle.tab_session.proofs.serving.serve_all.Given as goal

pub record Kept (A B : Type 0) : Type 0 where
  pub serving : A
  pub faults : B

abbrev pub invariant-loop-frame : goal.invariant-loop-frame
invariant-loop-frame g l = Kept
    (IsServing l.fn.outbox l.fn.core l.core (contents l.frames) (contents (drop l.frame-index l.frames)) (g.W.Target.contents l.initial.output) (g.W.Target.contents l.output) l.buffer.items)
    (g.W.Target.faults l.output ≡ g.W.Target.faults l.initial.output)
