use Rattle.std.proofs.Common.{◌≡◌, None, true, length, IfSome}
use Rattle.tab_session.specs.Replays.{IsReplaying}
use Rattle.tab_session.proofs.replaying.run_all.Given as goal

pub record Kept (A B C D E F : Type 0) : Type 0 where
  pub replaying : A
  pub going : B
  pub room : C
  pub input : D
  pub output : E
  pub flushed : F

abbrev pub invariant-loop-round : goal.invariant-loop-round
invariant-loop-round g l = Kept
    (IfSome (g.R.Source.remaining l.initial.input) (λ stream. IsReplaying l.fn.outbox stream (g.R.Source.remaining l.input) l.splitter.rest l.round l.core (g.W.Target.contents l.initial.output) (g.W.Target.contents l.output)))
    (l.splitter.over ≡ None)
    (length l.piece ≡ 65536)
    (g.R.Source.faults l.input ≡ g.R.Source.faults l.initial.input)
    (g.W.Target.faults l.output ≡ g.W.Target.faults l.initial.output)
    (g.W.Target.is_flushed l.initial.output ≡ true → g.W.Target.is_flushed l.output ≡ true)
