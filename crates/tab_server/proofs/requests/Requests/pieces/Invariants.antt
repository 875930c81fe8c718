use Rattle.std.proofs.Common.{◌≡◌, [], false}
use Rattle.tab_server.specs.Streamed.{TakesPart}
use Rattle.tab_server.proofs.requests.Requests.pieces.Given as goal

pub record Kept (A B C D : Type 0) : Type 0 where
  pub seat : A
  pub whole : B
  pub none : C
  pub taken : D

abbrev pub invariant-loop : goal.invariant-loop
invariant-loop g l =
    (goal.iterator-loop g).can_next l.iterator' × (goal.iterator-loop g).is_finite l.iterator'
    × Kept
    (l.self.seat ≡ l.initial.self.seat)
    (l.initial.self.answers.frames.items ≡ [] → l.self.answers.frames.items ≡ [])
    (l.initial.incoming.skips ≡ false)
    (TakesPart g.O.Outlet.sent g.O.Outlet.broken l.initial.self.seat l.initial.self.held.seen l.self.held.seen (g.R.Read.remaining l.initial.reader) (g.R.Read.remaining l.reader) [] l.initial.incoming l.incoming l.initial.self.answers l.self.answers)
