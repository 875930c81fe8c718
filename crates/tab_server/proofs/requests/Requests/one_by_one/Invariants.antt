use Rattle.std.proofs.Common.{◌≡◌, ◌++◌, [], List, ℕ, true, false, length}
use Rattle.tab_server.specs.Streamed.{IsIn, SendsAnswers}
use Rattle.tab_server.proofs.requests.Requests.one_by_one.Given as goal

pub record Kept (A B C D : Type 0) : Type 0 where
  pub seat : A
  pub whole : B
  pub skips : C
  pub served : D

abbrev pub invariant-loop : goal.invariant-loop
invariant-loop g l =
    (goal.iterator-loop g).can_next l.iterator' × (goal.iterator-loop g).is_finite l.iterator'
    × Kept
    (l.self.seat ≡ l.initial.self.seat)
    (l.initial.self.answers.frames.items ≡ [] → l.self.answers.frames.items ≡ [])
    (l.initial.incoming.skips ≡ false → l.incoming.skips ≡ true → length l.rest ≡ 0)
    ((done : List ℕ) × (l.piece ≡ done ++ l.rest) × ((at : List ℕ) → IsIn at l.initial.incoming → l.initial.incoming.skips ≡ false
    → SendsAnswers g.O.Outlet.sent g.O.Outlet.broken l.initial.self.seat l.initial.self.held.seen l.self.held.seen (at ++ done) l.initial.incoming l.incoming l.initial.self.answers l.self.answers))
