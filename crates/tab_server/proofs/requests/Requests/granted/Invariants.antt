use Rattle.std.proofs.Common.{◌≡◌}
use mathlib.Core.List.{IsPrefix}
use Rattle.tab_server.proofs.requests.Requests.granted.Given as goal

-- what was seen goes on
abbrev pub invariant-loop : goal.invariant-loop
invariant-loop g l = IsPrefix l.initial.self.held.seen l.self.held.seen × (l.self.seat ≡ l.initial.self.seat) × (l.self.answers ≡ l.initial.self.answers)
