use Rattle.std.proofs.Common.{◌≡◌, ◌∷◌, []}
use Rattle.std.specs.Prelude.{IfSome}
use Rattle.tab_term.specs.Data.{none}
use Rattle.tab_oneshot.proofs.Attempting.{Trying}
use Rattle.tab_oneshot.proofs.driver.attempts.Given as goal

abbrev pub invariant-loop-restart : goal.invariant-loop-restart
invariant-loop-restart g l = record {
  tries : Trying g.S.Steps.shows l.initial.steps l.steps l.fn.parts l.retries l._restart;
  levels : l.levels ≡ none ∷ [];
  first : IfSome l.first (λ ps. ps.items ≡ l.fn.parts);
}
