-- A reply is that of a step of a running book.
use Rattle.std.proofs.Common.{◌≡◌, ℕ}
use Rattle.std.specs.Prelude.{Result, Ok, Err, IfOk}
use Rattle.tab_model.specs.Outcome.{Ask}
use Rattle.tab_book.specs.declared.step.Answered.{Answered}
use Rattle.tab_book.specs.Releases.{SaysReleases}
use Rattle.tab_book.specs.Replies.{Answers}
use Rattle.tab_book.specs.Running.{Running, IsRunning}
use Rattle.tab_book.specs.Steps.{StepsTo}
use Rattle.tab_book.specs.Transitions.{transition}

module _ (n : ℕ) (a : Ask) where
  pub answers : {E : Type 0} (old new : Running) (r : Result Answered E) → IsRunning old → IsRunning new → IfOk r (λ x. StepsTo old n a x.told new)
      → IfOk r (λ x. SaysReleases x.releases old.state new.state) → IfOk r (λ x. x.transaction ≡ transition old.state new.state n a x.told) → IfOk r (λ x. Answers old new n a x)
  answers old new (Ok x) runs runs_on step releases transaction = record { runs = runs; step = step; runs_on = runs_on; releases = releases; transaction = transaction }
  answers old new (Err e) runs runs_on step releases transaction = tt
