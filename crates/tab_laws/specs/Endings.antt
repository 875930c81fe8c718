-- How all transactions can end, with no abort and no restart (this project's own).
use Rattle.std.specs.Prelude.{◌≡◌, ℕ, List, [], ◌∷◌, Bool, true, false, IsTrue, IsFalse, None}
use Rattle.std.specs.List.{list_all}
use Rattle.tab_model.specs.declared.ask.Ask.TheVariants.{Retry, Do as DoCommand}
use Rattle.tab_model.specs.declared.data.Command.TheVariants as command
use Rattle.tab_model.specs.State.{State, transaction_at, is_waiting}
use Rattle.tab_model.specs.Outcome.{Ask}
use Rattle.tab_model.specs.Run.{Allowed, Call, outcome_of, after_all}

-- the session asks for a retry, or for a commit of its innermost level
abbrev pub is_retry_or_commit : Ask → Bool
is_retry_or_commit Retry = true
is_retry_or_commit (DoCommand command.Commit) = true
is_retry_or_commit a = false

-- in each step of a run, the posts that refuse are some that may
abbrev pub AreAllowed : State → List Call → Type 0
AreAllowed σ [] = Unit {0}
AreAllowed σ (c ∷ cs) = Allowed σ c.over c.session c.ask × AreAllowed (outcome_of σ c).state cs

-- no session waits, and none has an open transaction
pub record IsIdle (σ : State) : Type 0 where
  pub none_waits : (n : ℕ) → IsFalse (is_waiting σ n)
  pub none_open : (n : ℕ) → transaction_at σ n ≡ None

-- a run of retries and commits leads to a state in which all transactions have ended
pub record CanEnd (σ : State) : Type 0 where
  pub steps : List Call
  pub kinds : IsTrue (list_all (λ c. is_retry_or_commit c.ask) steps)
  pub allowed : AreAllowed σ steps
  pub ended : IsIdle (after_all σ steps)
