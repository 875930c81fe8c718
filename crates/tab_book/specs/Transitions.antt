-- What a step did to its session's transaction: how many of its levels were open before and after, and how the outermost ended
-- (this project's own).
use Rattle.std.specs.Prelude.{ℕ, ◌-◌, ◌^◌, ◌==◌, Bool, true, false, if◌then◌else◌, Option, None, Some, min, nat_lt}
use Rattle.tab_model.specs.declared.data.Reply.{Reply}
use Rattle.tab_model.specs.declared.data.Reply.TheVariants as reply
use Rattle.tab_model.specs.declared.ask.Ask.TheVariants.{Leave}
use Rattle.tab_model.specs.Outcome.{Ask}
use Rattle.tab_model.specs.Standing.{levels_of}
use Rattle.tab_model.specs.State.{State}
use Rattle.tab_book.specs.declared.step.TransactionEnd.{TransactionEnd}
use Rattle.tab_book.specs.declared.step.TransactionEnd.TheVariants as ended
use Rattle.tab_book.specs.declared.step.Transition.{Transition}

-- a session leaves
abbrev pub is_leave : Ask → Bool
is_leave Leave = true
is_leave a = false

-- a transaction begins again
abbrev pub is_restart : Reply → Bool
is_restart reply.Restart = true
is_restart r = false

-- the levels that a session has open, up to the greatest number of a word
abbrev pub counted_levels : State → ℕ → ℕ
counted_levels σ n = min (levels_of σ n) (2 ^ 64 - 1)

-- how the outermost transaction ended, if it was open and did: it is committed exactly where the number of commits rose
abbrev pub ended_by : ℕ → ℕ → Bool → Bool → Bool → Option TransactionEnd
ended_by before after committed leaves restarts =
    if before == 0 then None
    else if committed then Some ended.Commit
    else if leaves then Some ended.Leave
    else if after == 0 then Some ended.Abort
    else if restarts then Some ended.Restart
    else None

-- what became of the transaction of session n in a step from σ to τ that was answered r
abbrev pub transition : State → State → ℕ → Ask → Reply → Transition
transition σ τ n a r = record {
  before = counted_levels σ n;
  after = counted_levels τ n;
  ended = ended_by (counted_levels σ n) (counted_levels τ n) (nat_lt σ.commits τ.commits) (is_leave a) (is_restart r);
}
