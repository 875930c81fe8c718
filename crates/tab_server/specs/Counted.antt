-- What of a session's transactions is counted (this project's own rules).
use Rattle.std.specs.Prelude.{ℕ, ◌+◌, ◌-◌, ◌^◌, ◌&&◌, ◌==◌, Bool, Option, Some, min, nat_lt, if◌then◌else◌}
use Rattle.tab_book.specs.declared.step.TransactionEnd.{TransactionEnd}
use Rattle.tab_book.specs.declared.step.TransactionEnd.TheVariants as ended
use Rattle.tab_book.specs.declared.step.Transition.{Transition}
use Rattle.tab_server.specs.declared.transactions.Transactions.{Transactions}

-- the sum, or the greatest number of a word
abbrev pub counted_sum : ℕ → ℕ → ℕ
counted_sum m n = min (m + n) (2 ^ 64 - 1)

-- the commits among the ends of one transaction
abbrev pub commits_in : Option TransactionEnd → ℕ
commits_in (Some ended.Commit) = 1
commits_in e = 0

-- the ends of one transaction without a commit; a restart is none, since the transaction stays open
abbrev pub aborts_in : Option TransactionEnd → ℕ
aborts_in (Some ended.Abort) = 1
aborts_in (Some ended.Leave) = 1
aborts_in e = 0

-- the transactions that were open after the step before and are not open at this step: they ended in another thread
abbrev pub ended_between : Bool → Transition → ℕ
ended_between was_open t = if was_open && (t.before == 0) then 1 else 0

-- the record with one step more
abbrev pub with_transition : Transactions → Transition → Transactions
with_transition x t =
    record x {
      is_open = nat_lt 0 t.after;
      commits = counted_sum x.commits (commits_in t.ended);
      aborts = counted_sum x.aborts (ended_between x.is_open t + aborts_in t.ended);
    }
