-- What an operation answers on a committed table, with what its transaction left there (what it answers on one table alone: the
-- definitions of tab_model).
use Rattle.std.specs.Prelude.{◌≡◌, Some}
use Rattle.tab_model.specs.declared.data.Operation.{Operation}
use Rattle.tab_model.specs.declared.data.Reply.{Reply}
use Rattle.tab_model.specs.Operations.{failure_at, answer_or}
use Rattle.tab_model.specs.Tables.{Rows}
use Rattle.tab_model.specs.Catalogs.{Table, with_rows}
use Rattle.tab_txstore.specs.Merged.{IsSeen}
use Rattle.tab_txstore.specs.Overlays.{Touched}

-- the reply of an operation on one table, failures too
abbrev pub replied : Table → Operation → Reply
replied t o = answer_or (failure_at t o) (Some t) o

-- the reply on the table as the transaction sees it
abbrev pub Answers : Touched → Table → Operation → Reply → Type 0
Answers xs committed o r = (seen : Rows) → IsSeen xs committed.rows seen → r ≡ replied (with_rows committed seen) o
