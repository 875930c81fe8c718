use Rattle.std.proofs.Common.{sym, ap, ◌∙◌}
use Rattle.std.specs.List.{list_any}
use Rattle.tab_model.specs.Ages.{Owned}
use Rattle.tab_locks.specs.Plain.{lock_of}
use Rattle.tab_locks.specs.Questions.{meets_at}
use Rattle.tab_locks.proofs.Standing.{clear}
use Rattle.tab_locks.proofs.lock_table.LockTable.standing.Goals as goal

pub returns-then-not-any : goal.returns-then-not-any
returns-then-not-any c =
    let r : Owned = (c.args.age, lock_of c.args.lock.now) in
    clear r c.args.self.now (sym (c.if-not-any.ensures ∙ c.self.invariant.indexed (meets_at r) ∙ ap (list_any (meets_at r)) c.self.view_is))
