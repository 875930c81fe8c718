use Rattle.std.proofs.Common.{subst, List}
use Rattle.tab_model.specs.Ages.{Owned}
use Rattle.tab_locks.specs.Members.{Drops}
use Rattle.tab_locks.specs.Plain.{lock_of}
use Rattle.tab_locks.specs.Spots.{locks_in, holds_at}
use Rattle.tab_locks.proofs.tables.Tables.remove.Goals as goal

pub returns : goal.returns
returns c = subst (λ (v : List Owned). Drops (holds_at c.args.age (lock_of c.args.lock)) v (locks_in c.take.new.tables.entries)) c.self.view_is c.take.ensures.dropped
