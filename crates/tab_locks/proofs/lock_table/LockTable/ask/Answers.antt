use Rattle.tab_locks.specs.Plain.{lock_of}
use Rattle.tab_locks.proofs.Standing.{nothing_in_the_way}
use Rattle.tab_locks.proofs.lock_table.LockTable.ask.Goals as goal

pub returns-in-Ok-clause-answer : goal.returns-in-Ok-clause-answer
returns-in-Ok-clause-answer c = nothing_in_the_way (c.args.age, lock_of c.args.lock) c.args.self.now c.in-Ok.ensures.free
