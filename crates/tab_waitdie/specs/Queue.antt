-- The queued requests as definitions speak of them.
use Rattle.std.specs.Prelude.{List, map}
use Rattle.tab_model.specs.Ages.{Owned, Ages}
use Rattle.tab_locks.specs.Plain.{lock_of}
use Rattle.tab_waitdie.specs.declared.waiting.Waiting.{Waiting}

-- a queued request: the lock that it waits for, with its age
abbrev pub owned : Waiting → Owned
owned w = (w.age, lock_of w.lock)

-- the queued requests, in their order
abbrev pub queued : List Waiting → List Owned
queued ws = map owned ws

-- who holds, and who waits in the queue of the program
abbrev pub ages_of : List Owned → List Waiting → Ages
ages_of held ws = record { held = held; queue = queued ws }
