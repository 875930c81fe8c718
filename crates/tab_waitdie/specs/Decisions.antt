-- The answers of the program, and who holds and who waits after each.
use Rattle.std.specs.Prelude.{List, [], ◌∷◌, ◌++◌, Bool, true, false}
use Rattle.tab_model.specs.Ages as plain
use Rattle.tab_model.specs.Ages.{Owned, Ages, without}
use Rattle.tab_locks.specs.declared.lock_table.Conflict.{Conflict}
use Rattle.tab_locks.specs.declared.lock_table.Conflict.TheVariants.{Free, WithOlder}
use Rattle.tab_locks.specs.Placed.{placed}
use Rattle.tab_waitdie.specs.declared.ages.LockDecision.{LockDecision}
use Rattle.tab_waitdie.specs.declared.ages.LockDecision.TheVariants.{Granted, Wait, Die}
use Rattle.tab_waitdie.specs.declared.ages.Retried.{Retried}
use Rattle.tab_waitdie.specs.declared.ages.Retried.TheVariants as retried

-- these hold, and these wait
abbrev pub ages : List Owned → List Owned → Ages
ages held queue = record { held = held; queue = queue }

-- an answer of the program as the definitions speak of it
abbrev pub answer_of : LockDecision → plain.Answer
answer_of Granted = plain.Granted
answer_of Wait = plain.Wait
answer_of Die = plain.Die

-- by whom a request that no own lock serves conflicts with, among who holds and among who waits
abbrev pub answer_to : Conflict → Conflict → LockDecision
answer_to Free Free = Granted
answer_to WithOlder queued = Die
answer_to held WithOlder = Die
answer_to held queued = Wait

-- a granted lock is placed among the held ones, a request that waits is queued last, one that dies changes nothing
abbrev pub after_answer : Ages → Owned → LockDecision → Ages
after_answer g r Granted = ages (placed r g.held) g.queue
after_answer g r Wait = ages g.held (g.queue ++ r ∷ [])
after_answer g r Die = g

-- the queued request has its lock now
abbrev pub is_granted : Retried → Bool
is_granted retried.Granted = true
is_granted retried.Wait = false

-- the request moves from the queue to the held locks, or waits on
abbrev pub after_retried : Ages → Owned → Retried → Ages
after_retried g r retried.Granted = ages (placed r g.held) (without r.0 g.queue)
after_retried g r retried.Wait = g
