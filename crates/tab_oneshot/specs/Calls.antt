-- What a seat was asked, and what it answered (this project's own form).
use Rattle.std.specs.Prelude.{◌≢◌, ℕ, suc, List, [], ◌∷◌, Option, Some, None, Result, Ok, Err}
use Rattle.tab_model.specs.declared.data.Command.{Command}
use Rattle.tab_model.specs.declared.data.Reply.{Reply}
use Rattle.tab_model.specs.declared.data.Reply.TheVariants as reply

-- what a one-shot's driver does on its session: it asks, it waits, or it restarts
pub data Call : Type 0 where
  -- a command, with its reply
  Asked : Command → Reply → Call
  -- a wait for the operation before, with its reply; None where the surroundings can't wait
  Waited : Option Reply → Call
  -- the operations are run again, from the first
  Again : Call

-- what is refused for memory is answered NoMemory
abbrev pub answer_in : {E : Type 0} → Result Reply E → Reply
answer_in (Ok r) = r
answer_in (Err e) = reply.NoMemory

-- the answer of a wait, if the surroundings could wait; a want of memory is answered NoMemory
abbrev pub waited_for : {E : Type 0} → Option (Result Reply E) → Option Reply
waited_for None = None
waited_for (Some r) = Some (answer_in r)

-- a wait ends with another answer
abbrev pub IsNoWait : {E : Type 0} → Option (Result Reply E) → Type 0
IsNoWait None = Unit {0}
IsNoWait (Some r) = answer_in r ≢ reply.Waiting

-- how often the operations were run again
abbrev pub agains : List Call → ℕ
agains [] = 0
agains (Asked c r ∷ calls) = agains calls
agains (Waited w ∷ calls) = agains calls
agains (Again ∷ calls) = suc (agains calls)
