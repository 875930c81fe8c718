-- What holds of a machine's parts, and of the sessions that it is lent, before and after each step.
use Rattle.std.specs.Prelude.{◌≡◌, ◌≤◌, ◌<◌, ℕ, ◌+◌, List, [], ◌∷◌, Option, None, Some, map, length}
use Rattle.tab_locks.specs.Members.{SameMembers}
use Rattle.tab_model.specs.Ages.{Rises}
use Rattle.tab_model.specs.State.{locks_held_in, locks_queued_in, ages_of, transaction_at, OwnedBy, IsSound}
use Rattle.tab_txstore.specs.Stores.{Fits}
use Rattle.tab_core.specs.declared.transaction.Transaction as kept
use Rattle.tab_subs.specs.Subscribers.{at}
use Rattle.tab_core.specs.Joined.{Subscriber}
use Rattle.tab_core.specs.Parts.{Parts, queued_of, session_of, state_of, transaction_in}

-- how many transactions are open there: one or none
abbrev pub opens : Option kept.Transaction → ℕ
opens None = 0
opens (Some t) = 1

-- how many sessions have a transaction open
abbrev pub count_open : List Subscriber → ℕ
count_open [] = 0
count_open (s ∷ ss) = opens s.transaction + count_open ss

-- what the parts have to do with each other
pub record Agree (m : Parts) : Type 0 where
  -- the lock table has the locks of the open transactions, and the queue's requests
  pub held : SameMembers (locks_held_in (map session_of m.sessions)) m.ages.held
  pub queue : m.ages.queue ≡ locks_queued_in (map queued_of m.queue.items)
  -- each private store is as if made over the tables as they are now
  pub fits : (n : ℕ) (t : kept.Transaction) → transaction_in (at m.sessions n) ≡ Some t → Fits t.store m.catalog
  -- no number passes a machine word
  pub ages : m.begun ≤ m.limits.ages
  pub counted : m.commits + count_open m.sessions ≤ m.begun
  pub word : m.limits.ages < 18446744073709551616
  pub sessions : m.limits.sessions ≤ 64
  pub room : length m.sessions ≤ 64

-- what holds of a machine and its sessions
pub record IsKept (m : Parts) : Type 0 where
  pub agree : Agree m
  pub sound : IsSound (state_of m)
  pub rises : Rises (ages_of (state_of m))
  pub owners : OwnedBy (transaction_at (state_of m)) (state_of m).queue
