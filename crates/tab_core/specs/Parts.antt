-- The parts of a machine with the sessions that it is lent, as the state that definitions speak of (this project's own).
use Rattle.std.specs.Prelude.{ℕ, ◌+◌, List, Option, None, Some, map, option_map}
use Rattle.std.specs.Global.{Vec}
use Rattle.tab_model.specs.declared.data.Limits.{Limits}
use Rattle.tab_model.specs.Ages.{Ages}
use Rattle.tab_model.specs.Catalogs.{Catalog}
use Rattle.tab_model.specs.State.{Transaction, Session, Queued, State}
use Rattle.tab_core.specs.declared.transaction.Transaction as kept
use Rattle.tab_core.specs.Joined.{Subscriber}
use Rattle.tab_core.specs.declared.queue.Request as request
use Rattle.tab_core.specs.declared.machine.Machine.{Machine}

-- the parts of a machine, and all sessions
pub record Parts : Type 0 where
  pub catalog : Catalog
  pub sessions : List Subscriber
  pub ages : Ages
  pub queue : Vec request.Request
  pub begun : ℕ
  pub commits : ℕ
  pub greatest : ℕ
  pub limits : Limits

-- the parts of a machine, whatever its posts are
abbrev pub parts_of : {P : Type 0} → Machine P → Parts
parts_of m = record {
  catalog = m.catalog;
  sessions = m.sessions;
  ages = m.ages;
  queue = m.queue;
  begun = m.begun;
  commits = m.commits;
  greatest = m.greatest;
  limits = m.limits;
}

-- a transaction of the program as the definitions speak of it
abbrev pub transaction_of : kept.Transaction → Transaction
transaction_of t = record { age = t.age; moves = t.store.moves; told = t.store.told }

-- a session of the program as the definitions speak of it
abbrev pub session_of : Subscriber → Session
session_of s = record { number = s.number; transaction = option_map transaction_of s.transaction; watching = s.watching; outbox = s.outbox; overflow = s.overflow }

-- a queued request of the program as the definitions speak of it
abbrev pub queued_of : request.Request → Queued
queued_of q = record { session = q.session; age = q.age; operation = q.operation }

-- the parts as the state that the definitions speak of; the next age is one more than the begins so far
abbrev pub state_of : Parts → State
state_of m = record {
  tables = m.catalog;
  sessions = map session_of m.sessions;
  queue = map queued_of m.queue.items;
  next_age = m.begun + 1;
  commits = m.commits;
  greatest = m.greatest;
  limits = m.limits;
}

-- the state of a machine
abbrev pub state_with : {P : Type 0} → Machine P → State
state_with m = state_of (parts_of m)

-- the open transaction of a session, if there is one
abbrev pub transaction_in : Option Subscriber → Option kept.Transaction
transaction_in None = None
transaction_in (Some s) = s.transaction
