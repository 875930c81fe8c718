-- What a core is, as plain data (this project's own).
use Rattle.std.specs.Prelude.{◌≡◌, ◌≢◌, ◌<◌, ◌≤◌, ℕ, suc, List, [], ◌∷◌, ◌++◌, Bool, not, ◌==◌, if◌then◌else◌, Option, Some, None, is_some, find, filter}
use Rattle.std.specs.List.{list_any}
use Rattle.std.specs.Str.{bytes_eq}
use Rattle.tab_model.specs.declared.data.Operation.{Operation}
use Rattle.tab_model.specs.declared.data.Move.{Move}
use Rattle.tab_model.specs.declared.data.Move.TheVariants.{Do, Open, Close, Undo}
use Rattle.tab_model.specs.declared.data.Reply.{Reply}
use Rattle.tab_model.specs.declared.data.Item.{Item}
use Rattle.tab_model.specs.declared.data.Level.{Level}
use Rattle.tab_model.specs.declared.data.Limits.{Limits}
use Rattle.tab_model.specs.Catalogs.{Catalog, IsOrderedCatalog}
use Rattle.tab_model.specs.Alone.{Mid, start, after, replies}
use Rattle.tab_model.specs.Locks.{Lock, needs, locks_of, Apart}
use Rattle.tab_model.specs.Ages.{Ages, Owned}

-- an open transaction: what it did since its begin or its last restart, and what it was told
pub record Transaction : Type 0 where
  pub age : ℕ
  pub moves : List Move
  pub told : List (Option Reply)

-- a post: its items, how often it refused, and its capacity where that decides
pub record Outbox : Type 0 where
  -- those that are not taken yet; of a channel's, whose capacity is None, all that were ever put into it
  pub items : List Item
  pub refusals : ℕ
  pub capacity : Option ℕ
  -- the place of its mailbox in a register, where it has one
  pub mailbox : Option ℕ

-- a table that a session watches, with the level at which it does
pub record Watch : Type 0 where
  pub table : List ℕ
  pub level : Level

-- a joined session; overflow is the number of the first commit of which it gets nothing, until it has that number
pub record Session : Type 0 where
  pub number : ℕ
  pub transaction : Option Transaction
  pub watching : List Watch
  pub outbox : Outbox
  pub overflow : Option ℕ

-- a request in the queue: the session that waits, its transaction's age, and the operation that it waits with
pub record Queued : Type 0 where
  pub session : ℕ
  pub age : ℕ
  pub operation : Operation

-- a core between steps: committed tables, sessions in the order of joining, the queue, counts, and limits
pub record State : Type 0 where
  pub tables : Catalog
  pub sessions : List Session
  pub queue : List Queued
  pub next_age : ℕ
  pub commits : ℕ
  -- the greatest number of a session that has joined
  pub greatest : ℕ
  pub limits : Limits

-- a core that has just been made
abbrev pub new : Limits → State
new limits = record { tables = []; sessions = []; queue = []; next_age = 1; commits = 0; greatest = 0; limits = limits }

-- the session of a number, where it is joined
abbrev pub session_at : List Session → ℕ → Option Session
session_at sessions n = find (λ s. s.number == n) sessions

-- the moves of an open transaction; empty where none is open
abbrev pub moves_in : Option Transaction → List Move
moves_in None = []
moves_in (Some transaction) = transaction.moves

-- the replies to an open transaction's moves, in their order, None for an abort; empty where none is open
abbrev pub replies_in : Option Transaction → List (Option Reply)
replies_in None = []
replies_in (Some transaction) = transaction.told

-- the age of an open transaction, or 0 where none is open
abbrev pub age_in : Option Transaction → ℕ
age_in None = 0
age_in (Some transaction) = transaction.age

-- the open transaction of a session, where it is joined and has one
abbrev pub transaction_in : Option Session → Option Transaction
transaction_in None = None
transaction_in (Some s) = s.transaction

-- a session's open transaction
abbrev pub transaction_at : State → ℕ → Option Transaction
transaction_at σ n = transaction_in (session_at σ.sessions n)

-- the moves of a session's open transaction; empty where it has none
abbrev pub moves_at : State → ℕ → List Move
moves_at σ n = moves_in (transaction_at σ n)

-- the replies to the moves of a session's open transaction, None for an abort; empty where it has none
abbrev pub replies_at : State → ℕ → List (Option Reply)
replies_at σ n = replies_in (transaction_at σ n)

-- the age of a session's open transaction, or 0 where it has none
abbrev pub age_at : State → ℕ → ℕ
age_at σ n = age_in (transaction_at σ n)

-- a session's first request in the queue, where it has one
abbrev pub request_in : List Queued → ℕ → Option Queued
request_in qs n = find (λ q. q.session == n) qs

-- the queue without a session's requests, the others in their order
abbrev pub without_request : List Queued → ℕ → List Queued
without_request qs n = filter (λ q. not (q.session == n)) qs

-- whether a session has a request queued
abbrev pub is_waiting : State → ℕ → Bool
is_waiting σ n = is_some (request_in σ.queue n)

-- the locks held and awaited, each with its age
-- locks, each with this age
abbrev pub with_age : ℕ → List Lock → List Owned
with_age a [] = []
with_age a (l ∷ ls) = (a, l) ∷ with_age a ls

-- the locks that an open transaction holds, each with its age, in the order of its operations
abbrev pub locks_held_by : Option Transaction → List Owned
locks_held_by None = []
locks_held_by (Some transaction) = with_age transaction.age (locks_of transaction.moves)

-- the locks that the transactions of all sessions hold, each with its age, session by session
abbrev pub locks_held_in : List Session → List Owned
locks_held_in [] = []
locks_held_in (s ∷ sessions) = locks_held_by s.transaction ++ locks_held_in sessions

-- the locks that the queued requests wait for, each with its age, in the order of the queue
abbrev pub locks_queued_in : List Queued → List Owned
locks_queued_in [] = []
locks_queued_in (q ∷ qs) = (q.age, needs q.operation) ∷ locks_queued_in qs

-- who holds and who waits, read off the open transactions and the queue
abbrev pub ages_of : State → Ages
ages_of σ = record { held = locks_held_in σ.sessions; queue = locks_queued_in σ.queue }

-- the lock is on the table or on a key of it
abbrev pub is_in : List ℕ → Owned → Bool
is_in t x = bytes_eq (x.1).table t

-- whether some transaction holds or awaits a lock in the table
abbrev pub is_busy : State → List ℕ → Bool
is_busy σ t = list_any (is_in t) (locks_held_in σ.sessions ++ locks_queued_in σ.queue)

-- the level at which a session watches a table
abbrev pub level_in : List Watch → List ℕ → Option Level
level_in [] t = None
level_in (x ∷ xs) t = if bytes_eq x.table t then Some x.level else level_in xs t

-- what a session watches, without a table
abbrev pub without_watch : List Watch → List ℕ → List Watch
without_watch xs t = filter (λ x. not (bytes_eq x.table t)) xs

-- operations and child begins of this attempt
abbrev pub count_moves : List Move → ℕ
count_moves [] = 0
count_moves (Do o ∷ xs) = suc (count_moves xs)
count_moves (Open ∷ xs) = suc (count_moves xs)
count_moves (Close ∷ xs) = count_moves xs
count_moves (Undo ∷ xs) = count_moves xs

-- where a transaction stands, on the tables as they are
abbrev pub mid_of : State → Transaction → Mid
mid_of σ transaction = after (start σ.tables transaction.age) transaction.moves

-- a transaction is open, and this is its age
abbrev pub HasAge : Option Transaction → ℕ → Type 0
HasAge None a = ⊥
HasAge (Some transaction) a = transaction.age ≡ a

-- each request's session has an open transaction of its age
abbrev pub OwnedBy : (ℕ → Option Transaction) → List Queued → Type 0
OwnedBy f [] = Unit {0}
OwnedBy f (q ∷ qs) = HasAge (f q.session) q.age × OwnedBy f qs

-- a session sits once
abbrev pub AreDistinct : List Session → Type 0
AreDistinct [] = Unit {0}
AreDistinct (s ∷ sessions) = (session_at sessions s.number ≡ None) × AreDistinct sessions

-- what every reached core has
pub record IsSound (σ : State) : Type 0 where
  -- each open transaction was told what it is told alone, on the tables as they are now
  pub told : (n : ℕ) → replies (start σ.tables (age_at σ n)) (moves_at σ n) ≡ replies_at σ n
  -- the locks of two sessions' transactions don't conflict
  pub apart : (m n : ℕ) → m ≢ n → Apart (locks_of (moves_at σ m)) (locks_of (moves_at σ n))
  -- ages are different, and below the next one
  pub ages : (m n : ℕ) (t u : Transaction) → transaction_at σ m ≡ Some t → transaction_at σ n ≡ Some u → t.age ≡ u.age → m ≡ n
  pub taken : (n : ℕ) (t : Transaction) → transaction_at σ n ≡ Some t → t.age < σ.next_age
  pub joined : (n : ℕ) (s : Session) → session_at σ.sessions n ≡ Some s → n ≤ σ.greatest
  pub distinct : AreDistinct σ.sessions
  pub ordered : IsOrderedCatalog σ.tables
