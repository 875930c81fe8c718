-- What holds of a book whenever it is seen: its journal replays to its tables, its transactions were told right, and each
-- session was sent what it is due (this project's own).
use Rattle.std.specs.Prelude.{◌≡◌, ◌≤◌, ◌<◌, ℕ, List, [], ◌++◌, Some, IfSome, length}
use Rattle.std.specs.List.{AllByRecursion}
use Rattle.tab_model.specs.declared.data.Entry.{Entry}
use Rattle.tab_model.specs.declared.data.Item.{Item}
use Rattle.tab_model.specs.Log.{commits_from}
use Rattle.tab_model.specs.History.{in_force_since, slice_since, IsHistory}
use Rattle.tab_model.specs.Run.{IsTied}
use Rattle.tab_model.specs.Standing.{FollowsLog}
use Rattle.tab_model.specs.State.{Session, State, session_at, level_in, IsSound}
use Rattle.tab_model.specs.Reached.{IsRising}
use Rattle.tab_journal.specs.Journals.{JournalView}
use Rattle.tab_book.specs.Logs.{Made, IsWholeRun}

-- a book as plain data: its core's state, its journal, and the log of its steps
pub record Running : Type 0 where
  pub state : State
  pub journal : JournalView
  pub log : List Made

-- the first list ends with the second
pub record EndsWith (all xs : List Item) : Type 0 where
  pub before : List Item
  pub is : all ≡ before ++ xs

-- what holds of a book whenever it is seen
pub record IsRunning (b : Running) : Type 0 where
  -- with what was folded into its base the journal is the log of the whole run: legal, its tables those of its commits run one after another,
  -- each joined session sent exactly its slice
  pub past : List Entry
  pub whole : IsTied b.state (past ++ b.journal.entries) (λ m. [])
  -- the journal is legal from its base and ends in the tables
  pub history : IsHistory b.journal.base b.journal.entries b.state.tables
  -- so many commits were made
  pub commits : b.state.commits ≡ commits_from b.journal.base.commits b.journal.entries
  -- each open transaction was told what it is told alone, on the tables as they are now
  pub sound : IsSound b.state
  -- ages rise along every wait, and each queued request is of its session's open transaction
  pub rising : IsRising b.state
  -- the steps of its log, one after another, lead from a new state to its state
  pub run : IsWholeRun b.log b.state
  -- the last that a joined session was sent is what it is due since the base
  pub sent : (n : ℕ) (s : Session) → session_at b.state.sessions n ≡ Some s → EndsWith s.outbox.items (slice_since b.journal.base n b.journal.entries)
  -- and it watches what is in force since the base
  pub watching : (n : ℕ) (s : Session) (t : List ℕ) → session_at b.state.sessions n ≡ Some s → level_in s.watching t ≡ in_force_since b.journal.base n b.journal.entries t

-- each session's mailbox has a place among the first of the register
abbrev pub HavePlaces : ℕ → State → Type 0
HavePlaces seen σ = AllByRecursion (λ (s : Session). IfSome s.outbox.mailbox (λ place. place < seen)) σ.sessions

-- what a book's parts have to do with each other; seen is how much of the register was seen, past what was folded into the base
pub record Holds (seen : ℕ) (σ : State) (journal : JournalView) : Type 0 where
  pub limit : 1 ≤ journal.limit
  pub most_bytes : 1 ≤ journal.most_bytes
  pub within : length journal.entries ≤ journal.limit
  pub sound : IsSound σ
  pub rising : IsRising σ
  pub places : HavePlaces seen σ
  pub past : List Entry
  pub stands : FollowsLog past journal.base journal.entries σ
