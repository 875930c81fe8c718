-- What the calls of a book do (this project's own). A step is the core's, and its entry is put into the journal, whose oldest
-- entries are folded into its base before where it is full.
use Rattle.std.specs.declared.convert.Infallible.{Infallible}
use Rattle.std.specs.Prelude.{◌≡◌, ◌≢◌, ◌<◌, ◌+◌, ◌-◌, ◌^◌, ℕ, zero, suc, List, [], ◌∷◌, ◌++◌, Bool, true, false, ◌&&◌, nat_lt, if◌then◌else◌, Option, Some, length}
use Rattle.tab_model.specs.declared.data.Entry.{Entry}
use Rattle.tab_model.specs.declared.data.Item.{Item}
use Rattle.tab_model.specs.declared.data.Reply.{Reply}
use Rattle.tab_model.specs.History.{slice_since_after}
use Rattle.tab_model.specs.Standing.{is_joined, still_joined, may_enter}
use Rattle.tab_model.specs.State.{Outbox, Session, State, session_at}
use Rattle.tab_model.specs.declared.ask.Ask.{Ask as AskWith}
use Rattle.tab_model.specs.declared.ask.Ask.TheVariants.{Join, Leave, Retry, Take, Do as DoCommand}
use Rattle.tab_model.specs.Outcome.{Ask, fresh, is_abort, outcome}
use Rattle.tab_model.specs.Run.{Allowed, entries}
use Rattle.tab_core.specs.Runs as core
use Rattle.tab_journal.specs.Journals.{JournalView, fold_oldest, forget, is_full}
use Rattle.tab_post.specs.Ends.{empty_outbox}
use Rattle.tab_book.specs.declared.step.JoinFault.{JoinFault}
use Rattle.tab_book.specs.declared.step.JoinFault.TheVariants.{Limit, NoMemory}
use Rattle.tab_book.specs.declared.log.Request.{Request}
use Rattle.tab_book.specs.declared.log.Request.TheVariants as request
use Rattle.tab_book.specs.Logs.{joined, made}
use Rattle.tab_book.specs.Running.{Running}

-- what a session asks, where no one joins
abbrev pub Step : Type 0
Step = AskWith Infallible

-- what the core is asked for a step
abbrev pub ask_of : Step → Ask
ask_of s = core.ask_of {P = Infallible} (λ none. elim none [ ]) s

-- what a request that is logged asks
abbrev pub ask_in : Request → Ask
ask_in (request.Step s) = ask_of s.value
ask_in (request.Join place) = Join (empty_outbox place)

-- a session can leave, take and abort whatever memory is left
abbrev pub is_never_refused : Step → Bool
is_never_refused (Join none) = false
is_never_refused Leave = true
is_never_refused Retry = false
is_never_refused Take = true
is_never_refused (DoCommand c) = is_abort c

-- the oldest entry is a subscription whose session is still joined
abbrev pub oldest_joined : State → List Entry → Bool
oldest_joined σ [] = false
oldest_joined σ (e ∷ es) = still_joined σ e

-- the journal with its oldest entry, if it has one, in its base; a subscription goes there while its session is joined
abbrev pub folded : State → JournalView → JournalView
folded σ j = fold_oldest (oldest_joined σ j.entries) j

-- the journal with so many of its oldest entries in its base
abbrev pub with_folds : State → ℕ → JournalView → JournalView
with_folds σ zero j = j
with_folds σ (suc k) j = folded σ (with_folds σ k j)

-- the second journal is the first with some of its oldest entries folded, each of them where it was full
pub record FoldsWhileFull (σ : State) (old new : JournalView) : Type 0 where
  pub folds : ℕ
  pub each : (k : ℕ) → k < folds → is_full (with_folds σ k old) ≡ true
  pub journal : new ≡ with_folds σ folds old

-- a step that may give an entry finds no room for it
abbrev pub has_to_fold : State → ℕ → Ask → JournalView → Bool
has_to_fold σ n a j = is_full j && may_enter σ n a

-- so many of its oldest entries are folded for a step, each of them where the step found no room for its entry
abbrev pub AreNeeded : State → ℕ → Ask → JournalView → ℕ → Type 0
AreNeeded σ n a j folds = (k : ℕ) → k < folds → has_to_fold σ n a (with_folds σ k j) ≡ true

-- the journal with these entries behind its own
abbrev pub with_entries : JournalView → List Entry → JournalView
with_entries j es = record j { entries = j.entries ++ es }

-- whether a joined session leaves
abbrev pub leaves : State → ℕ → Ask → Bool
leaves σ n Leave = is_joined σ n
leaves σ n (Join b) = false
leaves σ n Retry = false
leaves σ n Take = false
leaves σ n (DoCommand c) = false

-- where the session leaves, its subscriptions go from the base
abbrev pub forgetting : State → ℕ → Ask → JournalView → JournalView
forgetting σ n a j = if leaves σ n a then forget j n else j

-- a step that was made, over a journal with room for its entry
pub record StepsFrom (old : Running) (n : ℕ) (a : Ask) (r : Reply) (new : Running) : Type 0 where
  pub over : List ℕ
  pub entry : Option Entry
  pub allowed : Allowed old.state over n a
  pub core : outcome old.state over n a ≡ record { state = new.state; reply = r; entry = entry }
  pub entered : new.journal ≡ forgetting old.state n a (with_entries old.journal (entries entry))
  -- the log has it as its last step
  pub logged : new.log ≡ old.log ++ made n a r ∷ []
  -- each session that stays was sent what the entry owes it
  pub sent : (m : ℕ) (s x : Session) → session_at old.state.sessions m ≡ Some s → session_at new.state.sessions m ≡ Some x
      → x.outbox.items ≡ s.outbox.items ++ slice_since_after old.journal.base m old.journal.entries (entries entry)

-- the book with so many of its oldest entries in its journal's base
abbrev pub with_room : Running → ℕ → Running
with_room b folds = record b { journal = with_folds b.state folds b.journal }

-- a step of a book that was made; the oldest entries were folded first, until its entry had room
pub record StepsTo (old : Running) (n : ℕ) (a : Ask) (r : Reply) (new : Running) : Type 0 where
  pub folds : ℕ
  pub needed : AreNeeded old.state n a old.journal folds
  pub enough : has_to_fold old.state n a (with_folds old.state folds old.journal) ≡ false
  pub step : StepsFrom (with_room old folds) n a r new

-- one that was refused for memory changed nothing but that some of the entries that it folds may be folded
pub record MayFold (old : Running) (n : ℕ) (a : Ask) (new : Running) : Type 0 where
  pub state : new.state ≡ old.state
  pub log : new.log ≡ old.log
  pub folds : ℕ
  pub needed : AreNeeded old.state n a old.journal folds
  pub journal : new.journal ≡ with_folds old.state folds old.journal

-- a session that stays has the post that it had
abbrev pub KeepsPosts : State → State → Type 0
KeepsPosts σ τ = (m : ℕ) (s r : Session) → session_at σ.sessions m ≡ Some s → session_at τ.sessions m ≡ Some r → (r.outbox.capacity ≡ s.outbox.capacity) × (r.outbox.mailbox ≡ s.outbox.mailbox)

-- ---- joining

-- fewer are joined than the limit says, and a session's number is left, of which 2 ^ 32 - 1 is the greatest
abbrev pub has_free_seat : State → Bool
has_free_seat σ = nat_lt σ.greatest (2 ^ 32 - 1) && nat_lt (length σ.sessions) σ.limits.sessions

-- the state with one more session, which has this post, and whose number is now the greatest
abbrev pub with_new_session : State → ℕ → Outbox → State
with_new_session σ n b = record σ { sessions = σ.sessions ++ fresh n b ∷ []; greatest = n }

-- a session joins with the next number; its post is the sending end of this mailbox, from which nothing was received
pub record Joins (old : Running) (session mailbox : ℕ) (taken : List Item) (new : Running) : Type 0 where
  pub room : has_free_seat old.state ≡ true
  pub number : session ≡ old.state.greatest + 1
  pub state : new.state ≡ with_new_session old.state session (empty_outbox mailbox)
  pub nothing_taken : taken ≡ []
  -- it is no mailbox of a joined session
  pub fresh : (n : ℕ) (s : Session) → session_at old.state.sessions n ≡ Some s → s.outbox.mailbox ≢ Some mailbox
  pub journal : new.journal ≡ old.journal
  pub logged : new.log ≡ old.log ++ joined session mailbox ∷ []

-- a join that changed nothing: no seat is free, or one is and memory was refused
abbrev pub Refuses : Running → JoinFault → Running → Type 0
Refuses old Limit new = (has_free_seat old.state ≡ false) × (new ≡ old)
Refuses old NoMemory new = (has_free_seat old.state ≡ true) × (new ≡ old)
