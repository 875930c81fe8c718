-- What an inbox takes of a session's post, and what is shown when nothing is left (this project's own).
use Rattle.std.specs.Prelude.{◌≡◌, ℕ, List, [], ◌∷◌, ◌++◌, Option, Some, None}
use Rattle.tab_model.specs.declared.data.Item.{Item}
use Rattle.tab_model.specs.declared.data.Reply.TheVariants as reply
use Rattle.tab_model.specs.State.{Session, session_at}
use Rattle.tab_model.specs.declared.ask.Ask.TheVariants.{Take}
use Rattle.tab_model.specs.Outcome.{outcome}
use Rattle.tab_outbox.specs.Mailboxes.{StartsWith}
use Rattle.tab_book.specs.declared.step.Drained.{Drained}
use Rattle.tab_book.specs.declared.step.Drained.TheVariants.{Going, AllTaken, Overflow, Left}
use Rattle.tab_book.specs.Logs.{made}
use Rattle.tab_book.specs.Running.{Running, IsRunning}

-- the session is joined, with the post of that mailbox
pub record IsOwn (b : Running) (n mailbox : ℕ) (s : Session) : Type 0 where
  pub there : session_at b.state.sessions n ≡ Some s
  pub own : s.outbox.mailbox ≡ Some mailbox

-- the book after a Take of this session that replied an overflow
abbrev pub after_overflow : Running → ℕ → ℕ → Running
after_overflow b n c = record b { state = (outcome b.state [] n Take).state; log = b.log ++ made n Take (reply.Overflow c) ∷ [] }

-- by an inbox of that mailbox, which had taken the one list and then the other. What an own inbox has taken is a beginning of
-- what was sent, and all of it if nothing is left; an overflow is then reported once
abbrev pub Drains : Running → ℕ → ℕ → List Item → Drained → List Item → Running → Type 0
Drains old n mailbox before (Going x) after new =
    (s : Session) × IsOwn old n mailbox s × (after ≡ before ++ x ∷ []) × StartsWith s.outbox.items after × (new ≡ old)
Drains old n mailbox before AllTaken after new =
    (s : Session) × (session_at old.state.sessions n ≡ Some s) × (after ≡ before) × (new ≡ old) × (s.outbox.mailbox ≡ Some mailbox → (after ≡ s.outbox.items) × (s.overflow ≡ None))
Drains old n mailbox before (Overflow c) after new =
    (s : Session) × IsOwn old n mailbox s × (after ≡ before) × (after ≡ s.outbox.items) × (s.overflow ≡ Some c)
    × (new ≡ after_overflow old n c)
Drains old n mailbox before Left after new = (session_at old.state.sessions n ≡ None) × (after ≡ before) × (new ≡ old)

-- a running book gave this to an inbox of that mailbox, which had received the one list and then the other
pub record IsDrained (n mailbox : ℕ) (before : List Item) (r : Drained) (after : List Item) : Type 0 where
  pub book : Running
  pub next : Running
  pub runs : IsRunning book
  pub drains : Drains book n mailbox before r after next
  pub runs_on : IsRunning next

-- what is known after the lock was let go: an item that is given was taken, and no other answer takes one
abbrev pub TakesIt : List Item → Drained → List Item → Type 0
TakesIt before (Going x) after = after ≡ before ++ x ∷ []
TakesIt before AllTaken after = after ≡ before
TakesIt before (Overflow c) after = after ≡ before
TakesIt before Left after = after ≡ before

-- an overflow that was not reported yet is reported
abbrev pub TellsOverflow : Running → ℕ → Option ℕ → Drained → Running → Type 0
TellsOverflow old n None r new = (r ≡ AllTaken) × (new ≡ old)
TellsOverflow old n (Some c) r new = (r ≡ Overflow c) × (new ≡ after_overflow old n c)
