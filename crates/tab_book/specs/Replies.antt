-- What a book replies to its sessions (this project's own): each reply is that of a step, and all that is proved of a running book
-- is true before the step and after it.
use Rattle.std.specs.Prelude.{◌≡◌, ◌⊎◌, ℕ, List, [], ◌∷◌, ◌++◌}
use mathlib.Core.List.{IsPrefix}
use Rattle.tab_model.specs.declared.data.Command.{Command}
use Rattle.tab_model.specs.declared.data.Reply.{Reply}
use Rattle.tab_model.specs.declared.data.Reply.TheVariants as reply
use Rattle.tab_model.specs.declared.ask.Ask.TheVariants.{Leave, Retry, Do as DoCommand}
use Rattle.tab_model.specs.Outcome.{Ask}
use Rattle.tab_book.specs.declared.step.Answered.{Answered}
use Rattle.tab_book.specs.declared.step.Transition.{Transition}
use Rattle.tab_book.specs.Logs.{Made, made}
use Rattle.tab_book.specs.Releases.{SaysReleases}
use Rattle.tab_book.specs.Running.{Running, IsRunning}
use Rattle.tab_book.specs.Steps.{StepsTo, Joins}
use Rattle.tab_book.specs.Transitions.{transition}

-- a running book made a step for this request of the session: its reply, what it released, and what became of the transaction
pub record Answers (before after : Running) (n : ℕ) (a : Ask) (r : Answered) : Type 0 where
  pub runs : IsRunning before
  pub step : StepsTo before n a r.told after
  pub runs_on : IsRunning after
  pub releases : SaysReleases r.releases before.state after.state
  pub transaction : r.transaction ≡ transition before.state after.state n a r.told

-- the same, of a book whose log was seen up to there: what was seen before it is a beginning of the log, and the step is the last that is seen now
pub record IsAnswer (old new : List Made) (n : ℕ) (a : Ask) (r : Answered) : Type 0 where
  pub before : Running
  pub after : Running
  pub answers : Answers before after n a r
  pub seen : IsPrefix old before.log
  pub shown : new ≡ after.log
  pub logged : new ≡ before.log ++ made n a r.told ∷ []

-- the reply is that of such a step
pub record IsReply (old new : List Made) (n : ℕ) (a : Ask) (r : Reply) : Type 0 where
  pub answered : Answered
  pub is : IsAnswer old new n a answered
  pub reply : r ≡ answered.told

-- the reply to a call: that of its step, or that of a later retry if the step had to wait
abbrev pub IsCallReply : List Made → List Made → ℕ → Command → Reply → Type 0
IsCallReply old new n c r = IsReply old new n (DoCommand c) r ⊎ ((seen : List Made) × IsReply old seen n (DoCommand c) reply.Waiting × IsReply seen new n Retry r)

-- a session that leaves: what became of its transaction
pub record Leaves (old new : List Made) (n : ℕ) (t : Transition) : Type 0 where
  pub answered : Answered
  pub is : IsAnswer old new n Leave answered
  pub transition : t ≡ answered.transaction

-- a running book gave a session this number and this mailbox, and the join is the last step that is seen now
pub record HasJoined (old new : List Made) (n mailbox : ℕ) : Type 0 where
  pub before : Running
  pub after : Running
  pub runs : IsRunning before
  pub joins : Joins before n mailbox [] after
  pub runs_on : IsRunning after
  pub seen : IsPrefix old before.log
  pub shown : new ≡ after.log
