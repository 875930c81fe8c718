-- What refuses a subscription or a schema command, and what markers and Takes are answered (the order of the refusals is this project's own rule).
use Rattle.std.specs.Prelude.{ℕ, if◌then◌else◌, is_some, Option, Some, None}
use Rattle.tab_model.specs.declared.data.Entry.{Entry}
use Rattle.tab_model.specs.declared.data.Reply.{Reply}
use Rattle.tab_model.specs.declared.data.Reply.TheVariants as reply
use Rattle.tab_model.specs.State.{Session, State, is_waiting}
use Rattle.tab_model.specs.Outcome.{refusal_if}
use Rattle.tab_core.specs.declared.step.Stepped.{Stepped}
use Rattle.tab_subs.specs.declared.answers.Taken.{Taken}
use Rattle.tab_subs.specs.declared.answers.Taken.TheVariants as taken
use Rattle.tab_subs.specs.declared.answers.Marked.{Marked}
use Rattle.tab_subs.specs.declared.answers.Marked.TheVariants as mark

-- of a session that has not joined, that waits, or that its own state refuses
abbrev pub refused_by : State → ℕ → (Session → Option Reply) → Option Session → Option Reply
refused_by σ n f None = Some reply.BadSession
refused_by σ n f (Some s) = if is_waiting σ n then Some reply.WaitingNow else f s

-- what refuses a session that is in a transaction
abbrev pub inside_refusal : Session → Option Reply
inside_refusal s = refusal_if (is_some s.transaction) reply.InTransaction

-- the reply to a marker that a post took or refused, and the entry of one that it took
abbrev pub marked_reply : Option Marked → Entry → Stepped
marked_reply None e = record { reply = reply.BadSession; entry = None }
marked_reply (Some mark.Full) e = record { reply = reply.OutboxFull; entry = None }
marked_reply (Some mark.Put) e = record { reply = reply.SubscribedHere; entry = Some e }

-- the reply to a Take
abbrev pub taken_reply : Option Taken → Stepped
taken_reply None = record { reply = reply.BadSession; entry = None }
taken_reply (Some (taken.Item x)) = record { reply = reply.Taken x; entry = None }
taken_reply (Some (taken.Overflow n)) = record { reply = reply.Overflow n; entry = None }
taken_reply (Some taken.Empty) = record { reply = reply.Empty; entry = None }
