-- What was not done tells its caller nothing.
use Rattle.std.proofs.Common.{◌≡◌, ℕ, List, ◌++◌, Bool, true, false, refl, sym, ap, ◌∙◌, append-nil, Option, Some, None}
use Rattle.std.specs.Prelude.{◌==◌, if◌then◌else◌}
use Rattle.tab_model.specs.declared.data.Entry.{Entry}
use Rattle.tab_model.specs.declared.data.Reply.{Reply}
use Rattle.tab_model.specs.declared.data.Reply.TheVariants as reply
use Rattle.tab_model.specs.declared.data.Schema.{Schema}
use Rattle.tab_model.specs.declared.data.Command.{Command}
use Rattle.tab_model.specs.declared.data.Command.TheVariants as command
use Rattle.tab_model.specs.declared.data.Limit.{Limit}
use Rattle.tab_model.specs.declared.data.Operation.{Operation}
use Rattle.tab_model.specs.Log.{commits_from}
use Rattle.tab_model.specs.State.{Outbox, Queued}
use Rattle.tab_model.specs.Run.{entries}
use Rattle.tab_model.proofs.CallersLemmas.{same_if}
use Rattle.tab_model.specs.declared.ask.Ask.TheVariants.{Join, Leave, Retry, Take, Do as DoCommand}
use Rattle.tab_model.specs.Outcome.{Ask}
use Rattle.tab_model.specs.Callers.{Caller, AnswerKind, NotMade, kind_of, after_operation, after_answer, after_begin, after_close, after_undo, caller_after_step, caller_after_command, commit_entry, schema_entry, subscription_entry, entry_of_command, entry_of_step, queue_after_operation, queue_after_answer, queue_after_abort, queue_after_leave, queue_after_command, queue_after_step, age_after_begin, age_after_command, age_after_step, Post, post_after_join, post_after_take, post_after_marker, post_after_command, post_after_answer, IsUnobserved, post_after_step, entry_of_call, observe}

-- a reply that is none of those that tell something
record IsSilent (r : Reply) : Type 0 where
  not_made : kind_of r ≡ NotMade
  no_begin : (k : Caller) → after_begin k r ≡ k
  no_close : (k : Caller) → after_close k r ≡ k
  no_abort : (k : Caller) → after_undo k r ≡ k
  no_commit : (n : ℕ) (over : List ℕ) (k : Caller) → commit_entry n over k r ≡ None
  no_schema : (over : List ℕ) (c : Schema) → schema_entry over c r ≡ None
  no_mark : (e : Entry) → subscription_entry e r ≡ None
  no_drop : (n : ℕ) (qs : List Queued) → queue_after_abort n r qs ≡ qs
  no_leave : (n : ℕ) (qs : List Queued) → queue_after_leave n r qs ≡ qs
  no_age : (k : Caller) (a : ℕ) → age_after_begin k r a ≡ a
  no_join : (b : Outbox) (p : Post) → post_after_join b r p ≡ p
  no_take : (p : Post) → post_after_take r p ≡ p
  no_refusal : (p : Post) → post_after_marker r p ≡ p

module _ (r : Reply) (s : IsSilent r) where
  unretried : (k : Caller) (o : Option Operation) → after_answer k r NotMade o ≡ k
  unretried k None = refl
  unretried k (Some o) = refl

  command_knows : (k : Caller) (c : Command) → caller_after_command k c r ≡ k
  command_knows k (command.Schema c) = refl
  command_knows k (command.TableInfo t i) = refl
  command_knows k command.Begin = s.no_begin k
  command_knows k command.Commit = s.no_close k
  command_knows k (command.Abort x) = s.no_abort k
  command_knows k (command.Do o) = ap (after_operation k o r) s.not_made
  command_knows k (command.Subscribe t l dump) = refl
  command_knows k (command.Unsubscribe t l) = refl
  command_knows k (command.OneShot parts retries) = s.no_begin k

  knows : (k : Caller) (a : Ask) → caller_after_step k a r ≡ k
  knows k (Join b) = refl
  knows k Leave = refl
  knows k Retry = ap (λ (x : AnswerKind). after_answer k r x k.queued) s.not_made ∙ unretried k k.queued
  knows k Take = refl
  knows k (DoCommand c) = command_knows k c

  command_entry : (n : ℕ) (over : List ℕ) (k : Caller) (c : Command) → entry_of_command n over k c r ≡ None
  command_entry n over k (command.Schema c) = s.no_schema over c
  command_entry n over k (command.TableInfo t i) = refl
  command_entry n over k command.Begin = refl
  command_entry n over k command.Commit = s.no_commit n over k
  command_entry n over k (command.Abort x) = refl
  command_entry n over k (command.Do o) = refl
  command_entry n over k (command.Subscribe t l dump) = s.no_mark _
  command_entry n over k (command.Unsubscribe t l) = s.no_mark _
  command_entry n over k (command.OneShot parts retries) = refl

  entry : (n : ℕ) (over : List ℕ) (k : Caller) (a : Ask) → entry_of_step n over k a r ≡ None
  entry n over k (Join b) = refl
  entry n over k Leave = refl
  entry n over k Retry = refl
  entry n over k Take = refl
  entry n over k (DoCommand c) = command_entry n over k c

  command_queue : (n : ℕ) (k : Caller) (c : Command) (qs : List Queued) → queue_after_command n k c r qs ≡ qs
  command_queue n k (command.Schema c) qs = refl
  command_queue n k (command.TableInfo t i) qs = refl
  command_queue n k command.Begin qs = refl
  command_queue n k command.Commit qs = refl
  command_queue n k (command.Abort x) qs = s.no_drop n qs
  command_queue n k (command.Do o) qs = ap (λ (x : AnswerKind). queue_after_operation n k o x qs) s.not_made
  command_queue n k (command.Subscribe t l dump) qs = refl
  command_queue n k (command.Unsubscribe t l) qs = refl
  command_queue n k (command.OneShot parts retries) qs = refl

  queue : (n : ℕ) (k : Caller) (a : Ask) (qs : List Queued) → queue_after_step n k a r qs ≡ qs
  queue n k (Join b) qs = refl
  queue n k Leave qs = s.no_leave n qs
  queue n k Retry qs = ap (λ (x : AnswerKind). queue_after_answer n x qs) s.not_made
  queue n k Take qs = refl
  queue n k (DoCommand c) qs = command_queue n k c qs

  command_age : (k : Caller) (c : Command) (age : ℕ) → age_after_command k c r age ≡ age
  command_age k (command.Schema c) age = refl
  command_age k (command.TableInfo t i) age = refl
  command_age k command.Begin age = s.no_age k age
  command_age k command.Commit age = refl
  command_age k (command.Abort x) age = refl
  command_age k (command.Do o) age = refl
  command_age k (command.Subscribe t l dump) age = refl
  command_age k (command.Unsubscribe t l) age = refl
  command_age k (command.OneShot parts retries) age = s.no_age k age

  next : (k : Caller) (a : Ask) (age : ℕ) → age_after_step k a r age ≡ age
  next k (Join b) age = refl
  next k Leave age = refl
  next k Retry age = refl
  next k Take age = refl
  next k (DoCommand c) age = command_age k c age

  command_post : (c : Command) (p : Post) → post_after_command c r p ≡ p
  command_post (command.Schema c) p = refl
  command_post (command.TableInfo t i) p = refl
  command_post command.Begin p = refl
  command_post command.Commit p = refl
  command_post (command.Abort x) p = refl
  command_post (command.Do o) p = refl
  command_post (command.Subscribe t l dump) p = s.no_refusal p
  command_post (command.Unsubscribe t l) p = s.no_refusal p
  command_post (command.OneShot parts retries) p = refl

  post : (a : Ask) (p : Post) → post_after_answer a r p ≡ p
  post (Join b) p = s.no_join b p
  post Leave p = refl
  post Retry p = refl
  post Take p = s.no_take p
  post (DoCommand c) p = command_post c p

  either : {A : Type 0} (b : Bool) (x y : A) → x ≡ y → (if b then x else y) ≡ y
  either true x y e = e
  either false x y e = refl

  unobserved : IsUnobserved r
  unobserved h c = λ i. record {
    callers = λ m. callers m i;
    log = (ap (λ e. h.log ++ entries e) none ∙ append-nil h.log) i;
    queue = queue c.session k c.ask h.queue i;
    next_age = next k c.ask h.next_age i;
    posts = λ m. posts m i;
  }
    where
      k : Caller
      k = h.callers c.session

      none : entry_of_call h c r ≡ None
      none = entry c.session c.over k c.ask

      callers : (m : ℕ) → (observe h c r).callers m ≡ h.callers m
      callers m = ap (λ x. if m == c.session then x else h.callers m) (knows k c.ask) ∙ sym (same_if h.callers m c.session)

      posts : (m : ℕ) → (observe h c r).posts m ≡ h.posts m
      posts m =
          ap (λ e. post_after_step m (commits_from 0 h.log) c.session c.ask r e (h.posts m)) none
          ∙ either (m == c.session) (post_after_answer c.ask r (h.posts m)) (h.posts m) (post c.ask (h.posts m))

pub bad_command : IsUnobserved reply.BadCommand
bad_command = unobserved reply.BadCommand (record { not_made = refl; no_begin = λ k. refl; no_close = λ k. refl; no_abort = λ k. refl; no_commit = λ n over k. refl; no_schema = λ over c. refl; no_mark = λ e. refl; no_drop = λ n qs. refl; no_leave = λ n qs. refl; no_age = λ k a. refl; no_join = λ b p. refl; no_take = λ p. refl; no_refusal = λ p. refl })

pub no_memory : IsUnobserved reply.NoMemory
no_memory = unobserved reply.NoMemory (record { not_made = refl; no_begin = λ k. refl; no_close = λ k. refl; no_abort = λ k. refl; no_commit = λ n over k. refl; no_schema = λ over c. refl; no_mark = λ e. refl; no_drop = λ n qs. refl; no_leave = λ n qs. refl; no_age = λ k a. refl; no_join = λ b p. refl; no_take = λ p. refl; no_refusal = λ p. refl })

pub bad_session : IsUnobserved reply.BadSession
bad_session = unobserved reply.BadSession (record { not_made = refl; no_begin = λ k. refl; no_close = λ k. refl; no_abort = λ k. refl; no_commit = λ n over k. refl; no_schema = λ over c. refl; no_mark = λ e. refl; no_drop = λ n qs. refl; no_leave = λ n qs. refl; no_age = λ k a. refl; no_join = λ b p. refl; no_take = λ p. refl; no_refusal = λ p. refl })

pub no_transaction : IsUnobserved reply.NoTransaction
no_transaction = unobserved reply.NoTransaction (record { not_made = refl; no_begin = λ k. refl; no_close = λ k. refl; no_abort = λ k. refl; no_commit = λ n over k. refl; no_schema = λ over c. refl; no_mark = λ e. refl; no_drop = λ n qs. refl; no_leave = λ n qs. refl; no_age = λ k a. refl; no_join = λ b p. refl; no_take = λ p. refl; no_refusal = λ p. refl })

pub waiting_now : IsUnobserved reply.WaitingNow
waiting_now = unobserved reply.WaitingNow (record { not_made = refl; no_begin = λ k. refl; no_close = λ k. refl; no_abort = λ k. refl; no_commit = λ n over k. refl; no_schema = λ over c. refl; no_mark = λ e. refl; no_drop = λ n qs. refl; no_leave = λ n qs. refl; no_age = λ k a. refl; no_join = λ b p. refl; no_take = λ p. refl; no_refusal = λ p. refl })

pub in_transaction : IsUnobserved reply.InTransaction
in_transaction = unobserved reply.InTransaction (record { not_made = refl; no_begin = λ k. refl; no_close = λ k. refl; no_abort = λ k. refl; no_commit = λ n over k. refl; no_schema = λ over c. refl; no_mark = λ e. refl; no_drop = λ n qs. refl; no_leave = λ n qs. refl; no_age = λ k a. refl; no_join = λ b p. refl; no_take = λ p. refl; no_refusal = λ p. refl })

pub not_waiting : IsUnobserved reply.NotWaiting
not_waiting = unobserved reply.NotWaiting (record { not_made = refl; no_begin = λ k. refl; no_close = λ k. refl; no_abort = λ k. refl; no_commit = λ n over k. refl; no_schema = λ over c. refl; no_mark = λ e. refl; no_drop = λ n qs. refl; no_leave = λ n qs. refl; no_age = λ k a. refl; no_join = λ b p. refl; no_take = λ p. refl; no_refusal = λ p. refl })

pub system_limit : (l : Limit) → IsUnobserved (reply.SystemLimit l)
system_limit l = unobserved (reply.SystemLimit l) (record { not_made = refl; no_begin = λ k. refl; no_close = λ k. refl; no_abort = λ k. refl; no_commit = λ n over k. refl; no_schema = λ over c. refl; no_mark = λ e. refl; no_drop = λ n qs. refl; no_leave = λ n qs. refl; no_age = λ k a. refl; no_join = λ b p. refl; no_take = λ p. refl; no_refusal = λ p. refl })
