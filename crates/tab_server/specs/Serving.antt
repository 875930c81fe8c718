-- What a served session is sent for its requests (this project's own rules).
use Rattle.std.specs.Prelude.{◌≡◌, ◌⊎◌, ℕ, List, [], ◌∷◌, ◌++◌, false, Option, None, Some, Result, Ok, Err, refl}
use Rattle.std.proofs.Common.{inl, inr, subst, ◌∙◌}
use mathlib.Core.List.{IsPrefix}
use Rattle.tab_term.specs.Data.{PlainTerm}
use Rattle.tab_etf.specs.Reading.{whole}
use Rattle.tab_etf.specs.declared.fault.Stop.{Stop}
use Rattle.tab_model.specs.declared.ask.Ask.TheVariants.{Retry, Do as DoCommand}
use Rattle.tab_model.specs.declared.data.Command.{Command}
use Rattle.tab_model.specs.declared.data.Reply.{Reply}
use Rattle.tab_model.specs.declared.data.Reply.TheVariants as reply
use Rattle.tab_proto.specs.Reading.{is_command_term, Spells}
use Rattle.tab_oneshot.specs.Calls.{Call, Asked, Waited, Again}
use Rattle.tab_oneshot.specs.OneShots.{is_one_shot, IsOneShot}
use Rattle.tab_post.proofs.Prefixes.{prefix_self, prefix_trans}
use Rattle.tab_book.specs.Logs.{Made}
use Rattle.tab_book.specs.Replies.{IsReply}
use Rattle.tab_book.proofs.Seeing.{reply_later}

-- p and q are what was seen of the book's log before a call and after it. The book made a step for this call of the session, which
-- came after p, or memory was refused; a wait without a reply was ended by an abort
abbrev pub IsServedCall : ℕ → List Made → Call → List Made → Type 0
IsServedCall n p (Asked c r) q = IsReply p q n (DoCommand c) r ⊎ (r ≡ reply.NoMemory) × IsPrefix p q
IsServedCall n p (Waited None) q = IsPrefix p q
IsServedCall n p (Waited (Some r)) q = IsReply p q n Retry r
IsServedCall n p Again q = IsPrefix p q

-- each of these calls, in order
abbrev pub AreServedCalls : ℕ → List Made → List Call → List Made → Type 0
AreServedCalls n p [] q = IsPrefix p q
AreServedCalls n p (c ∷ calls) q = (s : List Made) × IsServedCall n p c s × AreServedCalls n s calls q

-- these calls were made for one session
abbrev pub Serves : ℕ → List Made → List Call → ℕ → List Made → Type 0
Serves n p calls m q = AreServedCalls n p calls q × (m ≡ n)

-- no call
pub serves_none : (n : ℕ) (p : List Made) → Serves n p [] n p
serves_none n p = (prefix_self p, refl)

-- of a caller that had seen fewer steps
pub call_later : (n : ℕ) (o p q : List Made) (c : Call) → IsPrefix o p → IsServedCall n p c q → IsServedCall n o c q
call_later n o p q (Asked c r) b (inl h) = inl (reply_later o p q n (DoCommand c) r b h)
call_later n o p q (Asked c r) b (inr (e, h)) = inr (e, prefix_trans o p q b h)
call_later n o p q (Waited None) b h = prefix_trans o p q b h
call_later n o p q (Waited (Some r)) b h = reply_later o p q n Retry r b h
call_later n o p q Again b h = prefix_trans o p q b h

pub calls_later : (n : ℕ) (o p q : List Made) (calls : List Call) → IsPrefix o p → AreServedCalls n p calls q → AreServedCalls n o calls q
calls_later n o p q [] b h = prefix_trans o p q b h
calls_later n o p q (c ∷ calls) b (s, h, k) = (s, call_later n o p s c b h, k)

serve_all : (n : ℕ) (p q r : List Made) (first more : List Call) → AreServedCalls n p first q → AreServedCalls n q more r → AreServedCalls n p (first ++ more) r
serve_all n p q r [] more h k = calls_later n p q r more h k
serve_all n p q r (c ∷ first) more (s, call, h) k = (s, call, serve_all n s q r first more h k)

-- some calls, and then others
pub serves_on : (n m o : ℕ) (p q r : List Made) (first more : List Call) → Serves n p first m q → Serves m q more o r → Serves n p (first ++ more) o r
serves_on n m o p q r first more (h, e) (k, f) = (serve_all n p q r first more h (subst (λ i. AreServedCalls i q more r) e k), f ∙ e)

-- the reply of a wait; a wait that an abort has ended leaves the request waiting
abbrev pub reply_of_wait : Option Reply → Reply
reply_of_wait None = reply.Waiting
reply_of_wait (Some r) = r

-- the reply to a step, or that of its wait if the step had to wait
abbrev pub IsSettled : ℕ → List Made → Reply → Reply → List Made → Type 0
IsSettled n p first r q = (r ≡ first) × IsPrefix p q ⊎ (first ≡ reply.Waiting) × AreServedCalls n p (Waited (Some r) ∷ []) q

-- a command that is no one-shot is asked once, and waited for if it has to wait
pub record IsOneCommand (c : Command) (calls : List Call) (r : Reply) : Type 0 where
  pub single : is_one_shot c ≡ false
  pub made : (calls ≡ Asked c r ∷ []) ⊎ ((w : Option Reply) × (calls ≡ Asked c reply.Waiting ∷ Waited w ∷ []) × (r ≡ reply_of_wait w))

-- these calls were made for the command, and gave the reply
pub record IsServed (n : ℕ) (p : List Made) (c : Command) (r : Reply) (q : List Made) : Type 0 where
  pub calls : List Call
  pub each : AreServedCalls n p calls q
  pub made : IsOneCommand c calls r ⊎ IsOneShot c calls r

-- a term that is no command is refused, and a command is served
abbrev pub IsTermReply : ℕ → List Made → PlainTerm → Reply → List Made → Type 0
IsTermReply n p t r q = (is_command_term t ≡ false) × (r ≡ reply.BadCommand) × IsPrefix p q ⊎ ((c : Command) × Spells c t × IsServed n p c r q)

-- a payload that is no term is refused
abbrev pub IsReadReply : ℕ → List Made → Result PlainTerm Stop → Reply → List Made → Type 0
IsReadReply n p (Err f) r q = (r ≡ reply.BadTerm) × IsPrefix p q
IsReadReply n p (Ok t) r q = IsTermReply n p t r q

-- the reply to a payload; memory may be refused before it is a command
abbrev pub IsPayloadReply : ℕ → List Made → List ℕ → Reply → List Made → Type 0
IsPayloadReply n p payload r q = IsReadReply n p (whole payload) r q ⊎ (r ≡ reply.NoMemory) × IsPrefix p q

-- the payload is a command that had to wait, and an abort ended its wait
pub record IsEnded (n : ℕ) (p : List Made) (payload : List ℕ) (q : List Made) : Type 0 where
  pub term : PlainTerm
  pub read : whole payload ≡ Ok term
  pub command : Command
  pub spelled : Spells command term
  pub waits : IsServed n p command reply.Waiting q
