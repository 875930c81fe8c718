-- What was seen of the log before a step.
use Rattle.std.proofs.Common.{◌≡◌, ◌∙◌, inr, subst, ℕ, List}
use Rattle.std.specs.Prelude.{Result, Ok, Err, IfOk}
use mathlib.Core.List.{IsPrefix}
use Rattle.tab_model.specs.declared.ask.Ask.TheVariants.{Retry, Do as DoCommand}
use Rattle.tab_model.specs.declared.data.Command.{Command}
use Rattle.tab_model.specs.declared.data.Reply.{Reply}
use Rattle.tab_model.specs.declared.data.Reply.TheVariants as reply
use Rattle.tab_model.specs.Outcome.{Ask}
use Rattle.tab_post.proofs.Prefixes.{prefix_trans}
use Rattle.tab_book.specs.declared.step.Answered.{Answered}
use Rattle.tab_book.specs.Logs.{Made}
use Rattle.tab_book.specs.Replies.{Answers, IsAnswer, IsReply, IsCallReply}
use Rattle.tab_book.specs.Running.{Running}

module _ (old mid new : List Made) (n : ℕ) (a : Ask) where
  -- of a caller that had seen fewer steps
  pub answer_later : (r : Answered) → IsPrefix old mid → IsAnswer mid new n a r → IsAnswer old new n a r
  answer_later r p h = record { before = h.before; after = h.after; answers = h.answers; seen = prefix_trans old mid h.before.log p h.seen; shown = h.shown; logged = h.logged }

  pub reply_later : (r : Reply) → IsPrefix old mid → IsReply mid new n a r → IsReply old new n a r
  reply_later r p h = record { answered = h.answered; is = answer_later h.answered p h.is; reply = h.reply }

-- a step of a book whose log is shown before the step and after it
pub shown_step : {E : Type 0} (old new : List Made) (n : ℕ) (a : Ask) (b c : Running) (r : Result Answered E) → IsPrefix old b.log → new ≡ c.log → IfOk r (λ x. Answers b c n a x) → IfOk r (λ x. IsAnswer old new n a x)
shown_step old new n a b c (Ok x) p shown h = record { before = b; after = c; answers = h; seen = p; shown = shown; logged = shown ∙ h.step.step.logged }
shown_step old new n a b c (Err e) p shown h = tt

-- a call that had to wait, and its retry
pub call_waits : {E : Type 0} (old mid new : List Made) (n : ℕ) (c : Command) (told : Reply) (r : Result Reply E) → IsReply old mid n (DoCommand c) told → told ≡ reply.Waiting → IfOk r (λ x. IsReply mid new n Retry x)
    → IfOk r (λ x. IsCallReply old new n c x)
call_waits old mid new n c told (Ok x) first waits last = inr (mid, subst (λ (y : Reply). IsReply old mid n (DoCommand c) y) waits first, last)
call_waits old mid new n c told (Err e) first waits last = tt
