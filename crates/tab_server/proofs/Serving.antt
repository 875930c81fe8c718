-- What a command's calls give.
use Rattle.std.proofs.Common.{◌≡◌, inl, inr, ℕ, List, ◌∷◌, [], false, refl, subst, Some, sym}
use Rattle.std.specs.Prelude.{Result, Ok, Err, IfOk}
use Rattle.tab_model.specs.declared.ask.Ask.TheVariants.{Do as DoCommand}
use Rattle.tab_model.specs.declared.data.Command.{Command}
use Rattle.tab_model.specs.declared.data.Reply.{Reply}
use Rattle.tab_model.specs.declared.data.Reply.TheVariants as reply
use Rattle.tab_oneshot.specs.Calls.{Call, Asked, Waited, answer_in}
use Rattle.tab_oneshot.specs.OneShots.{is_one_shot, IsOneShot}
use mathlib.Core.List.{IsPrefix}
use Rattle.tab_post.proofs.Prefixes.{prefix_self}
use Rattle.tab_book.specs.Logs.{Made}
use Rattle.tab_book.specs.Replies.{IsReply}
use Rattle.tab_server.specs.Serving.{IsServedCall, AreServedCalls, IsServed, IsSettled}

module _ (n : ℕ) (c : Command) where
  -- one call
  pub asked : (p q : List Made) (r : Reply) → is_one_shot c ≡ false → IsServedCall n p (Asked c r) q → IsServed n p c r q
  asked p q r single call = record { calls = Asked c r ∷ []; each = (q, call, prefix_self q); made = inl (record { single = single; made = inl refl }) }

  -- one call, and its wait
  pub settles : (p s q : List Made) (first r : Reply) → is_one_shot c ≡ false → IsReply p s n (DoCommand c) first → IsSettled n s first r q → IsServed n p c r q
  settles p s q first r single step (inl (same, more)) = record {
    calls = Asked c r ∷ [];
    each = (s, inl (subst (λ x. IsReply p s n (DoCommand c) x) (sym same) step), more);
    made = inl (record { single = single; made = inl refl });
  }
  settles p s q first r single step (inr (waits, granted)) = record {
    calls = Asked c reply.Waiting ∷ Waited (Some r) ∷ [];
    each = (s, inl (subst (λ x. IsReply p s n (DoCommand c) x) waits step), granted);
    made = inl (record { single = single; made = inr (Some r, refl, refl) });
  }

  -- a one-shot's calls
  pub driven : (p q : List Made) (r : Reply) (calls : List Call) → AreServedCalls n p calls q → IsOneShot c calls r → IsServed n p c r q
  driven p q r calls each made = record { calls = calls; each = each; made = inr made }

-- a call with its reply, or with memory refused
pub asked_call : {E : Type 0} (n : ℕ) (p q : List Made) (c : Command) (r : Result Reply E) → IfOk r (λ x. IsReply p q n (DoCommand c) x) → IsPrefix p q → IsServedCall n p (Asked c (answer_in r)) q
asked_call n p q c (Ok r) h b = inl h
asked_call n p q c (Err e) h b = inr (refl, b)

pub one_call : (n : ℕ) (p q : List Made) (c : Call) → IsServedCall n p c q → AreServedCalls n p (c ∷ []) q
one_call n p q c h = (q, h, prefix_self q)

-- what a wait gives
pub waited_reply : {E : Type 0} (n : ℕ) (p q : List Made) (first r : Reply) (x : Result Reply E) → first ≡ reply.Waiting → answer_in x ≡ r → AreServedCalls n p (Waited (Some (answer_in x)) ∷ []) q → IsSettled n p first r q
waited_reply n p q first r x waits is h = inr (waits, subst (λ w. AreServedCalls n p (Waited (Some w) ∷ []) q) is h)
