-- Payloads that are answered, one after another.
use Rattle.std.proofs.Common.{◌≡◌, inl, inr, ℕ, List, [], ◌∷◌, ◌++◌, Option, Some, None, refl, sym, ap, ◌∙◌, append_assoc, append-nil, subst}
use Rattle.std.specs.Prelude.{Result, Ok, Err, OnOk}
use mathlib.Core.List.{IsPrefix}
use Rattle.tab_term.specs.Data.{PlainTerm}
use Rattle.tab_etf.specs.Reading.{whole}
use Rattle.tab_etf.specs.declared.fault.Stop.{Stop}
use Rattle.tab_model.specs.declared.data.Command.{Command}
use Rattle.tab_model.specs.declared.data.Reply.{Reply}
use Rattle.tab_model.specs.declared.data.Reply.TheVariants as reply
use Rattle.tab_post.proofs.Prefixes.{prefix_self, prefix_trans}
use Rattle.tab_book.specs.Logs.{Made}
use Rattle.tab_server.specs.Serving.{IsServed, IsTermReply, IsReadReply, calls_later}
use Rattle.tab_server.specs.Sending.{reply_frame, reply_frames}
use Rattle.tab_server.specs.Sent.{IsAnswered, AreAnswered}

-- what follows from an answer
pub on_ok : {A E P Q : Type 0} (r : Result A E) → OnOk r P → (P → Q) → OnOk r Q
on_ok (Ok x) p f = f p
on_ok (Err e) p f = tt

-- the first of these payloads are answered, and the others are left
pub record Begun (n : ℕ) (p q : List Made) (all left : List (List ℕ)) : Type 0 where
  pub done : List (List ℕ)
  pub replies : List (Option Reply)
  pub split : all ≡ done ++ left
  pub each : AreAnswered n p done replies q

abbrev pub begins : (n : ℕ) (p : List Made) (all : List (List ℕ)) → Begun n p p all all
begins n p all = record { done = []; replies = []; split = refl; each = prefix_self p }

-- of a caller that had seen fewer steps
served_later : (n : ℕ) (o p q : List Made) (c : Command) (r : Reply) → IsPrefix o p → IsServed n p c r q → IsServed n o c r q
served_later n o p q c r b h = record { calls = h.calls; each = calls_later n o p q h.calls b h.each; made = h.made }

term_later : (n : ℕ) (o p q : List Made) (t : PlainTerm) (r : Reply) → IsPrefix o p → IsTermReply n p t r q → IsTermReply n o t r q
term_later n o p q t r b (inl (e, f, h)) = inl (e, f, prefix_trans o p q b h)
term_later n o p q t r b (inr (c, e, h)) = inr (c, e, served_later n o p q c r b h)

read_later : (n : ℕ) (o p q : List Made) (t : Result PlainTerm Stop) (r : Reply) → IsPrefix o p → IsReadReply n p t r q → IsReadReply n o t r q
read_later n o p q (Ok t) r b h = term_later n o p q t r b h
read_later n o p q (Err f) r b h = (h.0, prefix_trans o p q b h.1)

answer_later : (n : ℕ) (o p q : List Made) (x : List ℕ) (r : Option Reply) → IsPrefix o p → IsAnswered n p x r q → IsAnswered n o x r q
answer_later n o p q x None b h = record { term = h.term; read = h.read; command = h.command; spelled = h.spelled; waits = served_later n o p q h.command reply.Waiting b h.waits }
answer_later n o p q x (Some r) b (inl h) = inl (read_later n o p q (whole x) r b h)
answer_later n o p q x (Some r) b (inr (e, h)) = inr (e, prefix_trans o p q b h)

answers_later : (n : ℕ) (o p q : List Made) (xs : List (List ℕ)) (rs : List (Option Reply)) → IsPrefix o p → AreAnswered n p xs rs q → AreAnswered n o xs rs q
answers_later n o p q [] [] b h = prefix_trans o p q b h
answers_later n o p q [] (r ∷ rs) b h = absurd h
answers_later n o p q (x ∷ xs) [] b h = absurd h
answers_later n o p q (x ∷ xs) (r ∷ rs) b (s, h, k) = (s, answer_later n o p s x r b h, k)

-- some replies, and then others
pub each_on : (n : ℕ) (p q s : List Made) (xs ys : List (List ℕ)) (rs ss : List (Option Reply)) → AreAnswered n p xs rs q → AreAnswered n q ys ss s → AreAnswered n p (xs ++ ys) (rs ++ ss) s
each_on n p q s [] ys [] ss h k = answers_later n p q s ys ss h k
each_on n p q s [] ys (r ∷ rs) ss h k = absurd h
each_on n p q s (x ∷ xs) ys [] ss h k = absurd h
each_on n p q s (x ∷ xs) ys (r ∷ rs) ss (t, h, l) k = (t, h, each_on n t q s xs ys rs ss l k)

abbrev pub goes_on : (n : ℕ) (p q s : List Made) (all left behind : List (List ℕ)) (x : List ℕ) (r : Option Reply) → left ≡ x ∷ behind → Begun n p q all left → IsAnswered n q x r s → Begun n p s all behind
goes_on n p q s all left behind x r e b k = record {
  done = b.done ++ x ∷ [];
  replies = b.replies ++ r ∷ [];
  split = b.split ∙ ap (λ xs. b.done ++ xs) e ∙ sym (append_assoc b.done (x ∷ []) behind);
  each = each_on n p q s b.done (x ∷ []) b.replies (r ∷ []) b.each (s, k, prefix_self s);
}

pub frames_behind : (rs more : List (Option Reply)) → reply_frames (rs ++ more) ≡ reply_frames rs ++ reply_frames more
frames_behind [] more = refl
frames_behind (None ∷ rs) more = frames_behind rs more
frames_behind (Some r ∷ rs) more = ap (λ xs. reply_frame r ++ xs) (frames_behind rs more) ∙ sym (append_assoc (reply_frame r) (reply_frames rs) (reply_frames more))

pub all_answered : (n : ℕ) (p q : List Made) (all left : List (List ℕ)) (b : Begun n p q all left) → left ≡ [] → AreAnswered n p all b.replies q
all_answered n p q all left b e = subst (λ xs. AreAnswered n p xs b.replies q) (sym (b.split ∙ ap (λ xs. b.done ++ xs) e ∙ append-nil b.done)) b.each
