-- What the replies of a session add to what its client is sent (this project's own rules).
use Rattle.std.specs.Prelude.{ℕ, Bool, List, [], ◌∷◌, Option, None, Some}
use Rattle.tab_model.specs.declared.data.Reply.{Reply}
use mathlib.Core.List.{IsPrefix}
use Rattle.tab_book.specs.Logs.{Made}
use Rattle.tab_server.specs.declared.answers.Answers.{Answers}
use Rattle.tab_server.specs.Sending.{Goes}
use Rattle.tab_server.specs.Serving.{IsPayloadReply, IsEnded}

module _ {O G : Type 0} where
  -- the second is the first with these bytes added to what was sent and kept, unless the way is broken
  abbrev pub Sends : (O → Option (List ℕ)) → (O → Bool) → Answers O G → Answers O G → List ℕ → Type 0
  Sends sent broken a b bytes = Goes sent broken a.outlet a.frames.items b.outlet b.frames.items bytes

-- the reply to a payload, or none if an abort has ended the wait of its command
abbrev pub IsAnswered : ℕ → List Made → List ℕ → Option Reply → List Made → Type 0
IsAnswered n p payload None q = IsEnded n p payload q
IsAnswered n p payload (Some r) q = IsPayloadReply n p payload r q

-- the replies to these payloads, in order; p and q are what was seen of the book's log before them and after them
abbrev pub AreAnswered : ℕ → List Made → List (List ℕ) → List (Option Reply) → List Made → Type 0
AreAnswered n p [] [] q = IsPrefix p q
AreAnswered n p [] (r ∷ rs) q = ⊥
AreAnswered n p (x ∷ xs) [] q = ⊥
AreAnswered n p (x ∷ xs) (r ∷ rs) q = (s : List Made) × IsAnswered n p x r s × AreAnswered n s xs rs q
