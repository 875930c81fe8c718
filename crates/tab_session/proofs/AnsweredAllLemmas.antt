-- Runs of the machine, and what a writer holds.
use Rattle.std.proofs.Common.{◌≡◌, ℕ, zero, suc, ◌+◌, List, [], ◌∷◌, ◌++◌, length, take, refl, ap, subst, ◌∙◌, inl, inr}
use Rattle.std.proofs.lemmas.List.{append-nil}
use Rattle.std.proofs.lemmas.List.Concat.{flat_map-append}
use Rattle.std.proofs.Math.Seq.{take-append-add}
use Rattle.tab_session.specs.declared.answered.PayloadReply.{PayloadReply}
use Rattle.tab_model.specs.State.{State}
use Rattle.tab_session.specs.AnsweredPayloads.{Answered, IsUnderRead, AnsweredAll, answer_frame}
use Rattle.std.proofs.Common.{Result, Ok, Err}
use Rattle.tab_term.specs.Data.{PlainTerm}
use Rattle.tab_etf.specs.Reading.{whole}
use Rattle.tab_etf.specs.declared.fault.Stop.{Stop}
use Rattle.tab_model.specs.declared.data.Reply.TheVariants.{NoMemory}
use Rattle.tab_session.specs.Replays.{frames_of, IsRun}

abbrev unasked : PayloadReply
unasked = record { session = 0; reply = NoMemory }

pub frames_join : (rs ss : List PayloadReply) → frames_of (rs ++ ss) ≡ frames_of rs ++ frames_of ss
frames_join rs ss = flat_map-append answer_frame rs ss

pub frames_one : (rs : List PayloadReply) (r : PayloadReply) → frames_of (rs ++ r ∷ []) ≡ frames_of rs ++ answer_frame r
frames_one rs r = frames_join rs (r ∷ []) ∙ ap (λ (x : List ℕ). frames_of rs ++ x) (append-nil (answer_frame r))

-- a beginning of the first part is one of the whole
pub beginning : (n : ℕ) (b rest : List ℕ) → (k : ℕ) × (take k (b ++ rest) ≡ take n b)
beginning zero b rest = (0, refl)
beginning (suc n) [] rest = (0, refl)
beginning (suc n) (x ∷ b) rest = let i = beginning n b rest in (suc i.0, ap (λ (xs : List ℕ). x ∷ xs) i.1)

pub beginning_after : (a : List ℕ) (n : ℕ) (b rest : List ℕ) → (k : ℕ) × (take k (a ++ (b ++ rest)) ≡ a ++ take n b)
beginning_after a n b rest = let i = beginning n b rest in (length a + i.0, take-append-add a (b ++ rest) i.0 ∙ ap (λ (x : List ℕ). a ++ x) i.1)

module _ (capacity : ℕ) where
  under : (σ : State) (read : Result PlainTerm Stop) → IsUnderRead capacity σ read 0
  under σ (Ok t) = inl refl
  under σ (Err f) = refl

  refused : (σ : State) (p : List ℕ) → Answered capacity σ p unasked σ
  refused σ p = inr (record { reply = refl; same = refl; under = under σ (whole p) })

  -- any payloads can be answered
  pub total : (σ : State) (ps : List (List ℕ)) → (rs : List PayloadReply) × IsRun capacity σ ps rs
  total σ [] = ([], record { last = σ; ran = refl })
  total σ (p ∷ ps) =
      let t = total σ ps in
      (unasked ∷ t.0, record { last = t.1.last; ran = (σ, refused σ p, t.1.ran) })

  pub ran_join : (σ μ τ : State) (ps qs : List (List ℕ)) (rs ss : List PayloadReply) → AnsweredAll capacity σ ps rs μ → AnsweredAll capacity μ qs ss τ → AnsweredAll capacity σ (ps ++ qs) (rs ++ ss) τ
  ran_join σ μ τ [] qs [] ss p q = subst (λ (s : State). AnsweredAll capacity s qs ss τ) p q
  ran_join σ μ τ [] qs (r ∷ rs) ss p q = absurd p
  ran_join σ μ τ (x ∷ ps) qs [] ss p q = absurd p
  ran_join σ μ τ (x ∷ ps) qs (r ∷ rs) ss p q = (p.0, p.1, ran_join p.0 μ τ ps qs rs ss p.2 q)
