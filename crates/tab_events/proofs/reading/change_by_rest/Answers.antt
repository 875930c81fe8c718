use Rattle.std.proofs.Common.{◌≡◌, ◌≢◌, ℕ, List, [], ◌∷◌, length, None, refl, arith}
use Rattle.tab_term.specs.Data.{atom, one_more}
use Rattle.tab_term.specs.View.{terms}
use Rattle.tab_term.specs.declared.term.Term.{Term}
use Rattle.tab_model.specs.Shapes.{change_in_body}
use Rattle.tab_events.proofs.reading.change_by_rest.Goals as goal

-- an event's body has two or four parts behind its word
no_event : (n : List ℕ) (ts : List Term) → length ts ≢ 2 → length ts ≢ 4 → None ≡ change_in_body (one_more (atom n) (terms ts))
no_event n [] h k = refl
no_event n (a ∷ []) h k = refl
no_event n (a ∷ b ∷ []) h k = absurd (h refl)
no_event n (a ∷ b ∷ d ∷ []) h k = refl
no_event n (a ∷ b ∷ d ∷ e ∷ []) h k = absurd (k refl)
no_event n (a ∷ b ∷ d ∷ e ∷ f ∷ ts) h k = refl

pub returns-in_default : goal.returns-in_default
returns-in_default c = no_event c.args.word.now c.args.rest.now (λ e. absurd (omega (arith, c.in_default, e))) (λ e. absurd (omega (arith, c.in_default, e)))
