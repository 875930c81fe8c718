-- The log is a run from the begin, which each step makes longer by one.
use Rattle.std.proofs.Common.{◌≡◌, ◌+◌, ℕ, List, [], ◌∷◌, ◌++◌, refl, sym, ◌∙◌, subst, true, None}
use Rattle.tab_model.specs.declared.data.Limits.{Limits}
use Rattle.tab_model.specs.declared.data.Reply.TheVariants as reply
use Rattle.tab_model.specs.State.{State, new, IsSound}
use Rattle.tab_model.specs.Outcome.{step_without_entry}
use Rattle.tab_post.specs.Ends.{empty_outbox}
use Rattle.tab_book.specs.Logs.{Made, joined, Makes, IsRunOf, IsWholeRun}
use Rattle.tab_book.specs.Steps.{has_free_seat, with_new_session}
use Rattle.tab_book.proofs.Keeping.{joins_made}

run_more : (σ τ ρ : State) (log : List Made) (m : Made) → IsRunOf σ log τ → Makes τ m ρ → IsRunOf σ (log ++ m ∷ []) ρ
run_more σ τ ρ [] m h s = (ρ, subst (λ (x : State). Makes x m ρ) h s, refl)
run_more σ τ ρ (x ∷ log) m (μ, first, rest) s = (μ, first, run_more μ τ ρ log m rest s)

pub logged_run : (τ ρ : State) (log all : List Made) (m : Made) → IsWholeRun log τ → Makes τ m ρ → all ≡ log ++ m ∷ [] → IsWholeRun all ρ
logged_run τ ρ log all m h s e = record { limits = h.limits; run = subst (λ (l : List Made). IsRunOf (new h.limits) l ρ) (sym e) (run_more (new h.limits) τ ρ log m h.run s) }

pub join_makes : (σ τ : State) (n mailbox : ℕ) → IsSound σ → has_free_seat σ ≡ true → n ≡ σ.greatest + 1 → τ ≡ with_new_session σ n (empty_outbox mailbox) → Makes σ (joined n mailbox) τ
join_makes σ τ n mailbox sound room number is = record {
  over = [];
  entry = None;
  allowed = record { refusers = []; numbers = refl; among = tt; full = refl };
  core = joins_made σ [] n (empty_outbox mailbox) sound room number ∙ (λ i. step_without_entry (sym is i) reply.Done);
}

pub new_run : (limits : Limits) (log : List Made) (σ : State) → log ≡ [] → σ ≡ new limits → IsWholeRun log σ
new_run limits log σ none is = record { limits = limits; run = subst (λ (l : List Made). IsRunOf (new limits) l σ) (sym none) is }
