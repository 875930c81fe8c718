-- Who may not join, and what it is told.
use Rattle.std.proofs.Common.{◌≡◌, ◌∙◌, ap, sym, refl, ℕ, [], ◌&&◌, true, false, Option, Some, None, length, nat_lt, ◌<◌, ◌≤◌}
use Rattle.std.specs.Prelude.{is_some}
use Rattle.std.proofs.lemmas.Bool.{lt-ltb, le-ltb, and_parts}
use Rattle.tab_model.specs.declared.data.Limit.TheVariants as limit
use Rattle.tab_model.specs.declared.data.Reply.TheVariants as reply
use Rattle.tab_model.specs.State.{State, Session, Outbox, session_at, transaction_at}
use Rattle.tab_model.specs.Standing.{is_joined}
use Rattle.tab_model.specs.declared.ask.Ask.TheVariants.{Join}
use Rattle.tab_model.specs.Outcome.{step_of, step_without_entry, outcome}
use Rattle.tab_core.specs.Steps.{tells_for_none}
use Rattle.tab_session.specs.StepsMade.{IsJoinRefused, JoinTakesMemory}

of_joined : (σ : State) (n : ℕ) (b : Outbox) (o : Option Session) → is_some o ≡ true → step_of σ [] n (Join b) o ≡ step_without_entry σ reply.BadSession
of_joined σ n b None h = cc
of_joined σ n b (Some s) h = refl

of_number : (σ : State) (n : ℕ) (b : Outbox) (o : Option Session) → nat_lt σ.greatest n ≡ false → step_of σ [] n (Join b) o ≡ step_without_entry σ reply.BadSession
of_number σ n b None h = rw h refl
of_number σ n b (Some s) h = refl

of_limit : (σ : State) (n : ℕ) (b : Outbox) (o : Option Session) → is_some o ≡ false → nat_lt σ.greatest n ≡ true → nat_lt (length σ.sessions) σ.limits.sessions ≡ false
    → step_of σ [] n (Join b) o ≡ step_without_entry σ (reply.SystemLimit limit.Sessions)
of_limit σ n b None h above full = rw (above, full) refl
of_limit σ n b (Some s) h above full = cc

pub joined : (σ : State) (n : ℕ) → is_joined σ n ≡ true → IsJoinRefused σ n reply.BadSession
unfolding outcome
joined σ n h b = of_joined σ n b (session_at σ.sessions n) h

pub not_above : (σ : State) (n : ℕ) → n ≤ σ.greatest → IsJoinRefused σ n reply.BadSession
unfolding outcome
not_above σ n h b = of_number σ n b (session_at σ.sessions n) (le-ltb σ.greatest n h)

pub full : (σ : State) (n : ℕ) → is_joined σ n ≡ false → σ.greatest < n → (nat_lt σ.greatest n && nat_lt (length σ.sessions) σ.limits.sessions) ≡ false
    → IsJoinRefused σ n (reply.SystemLimit limit.Sessions)
unfolding outcome
full σ n h lt none b =
    let above = lt-ltb σ.greatest n lt in
    of_limit σ n b (session_at σ.sessions n) h above (sym (ap (λ x. x && nat_lt (length σ.sessions) σ.limits.sessions) above) ∙ none)

of_room : (σ : State) (n : ℕ) (b : Outbox) (o : Option Session) → is_some o ≡ false → nat_lt σ.greatest n ≡ true → nat_lt (length σ.sessions) σ.limits.sessions ≡ true
    → (step_of σ [] n (Join b) o).reply ≡ reply.Done
of_room σ n b None h above fits = rw (above, fits) refl
of_room σ n b (Some s) h above fits = cc

pub admitted : (σ : State) (n : ℕ) → is_joined σ n ≡ false → (nat_lt σ.greatest n && nat_lt (length σ.sessions) σ.limits.sessions) ≡ true → JoinTakesMemory σ n
unfolding outcome
admitted σ n h room b =
    let both = and_parts _ _ room in
    ap (tells_for_none (is_some (transaction_at σ n)) (Join b)) (of_room σ n b (session_at σ.sessions n) h both.0 both.1)
