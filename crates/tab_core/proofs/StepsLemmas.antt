-- Steps that put nothing into posts, and what steps keep.
use Rattle.std.proofs.Common.{◌≡◌, ℕ, List, [], Bool, true, false, refl, sym, ap, ◌∙◌, subst, Option, Some, None}
use Rattle.std.specs.Prelude.{if◌then◌else◌, Result, Ok, Err, IfOk, IsOk, OnErr}
use Rattle.tab_model.specs.declared.data.Command.{Command}
use Rattle.tab_model.specs.declared.data.Command.TheVariants as command
use Rattle.tab_model.specs.declared.data.Level.{Level}
use Rattle.tab_model.specs.declared.data.Schema.{Schema}
use Rattle.tab_model.specs.declared.ask.Ask.TheVariants.{Join, Leave, Retry, Do as DoCommand}
use Rattle.tab_model.specs.State.{Outbox, Session, State, session_at, is_waiting}
use Rattle.tab_model.specs.Reached.{IsRising}
use Rattle.tab_model.specs.Outcome.{Ask}
use Rattle.tab_model.specs.Run.{IsSplitByOverflow, put_ask, put_command}
use Rattle.tab_model.proofs.Splits.{none_handed}
use Rattle.tab_core.specs.Joined.{Subscriber}
use Rattle.tab_core.specs.declared.step.Stepped.{Stepped}
use Rattle.tab_core.specs.Parts.{Parts, state_of}
use Rattle.tab_core.specs.Kept.{IsKept}
use Rattle.tab_core.specs.Quiet.{is_quiet}
use Rattle.tab_core.specs.Steps as manager
use Rattle.tab_core.specs.Steps.{asks_for_none, is_told_for_none}
use Rattle.tab_core.proofs.Keeping.{SameKeys, kept_put}
use Rattle.tab_core.proofs.MachineSteps.{both_ways}
use Rattle.tab_core.specs.Runs.{StepsTo}

-- ---- a step of the machine that puts nothing

module _ (σ τ : State) (n : ℕ) (s : Stepped) where
  made : (a : Ask) → put_ask σ a (session_at σ.sessions n) ≡ [] → manager.StepsTo σ n a s τ → StepsTo σ n a s τ
  made a none h = ([], subst (λ ss. IsSplitByOverflow ss []) (sym none) none_handed, h)

  pub join_makes : (o : Outbox) → manager.StepsTo σ n (Join o) s τ → StepsTo σ n (Join o) s τ
  join_makes o = made (Join o) refl

  pub leave_makes : manager.StepsTo σ n Leave s τ → StepsTo σ n Leave s τ
  leave_makes = made Leave refl

  pub retry_makes : manager.StepsTo σ n Retry s τ → StepsTo σ n Retry s τ
  retry_makes = made Retry refl

  -- a command that puts nothing
  puts_none : (r : Session) (c : Command) → is_quiet c ≡ true → put_command σ r c ≡ []
  puts_none r (command.Schema x) q = cc
  puts_none r (command.TableInfo t i) q = refl
  puts_none r command.Begin q = refl
  puts_none r command.Commit q = cc
  puts_none r (command.Abort x) q = refl
  puts_none r (command.Do o) q = refl
  puts_none r (command.Subscribe t l dump) q = cc
  puts_none r (command.Unsubscribe t l) q = cc
  puts_none r (command.OneShot parts retries) q = refl

  pub command_makes : (c : Command) → is_quiet c ≡ true → manager.StepsTo σ n (DoCommand c) s τ → StepsTo σ n (DoCommand c) s τ
  command_makes c q = made (DoCommand c) (by (session_at σ.sessions n))
    where
      by_wait : (r : Session) (b : Bool) → (if b then [] else put_command σ r c) ≡ []
      by_wait r true = refl
      by_wait r false = puts_none r c q

      by : (o : Option Session) → put_ask σ (DoCommand c) o ≡ []
      by None = refl
      by (Some r) = by_wait r (is_waiting σ r.number)

-- it is quiet by what it is not
pub quiet : (c : Command) → (c ≡ command.Commit → ⊥) → ((x : Schema) → c ≡ command.Schema x → ⊥) → ((t : List ℕ) (l : Level) (d : Bool) → c ≡ command.Subscribe t l d → ⊥) → ((t : List ℕ) (l : Level) → c ≡ command.Unsubscribe t l → ⊥) → is_quiet c ≡ true
quiet (command.Schema x) a b d e = absurd (b x refl)
quiet (command.TableInfo t i) a b d e = refl
quiet command.Begin a b d e = refl
quiet command.Commit a b d e = absurd (a refl)
quiet (command.Abort r) a b d e = refl
quiet (command.Do o) a b d e = refl
quiet (command.Subscribe t l dump) a b d e = absurd (d t l dump refl)
quiet (command.Unsubscribe t l) a b d e = absurd (e t l refl)
quiet (command.OneShot parts retries) a b d e = refl

-- ---- as a call answers it, of the core's state

-- what a call of the machine answers
pub ok_sees : {E : Type 0} (σ τ ρ : State) (n : ℕ) (a : Ask) (P : Stepped → Type 0) (r : Result Stepped E) → σ ≡ ρ → ((s : Stepped) → P s → StepsTo σ n a s τ) → IfOk r P → IfOk r (λ s. StepsTo ρ n a s τ)
ok_sees σ τ ρ n a P (Ok s) view f h = subst (λ (μ : State). StepsTo μ n a s τ) view (f s h)
ok_sees σ τ ρ n a P (Err e) view f h = tt

pub sees : (σ τ ρ : State) (n : ℕ) (a : Ask) (s : Stepped) → σ ≡ ρ → StepsTo σ n a s τ → StepsTo ρ n a s τ
sees σ τ ρ n a s view h = subst (λ (μ : State). StepsTo μ n a s τ) view h

-- where it refuses memory
pub err_stays : {T E : Type 0} (σ τ ρ : State) (r : Result T E) → σ ≡ ρ → OnErr r (τ ≡ σ) → OnErr r (τ ≡ ρ)
err_stays σ τ ρ (Ok x) view h = tt
err_stays σ τ ρ (Err e) view h = h ∙ view

-- what takes no memory
pub free_sees : {P : Type 0} (σ ρ : State) (n : ℕ) (a : Ask) → σ ≡ ρ → manager.takes_no_memory ρ n a ≡ true → (asks_for_none σ n a ≡ true → P) → (is_told_for_none σ n a ≡ true → P) → P
free_sees σ ρ n a view h f g = both_ways (asks_for_none σ n a) (is_told_for_none σ n a) (ap (λ (μ : State). manager.takes_no_memory μ n a) view ∙ h) f g

pub told_sees : {P : Type 0} (σ ρ : State) (n : ℕ) (a : Ask) → σ ≡ ρ → is_told_for_none ρ n a ≡ true → (is_told_for_none σ n a ≡ true → P) → P
told_sees σ ρ n a view h f = f (ap (λ (μ : State). is_told_for_none μ n a) view ∙ h)

-- what a call made, said of how its caller names the answer, the state after it and what was asked
abbrev pub Made : {E : Type 0} → State → ℕ → Ask → Result Stepped E → State → Type 0
Made σ n a r τ = IfOk r (λ s. StepsTo σ n a s τ) × (manager.takes_no_memory σ n a ≡ true → IsOk r) × OnErr r (τ ≡ σ)

pub as_made : {E : Type 0} (σ τ τ' : State) (n : ℕ) (a a' : Ask) (r r' : Result Stepped E) → a ≡ a' → r ≡ r' → τ ≡ τ' → Made σ n a' r' τ' → Made σ n a r τ
as_made {E} σ τ τ' n a a' r r' p q h made = subst (λ (b : Ask). Made σ n b r τ) (sym p) (subst (λ (x : Result Stepped E). Made σ n a' x τ) (sym q) (subst (λ (μ : State). Made σ n a' r' μ) (sym h) made))

-- ---- what a step keeps

pub rising_of : (m : Parts) → IsKept m → IsRising (state_of m)
rising_of m k = record { rises = k.rises; owners = k.owners }

-- one that changes who watches what, and what the posts have
pub put_kept : (m : Parts) (cs : List Subscriber) (n : ℕ) (a : Ask) (s : Stepped) → IsKept m → StepsTo (state_of m) n a s (state_of (record m { sessions = cs })) → SameKeys m.sessions cs → IsKept (record m { sessions = cs })
put_kept m cs n a s k (over, allowed, h) same = kept_put m m cs over n a s.reply s.entry k k.agree same h
