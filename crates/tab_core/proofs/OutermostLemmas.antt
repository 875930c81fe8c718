-- Which transaction a commit ends.
use Rattle.std.proofs.Common.{◌≡◌, ℕ, suc, List, Bool, true, false, refl, sym, ap, ◌∙◌, subst, length, Option, Some, None}
use Rattle.std.specs.Prelude.{◌==◌, if◌then◌else◌, is_some, IsSome, option_map}
use Rattle.tab_model.specs.declared.data.Change.{Change}
use Rattle.tab_model.specs.Events.{change_all, surviving_changes}
use Rattle.tab_model.specs.Standing.{levels_in, levels_of}
use Rattle.tab_model.specs.State as plain
use Rattle.tab_model.specs.State.{State, Transaction, transaction_at, is_waiting, mid_of}
use Rattle.tab_model.specs.Outcome.{is_empty}
use Rattle.tab_txstore.proofs.FitsLemmas.{updates_survive}
use Rattle.tab_core.specs.declared.transaction.Transaction as kept
use Rattle.tab_core.specs.Kept.{IsKept}
use Rattle.tab_core.specs.Outermost.{outermost, outermost_of, ending_of, CommitsBy}
use Rattle.tab_core.specs.declared.step.Stepped.{Stepped}
use Rattle.tab_model.specs.declared.ask.Ask.TheVariants.{Do as DoCommand}
use Rattle.tab_model.specs.declared.data.Command.TheVariants as command
use Rattle.tab_model.specs.declared.data.Reply.TheVariants as reply
use Rattle.tab_core.proofs.Answering as answering
use Rattle.tab_core.proofs.Places.{at_of}
use Rattle.tab_core.proofs.Keeping as keep
use Rattle.tab_core.proofs.Keeping.{the_session}
use Rattle.tab_core.proofs.LevelEnds as ending
use Rattle.tab_subs.specs.Subscribers.{IsHeldAt, at}
use Rattle.tab_core.specs.Joined.{Subscriber}
use Rattle.tab_core.specs.Parts.{Parts, session_of, state_of, transaction_of}

none_if : (σ : State) (b : Bool) (o : Option Transaction) → outermost_of σ o ≡ None → (if b then None else outermost_of σ o) ≡ None
none_if σ true o h = refl
none_if σ false o h = h

pub none_ends : (σ : State) (n : ℕ) → outermost σ n ≡ None → option_map ending_of (outermost σ n) ≡ None
none_ends σ n h = ap (option_map ending_of) h

pub waits_none : (σ : State) (n : ℕ) → is_waiting σ n ≡ true → outermost σ n ≡ None
waits_none σ n h = ap (λ b. if b then None else outermost_of σ (transaction_at σ n)) h

pub closed_none : (σ : State) (n : ℕ) → transaction_at σ n ≡ None → outermost σ n ≡ None
closed_none σ n h = none_if σ (is_waiting σ n) (transaction_at σ n) (ap (outermost_of σ) h)

pub stranger_none : (m : Parts) (n : ℕ) → at m.sessions n ≡ None → outermost (state_of m) n ≡ None
stranger_none m n h = closed_none (state_of m) n (ap plain.transaction_in (at_of m.sessions n ∙ ap (option_map session_of) h))

pub stranger_levels : (m : Parts) (n : ℕ) → at m.sessions n ≡ None → levels_of (state_of m) n ≡ 0
stranger_levels m n h = ap (λ o. levels_in (state_of m) (plain.transaction_in o)) (at_of m.sessions n ∙ ap (option_map session_of) h)

pub not_none : (σ : State) (n : ℕ) (t : Transaction) → outermost σ n ≡ None → outermost σ n ≡ Some t → ⊥
not_none σ n t h g = none_some (sym h ∙ g)
  where
    none_some : None ≡ Some t → ⊥
    none_some q = cc

pub same_ending : (σ : State) (n : ℕ) (t u : Transaction) → outermost σ n ≡ Some t → outermost σ n ≡ Some u → t ≡ u
same_ending σ n t u h g = one (sym h ∙ g)
  where
    one : Some t ≡ Some u → t ≡ u
    one q = cc

pub is_open : (o : Option kept.Transaction) (t : kept.Transaction) → o ≡ Some t → IsSome o
is_open o t h = ap is_some h

-- what a transaction says that is one
found : (σ : State) (b : Bool) (o : Option Transaction) (t : Transaction) → (if b then None else outermost_of σ o) ≡ Some t → (b ≡ false) × (o ≡ Some t) × (is_empty (mid_of σ t).saved ≡ true)
found σ true o t h = cc
found σ false None t h = cc
found σ false (Some u) t h = by (is_empty (mid_of σ u).saved) refl h
  where
    by : (b : Bool) → is_empty (mid_of σ u).saved ≡ b → (if b then Some u else None) ≡ Some t → (false ≡ false) × (Some u ≡ Some t) × (is_empty (mid_of σ t).saved ≡ true)
    by true e g = (refl, g, subst (λ (x : Transaction). is_empty (mid_of σ x).saved ≡ true) (one g) e)
      where
        one : Some u ≡ Some t → u ≡ t
        one q = cc
    by false e g = cc

-- a session's open transaction, where it ends with a commit
pub record IsEnding (m : Parts) (n i : ℕ) (t : Transaction) : Type 0 where
  pub held : kept.Transaction
  pub opened : (the_session m n i).transaction ≡ Some held
  pub is : transaction_of held ≡ t
  pub idle : is_waiting (state_of m) n ≡ false
  pub deep : (length held.store.levels.saved == 0) ≡ true

module _ (m : Parts) (n i : ℕ) (k : IsKept m) (there : IsHeldAt m.sessions n i) where
  abbrev σ : State
  σ = state_of m

  abbrev s : Subscriber
  s = the_session m n i

  transactions : transaction_at σ n ≡ option_map transaction_of s.transaction
  transactions = ap plain.transaction_in (keep.here m n i k there)

  pub no_transaction_none : s.transaction ≡ None → outermost σ n ≡ None
  no_transaction_none h = closed_none σ n (transactions ∙ ap (option_map transaction_of) h)

  pub no_levels : s.transaction ≡ None → levels_of σ n ≡ 0
  no_levels h = ap (levels_in σ) (transactions ∙ ap (option_map transaction_of) h)

  module _ (t : kept.Transaction) (open_t : s.transaction ≡ Some t) where
    pub levels_open : levels_of σ n ≡ suc (length t.store.levels.saved)
    levels_open = ap (levels_in σ) (keep.mine m n i k there t open_t) ∙ ap suc (keep.depth m n i k there t open_t)

    saved : (b : Bool) → (length t.store.levels.saved == 0) ≡ b → is_empty (mid_of σ (transaction_of t)).saved ≡ b
    saved b h = ending.outermost m n i k there t open_t ∙ h

    pub child_none : (length t.store.levels.saved == 0) ≡ false → outermost σ n ≡ None
    child_none h = none_if σ (is_waiting σ n) (transaction_at σ n) (ap (outermost_of σ) (keep.mine m n i k there t open_t) ∙ ap (λ b. if b then Some (transaction_of t) else None) (saved false h))

    pub ends_level_1 : is_waiting σ n ≡ false → (length t.store.levels.saved == 0) ≡ true → outermost σ n ≡ Some (transaction_of t)
    ends_level_1 idle h = (λ j. if idle j then None else outermost_of σ (keep.mine m n i k there t open_t j)) ∙ ap (λ b. if b then Some (transaction_of t) else None) (saved true h)

    pub ends : (updates : List Change) → updates ≡ t.store.levels.now.updates → is_waiting σ n ≡ false → (length t.store.levels.saved == 0) ≡ true → Some (t.age, updates) ≡ option_map ending_of (outermost σ n)
    ends updates is idle h =
        ap (λ us. Some (t.age, us)) (is ∙ updates_survive t.store m.catalog (keep.fit m n i k there t open_t))
        ∙ sym (ap (option_map ending_of) (ends_level_1 idle h))

  pub is_ending : (t : Transaction) → outermost σ n ≡ Some t → IsEnding m n i t
  is_ending t h = by s.transaction refl
    where
      at_n : (is_waiting σ n ≡ false) × (transaction_at σ n ≡ Some t) × (is_empty (mid_of σ t).saved ≡ true)
      at_n = found σ (is_waiting σ n) (transaction_at σ n) t h

      by : (o : Option kept.Transaction) → s.transaction ≡ o → IsEnding m n i t
      by None e = absurd (some_none (sym at_n.1 ∙ transactions ∙ ap (option_map transaction_of) e))
        where
          some_none : Some t ≡ None → ⊥
          some_none q = cc
      by (Some u) e = record {
        held = u;
        opened = e;
        is = same;
        idle = at_n.0;
        deep = sym (ending.outermost m n i k there u e) ∙ ap (λ (x : Transaction). is_empty (mid_of σ x).saved) same ∙ at_n.2;
      }
        where
          one : Some (transaction_of u) ≡ Some t → transaction_of u ≡ t
          one q = cc

          same : transaction_of u ≡ t
          same = one (sym (transactions ∙ ap (option_map transaction_of) e) ∙ at_n.1)

  -- its changes are those of its store
  pub updates_are : (t : Transaction) (e : IsEnding m n i t) → change_all m.catalog (surviving_changes t.moves t.told) ≡ change_all m.catalog e.held.store.levels.now.updates
  updates_are t e =
      ap (λ (x : Transaction). change_all m.catalog (surviving_changes x.moves x.told)) (sym e.is)
      ∙ ap (change_all m.catalog) (sym (updates_survive e.held.store m.catalog (keep.fit m n i k there e.held e.opened)))

-- a commit of one that has not joined, and of one that waits
pub stranger_commits : (m : Parts) (n : ℕ) → at m.sessions n ≡ None → (s : Stepped) → s ≡ record { reply = reply.BadSession; entry = None } → CommitsBy (state_of m) n s (state_of m) (outermost (state_of m) n)
stranger_commits m n h s is = subst (CommitsBy (state_of m) n s (state_of m)) (sym (stranger_none m n h)) (answering.unseated m n h (DoCommand command.Commit) refl s is)

pub waiting_commits : (m : Parts) (n i : ℕ) → IsHeldAt m.sessions n i → is_waiting (state_of m) n ≡ true → (s : Stepped) → s ≡ record { reply = reply.WaitingNow; entry = None } → CommitsBy (state_of m) n s (state_of m) (outermost (state_of m) n)
waiting_commits m n i there waits s is =
    subst (CommitsBy (state_of m) n s (state_of m)) (sym (waits_none (state_of m) n waits))
    (answering.waiting_default m n i there waits command.Commit (λ r e. cc) ∙ answering.without_entry (state_of m) reply.WaitingNow s is)
