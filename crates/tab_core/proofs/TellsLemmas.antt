-- What takes no memory, as the calls of a core see it.
use Rattle.std.proofs.Common.{◌≡◌, ℕ, suc, ◌<◌, ◌≤◌, List, [], Bool, true, false, ◌&&◌, not, refl, sym, ap, ◌∙◌, subst, arith, Option, Some, None}
use Rattle.std.specs.Prelude.{◌^◌, ◌-◌, if◌then◌else◌, is_some, length, min}
use Rattle.std.proofs.lemmas.Bool.Decides.{nat_tests}
use Rattle.tab_model.specs.declared.data.Command.{Command}
use Rattle.tab_model.specs.declared.data.Command.TheVariants as command
use Rattle.tab_model.specs.declared.data.Level.{Level}
use Rattle.tab_model.specs.declared.data.Reply.{Reply}
use Rattle.tab_model.specs.declared.data.Reply.TheVariants as reply
use Rattle.tab_model.specs.declared.data.Schema.{Schema}
use Rattle.tab_model.specs.declared.ask.Ask.TheVariants.{Do as DoCommand}
use Rattle.tab_model.specs.Outcome.{Ask, Outcome, outcome, step_without_entry, has_room, is_abort, is_at, schema, subscribe_refusal, unsubscribe_refusal}
use Rattle.tab_model.proofs.StepCases.{command_if, subscribe_if, unsubscribe_if}
use Rattle.tab_model.specs.Run.{IsSplitByOverflow, put_ask, put_schema}
use Rattle.tab_model.proofs.Splits.{none_handed}
use Rattle.tab_model.specs.Schemas.{table_of_schema}
use Rattle.tab_model.specs.Standing.{levels_in, levels_of}
use Rattle.tab_model.specs.State.{Transaction, Session, State, session_at, is_busy, is_waiting, level_in, mid_of, transaction_at, transaction_in}
use Rattle.tab_model.proofs.SessionLists.{found}
use Rattle.tab_core.specs.declared.step.Stepped.{Stepped}
use Rattle.tab_core.specs.Steps.{is_told_for_none, tells_for_none}
use Rattle.tab_core.proofs.MachineSteps.{schema_takes}
use Rattle.tab_core.specs.Runs.{StepsTo}
use Rattle.tab_core.specs.Subscribing.{inside_refusal, refused_by}
use Rattle.tab_core.proofs.SessionsLemmas.{at_session}

abbrev tells : State → ℕ → Command → Reply → Bool
tells ρ n c = tells_for_none (is_some (transaction_at ρ n)) (DoCommand c)

-- ---- of a command that the session itself doesn't refuse

module _ (ρ : State) (n : ℕ) where
  abbrev Named : Command → Option Reply → Type 0
  Named c None = Unit {0}
  Named c (Some r) = tells ρ n c r ≡ false

  told_if : (c : Command) (o : Option Reply) (f : Session → Option Reply) → is_abort c ≡ false → o ≡ refused_by ρ n f (session_at ρ.sessions n) → Named c o
      → ((s : Session) → o ≡ f s → tells ρ n c (command_if ρ [] s c false).reply ≡ false) → is_told_for_none ρ n (DoCommand c) ≡ false
  told_if c o f other h named by_own = by (session_at ρ.sessions n) refl h
    where
      not_named : (r : Reply) → tells ρ n c r ≡ true → o ≡ Some r → ⊥
      not_named r e g = let no : false ≡ true = sym (subst (Named c) g named) ∙ e in cc

      by_wait : (s : Session) (b : Bool) → is_waiting ρ s.number ≡ b → o ≡ (if b then Some reply.WaitingNow else f s) → tells ρ n c (command_if ρ [] s c (is_waiting ρ s.number && not (is_abort c))).reply ≡ false
      by_wait s true w g = absurd (not_named reply.WaitingNow refl g)
      by_wait s false w g = ap (λ b. tells ρ n c (command_if ρ [] s c (b && not (is_abort c))).reply) w ∙ by_own s g

      by : (x : Option Session) → session_at ρ.sessions n ≡ x → o ≡ refused_by ρ n f x → is_told_for_none ρ n (DoCommand c) ≡ false
      by None e g = absurd (not_named reply.BadSession refl g)
      by (Some s) e g =
          ap (λ (x : Outcome). tells ρ n c x.reply) (at_session ρ [] n (DoCommand c) (Some s) e)
          ∙ by_wait s (is_waiting ρ s.number) refl (g ∙ ap (λ k. if is_waiting ρ k then Some reply.WaitingNow else f s) (sym (found ρ.sessions s n e)))

  pub subscribe_told : (t : List ℕ) (l : Level) (dump : Bool) (o : Option Reply) → o ≡ refused_by ρ n (λ s. subscribe_refusal ρ s t) (session_at ρ.sessions n) → Named (command.Subscribe t l dump) o → is_told_for_none ρ n (DoCommand (command.Subscribe t l dump)) ≡ false
  subscribe_told t l dump o h named = told_if (command.Subscribe t l dump) o (λ s. subscribe_refusal ρ s t) refl h named (λ s g. ap (λ x. tells ρ n (command.Subscribe t l dump) (subscribe_if ρ [] s t l dump x).reply) (sym g) ∙ by s o named)
    where
      by : (s : Session) (x : Option Reply) → Named (command.Subscribe t l dump) x → tells ρ n (command.Subscribe t l dump) (subscribe_if ρ [] s t l dump x).reply ≡ false
      by s None m = refl
      by s (Some r) m = m

  pub unsubscribe_told : (t : List ℕ) (l : Level) (o : Option Reply) → o ≡ refused_by ρ n (unsubscribe_refusal t l) (session_at ρ.sessions n) → Named (command.Unsubscribe t l) o → is_told_for_none ρ n (DoCommand (command.Unsubscribe t l)) ≡ false
  unsubscribe_told t l o h named = told_if (command.Unsubscribe t l) o (unsubscribe_refusal t l) refl h named (λ s g. by s (is_at (level_in s.watching t) l))
    where
      by : (s : Session) (b : Bool) → tells ρ n (command.Unsubscribe t l) (unsubscribe_if ρ [] s t b).reply ≡ false
      by s true = refl
      by s false = refl

  pub schema_told : (c : Schema) → None ≡ refused_by ρ n inside_refusal (session_at ρ.sessions n) → is_told_for_none ρ n (DoCommand (command.Schema c)) ≡ false
  schema_told c h = told_if (command.Schema c) None inside_refusal refl h tt (λ s g. by s.transaction g)
    where
      by : (t : Option Transaction) → None ≡ (if is_some t then Some reply.InTransaction else None) → tells ρ n (command.Schema c) (schema ρ [] c t).reply ≡ false
      by None g = schema_takes ρ n [] c (is_busy ρ (table_of_schema c)) (has_room ρ c)
      by (Some t) g = cc

  -- ---- what refuses a schema command first

  pub schema_refused_first : (c : Schema) (r : Reply) → Some r ≡ refused_by ρ n inside_refusal (session_at ρ.sessions n) → (s' : Stepped) → s' ≡ record { reply = r; entry = None } → StepsTo ρ n (DoCommand (command.Schema c)) s' ρ
  schema_refused_first c r h s' is = let p = by (session_at ρ.sessions n) refl h in ([], p.0, p.1 ∙ (λ i. record { state = ρ; reply = Stepped.reply (sym is i); entry = Stepped.entry (sym is i) }))
    where
      a : Ask
      a = DoCommand (command.Schema c)

      one : {x : Reply} → Some r ≡ Some x → x ≡ r
      one q = cc

      by_wait : (s : Session) (b : Bool) (t : Option Transaction) → s.transaction ≡ t → Some r ≡ (if b then Some reply.WaitingNow else (if is_some t then Some reply.InTransaction else None))
          → ((if b then [] else put_schema ρ c s.transaction) ≡ []) × (command_if ρ [] s (command.Schema c) (b && true) ≡ step_without_entry ρ r)
      by_wait s true t e g = (refl, ap (step_without_entry ρ) (one g))
      by_wait s false None e g = cc
      by_wait s false (Some t) e g = (ap (put_schema ρ c) e, ap (schema ρ [] c) e ∙ ap (step_without_entry ρ) (one g))

      by : (o : Option Session) → session_at ρ.sessions n ≡ o → Some r ≡ refused_by ρ n inside_refusal o → IsSplitByOverflow (put_ask ρ a (session_at ρ.sessions n)) [] × (outcome ρ [] n a ≡ step_without_entry ρ r)
      by None m g = (subst (λ ss. IsSplitByOverflow ss []) (sym (ap (put_ask ρ a) m)) none_handed, at_session ρ [] n a None m ∙ ap (step_without_entry ρ) (one g))
      by (Some s) m g =
          let q = by_wait s (is_waiting ρ s.number) s.transaction refl (g ∙ ap (λ k. if is_waiting ρ k then Some reply.WaitingNow else inside_refusal s) (sym (found ρ.sessions s n m))) in
          (subst (λ ss. IsSplitByOverflow ss []) (sym (ap (put_ask ρ a) m ∙ q.0)) none_handed, at_session ρ [] n a (Some s) m ∙ q.1)

  -- whether it stands in a transaction, by its levels
  shown : (k : ℕ) → k ≡ 0 → 0 < min k (2 ^ 64 - 1) → ⊥
  shown k e h = grind (arith, nat_tests)

  hidden : (k j : ℕ) → k ≡ suc j → min k (2 ^ 64 - 1) ≤ 0 → ⊥
  hidden k j e h = grind (arith, nat_tests)

  pub stands_inside : None ≡ refused_by ρ n (λ s. None) (session_at ρ.sessions n) → 0 < min (levels_of ρ n) (2 ^ 64 - 1) → Some reply.InTransaction ≡ refused_by ρ n inside_refusal (session_at ρ.sessions n)
  stands_inside h deep = by (session_at ρ.sessions n) refl h
    where
      by_open : (b : Bool) (t : Option Transaction) → levels_of ρ n ≡ levels_in ρ t → None ≡ (if b then Some reply.WaitingNow else None) → Some reply.InTransaction ≡ (if b then Some reply.WaitingNow else (if is_some t then Some reply.InTransaction else None))
      by_open true t e g = cc
      by_open false None e g = absurd (shown (levels_of ρ n) e deep)
      by_open false (Some t) e g = refl

      by : (o : Option Session) → session_at ρ.sessions n ≡ o → None ≡ refused_by ρ n (λ s. None) o → Some reply.InTransaction ≡ refused_by ρ n inside_refusal o
      by None e g = cc
      by (Some s) e g = by_open (is_waiting ρ n) s.transaction (ap (λ x. levels_in ρ (transaction_in x)) e) g

  pub stands_outside : None ≡ refused_by ρ n (λ s. None) (session_at ρ.sessions n) → min (levels_of ρ n) (2 ^ 64 - 1) ≤ 0 → None ≡ refused_by ρ n inside_refusal (session_at ρ.sessions n)
  stands_outside h flat = by (session_at ρ.sessions n) refl h
    where
      by_open : (b : Bool) (t : Option Transaction) → levels_of ρ n ≡ levels_in ρ t → None ≡ (if b then Some reply.WaitingNow else None) → None ≡ (if b then Some reply.WaitingNow else (if is_some t then Some reply.InTransaction else None))
      by_open true t e g = cc
      by_open false None e g = refl
      by_open false (Some t) e g = absurd (hidden (levels_of ρ n) (length (mid_of ρ t).saved) e flat)

      by : (o : Option Session) → session_at ρ.sessions n ≡ o → None ≡ refused_by ρ n (λ s. None) o → None ≡ refused_by ρ n inside_refusal o
      by None e g = cc
      by (Some s) e g = by_open (is_waiting ρ n) s.transaction (ap (λ x. levels_in ρ (transaction_in x)) e) g

  -- whom its session refuses, it is refused
  pub refused_by_session : (f : Session → Option Reply) (r : Reply) → Some r ≡ refused_by ρ n (λ s. None) (session_at ρ.sessions n) → Some r ≡ refused_by ρ n f (session_at ρ.sessions n)
  refused_by_session f r h = by (session_at ρ.sessions n) h
    where
      by_wait : (s : Session) (b : Bool) → Some r ≡ (if b then Some reply.WaitingNow else None) → Some r ≡ (if b then Some reply.WaitingNow else f s)
      by_wait s true g = g
      by_wait s false g = cc

      by : (o : Option Session) → Some r ≡ refused_by ρ n (λ s. None) o → Some r ≡ refused_by ρ n f o
      by None g = g
      by (Some s) g = by_wait s (is_waiting ρ n) g
