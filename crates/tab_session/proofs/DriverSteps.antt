-- What a command that a one-shot's driver hands in does to the levels of its session, and that it takes no item.
use Rattle.std.proofs.Common.{◌≡◌, ℕ, zero, suc, ◌≤◌, List, [], ◌∷◌, Bool, true, false, ◌&&◌, length, refl, sym, ap, subst, ◌∙◌, inl, inr, arith, ◌⊎◌, Option, Some, None}
use Rattle.std.proofs.Math.Bool.{and-false}
use Rattle.std.specs.Prelude.{◌==◌, if◌then◌else◌, is_some}
use Rattle.tab_term.specs.declared.term.Term.{Term}
use Rattle.tab_model.specs.declared.data.Operation.{Operation}
use Rattle.tab_model.specs.declared.data.Move.{Move}
use Rattle.tab_model.specs.declared.data.Move.TheVariants.{Do, Open, Close, Undo}
use Rattle.tab_model.specs.declared.data.Command.{Command}
use Rattle.tab_model.specs.declared.data.Command.TheVariants as command
use Rattle.tab_model.specs.declared.data.Part.{Part}
use Rattle.tab_model.specs.declared.data.Reply.{Reply}
use Rattle.tab_model.specs.declared.data.Reply.TheVariants as reply
use Rattle.tab_model.specs.declared.data.Limit.TheVariants as limit
use Rattle.tab_model.specs.Catalogs.{Catalog, find}
use Rattle.tab_model.specs.Operations.{table_of, failure}
use Rattle.tab_model.specs.Ages.{Answer, Granted, Wait, Die}
use Rattle.tab_model.specs.Alone.{Mid, next, back, back_to, without_innermost, reply_to, start}
use Rattle.tab_model.specs.State.{Transaction, Session, State, session_at, transaction_at, transaction_in, mid_of, is_waiting, without_request}
use Rattle.tab_model.specs.declared.ask.Ask.TheVariants.{Do as DoCommand}
use Rattle.tab_model.specs.Outcome.{Outcome, outcome, with_changed, with_transaction, with_queue, ends_transaction, make, is_empty, by_lock_answer, operate, begin, one_shot, abort, commit, do_command, step_of}
use Rattle.tab_model.proofs.StepCases.{after_move, within_limit, open_level_1, open_child, commit_at, command_if}
use Rattle.tab_model.specs.Run.{item_of}
use Rattle.tab_model.proofs.SessionLists.{found, session_at-change, itself}
use Rattle.tab_model.proofs.OperationAnswers.{answers}
use Rattle.tab_model.proofs.RefusalLaws.{after-more}
use Rattle.tab_oneshot.specs.declared.answer.Sort.{Sort}
use Rattle.tab_oneshot.specs.declared.answer.Sort.TheVariants as sort
use Rattle.tab_oneshot.specs.Attempts.{sort_of}
use Rattle.tab_oneshot.proofs.LastReplies.{is_handed}

-- ---- the levels

abbrev pub less_one : ℕ → ℕ
less_one zero = zero
less_one (suc n) = n

abbrev pub depth_in : State → Option Transaction → ℕ
depth_in σ None = 0
depth_in σ (Some t) = suc (length (mid_of σ t).saved)

-- how many levels a session has open
abbrev pub depth : State → ℕ → ℕ
depth σ n = depth_in σ (transaction_at σ n)

-- what an answer says of them
abbrev pub Deepens : Sort → ℕ → ℕ → Type 0
Deepens sort.Answered d e = e ≡ d
Deepens sort.Failed d e = e ≡ less_one d
Deepens sort.Aborted d e = e ≡ less_one d
Deepens sort.Opened d e = e ≡ suc d
Deepens sort.Joined d e = e ≡ less_one d
Deepens sort.Committed d e = Unit {0}
Deepens sort.Restarted d e = e ≡ 1
Deepens sort.Waits d e = e ≡ d
Deepens sort.Refused d e = e ≡ d
Deepens sort.Other d e = Unit {0}

-- the same of a step, and that its reply gives no item
record Steps (n d : ℕ) (o : Outcome) : Type 0 where
  pub levels : Deepens (sort_of o.reply) d (depth o.state n)
  pub item : item_of o.reply ≡ []

-- ---- moves

-- whether an operation fails is what its answer says
abbrev Tells : Option Reply → Reply → Type 0
Tells f r = ((is_some f ≡ true) × (sort_of r ≡ sort.Failed) ⊎ (is_some f ≡ false) × (sort_of r ≡ sort.Answered)) × (item_of r ≡ [])

back_levels : (t : Transaction) (x : Move) (r : Option Reply) (σ : State) (ws : List Catalog) → (mid_of σ t).saved ≡ ws → next (mid_of σ t) x ≡ back (mid_of σ t)
    → depth_in σ (after_move t x r (is_empty ws)) ≡ length ws
back_levels t x r σ [] e f = refl
back_levels t x r σ (w ∷ ws) e f = ap (λ (k : Mid). suc (length k.saved)) (after-more (start σ.tables t.age) t.moves x ∙ f) ∙ ap (λ vs. suc (length (back_to (mid_of σ t) vs).saved)) e

on_levels : (t : Transaction) (x : Move) (r : Option Reply) (σ : State) (m : Mid) → next (mid_of σ t) x ≡ m → depth_in σ (after_move t x r false) ≡ suc (length m.saved)
on_levels t x r σ m e = ap (λ (k : Mid). suc (length k.saved)) (after-more (start σ.tables t.age) t.moves x ∙ e)

pub if_true : {A : Type 0} (b : Bool) (x y : A) → b ≡ true → (if b then x else y) ≡ x
if_true true x y e = refl
if_true false x y e = cc

pub if_false : {A : Type 0} (b : Bool) (x y : A) → b ≡ false → (if b then x else y) ≡ y
if_false true x y e = cc
if_false false x y e = refl

module _ (σ : State) (n : ℕ) (s : Session) (here : session_at σ.sessions n ≡ Some s) where
  pub placed : (o : Option Transaction) → transaction_in (session_at (with_changed σ.sessions (with_transaction s o)) n) ≡ o
  placed o = ap transaction_in
      (session_at-change σ.sessions (with_transaction s o) s n (ap (session_at σ.sessions) (found σ.sessions s n here) ∙ here)
      ∙ ap (λ b. if b then Some (with_transaction s o) else session_at σ.sessions n) (ap (λ m. n == m) (found σ.sessions s n here) ∙ itself n))

  -- what a move leaves of the levels is what the tables and the moves say
  moved : (t : Transaction) (x : Move) (r : Reply) (d : ℕ) → Deepens (sort_of (make σ s t x r).reply) d (depth_in σ (after_move t x (reply_to (mid_of σ t) x) (ends_transaction (mid_of σ t) x)))
      → Deepens (sort_of (make σ s t x r).reply) d (depth (make σ s t x r).state n)
  moved t x r d h = subst (λ (o : Option Transaction). Deepens (sort_of (make σ s t x r).reply) d (depth_in σ o)) (sym (placed _)) h

  operated : (t : Transaction) (o : Operation) → Steps n (depth_in σ (Some t)) (make σ s t (Do o) reply.Done)
  operated t o = by_failure (answers Tells (record { no_table = λ u. (inl (refl, refl), refl); bad_type = λ u r. (inl (refl, refl), refl); no_index = λ u a. (inl (refl, refl), refl); found = λ rs. (inr (refl, refl), refl); done = (inr (refl, refl), refl) }) (find (mid_of σ t).now (table_of o)) o)
    where
      m : Mid
      m = mid_of σ t

      told_now : Option Reply
      told_now = reply_to m (Do o)

      by_failure : Tells (failure m.now o) (make σ s t (Do o) reply.Done).reply → Steps n (depth_in σ (Some t)) (make σ s t (Do o) reply.Done)
      by_failure (inl (fails, is), item) = record {
        levels = moved t (Do o) reply.Done _ (subst (λ k. Deepens k (suc (length m.saved)) (depth_in σ (after_move t (Do o) told_now (ends_transaction m (Do o))))) (sym is)
            (ap (λ b. depth_in σ (after_move t (Do o) told_now (b && is_empty m.saved))) fails ∙ back_levels t (Do o) told_now σ m.saved refl (if_true (is_some (failure m.now o)) _ _ fails)));
        item = item;
      }
      by_failure (inr (fits, is), item) = record {
        levels = moved t (Do o) reply.Done _ (subst (λ k. Deepens k (suc (length m.saved)) (depth_in σ (after_move t (Do o) told_now (ends_transaction m (Do o))))) (sym is)
            (ap (λ b. depth_in σ (after_move t (Do o) told_now (b && is_empty m.saved))) fits ∙ on_levels t (Do o) told_now σ _ (if_false (is_some (failure m.now o)) _ _ fits)));
        item = item;
      }

  begun : (t : Transaction) → Steps n (depth_in σ (Some t)) (make σ s t Open reply.Done)
  begun t = record { levels = moved t Open reply.Done (depth_in σ (Some t)) (on_levels t Open (reply_to (mid_of σ t) Open) σ _ refl); item = refl }

  joined : (t : Transaction) (ws : List Catalog) → (mid_of σ t).saved ≡ ws → is_empty ws ≡ false → Steps n (depth_in σ (Some t)) (make σ s t Close reply.Done)
  joined t [] e f = cc
  joined t (w ∷ ws) e f = record {
    levels = moved t Close reply.Done (depth_in σ (Some t)) (on_levels t Close (reply_to (mid_of σ t) Close) σ _ refl ∙ ap (λ vs. suc (length (without_innermost vs))) e ∙ sym (ap length e));
    item = refl;
  }

  undone : (t : Transaction) (r : Term) → Steps n (depth_in σ (Some t)) (make σ s t Undo (reply.UserAbort r))
  undone t r = record { levels = moved t Undo (reply.UserAbort r) (depth_in σ (Some t)) (back_levels t Undo (reply_to (mid_of σ t) Undo) σ (mid_of σ t).saved refl refl); item = refl }

-- ---- commands

quiet : (σ : State) (n : ℕ) (o : Option Transaction) (r : Reply) → transaction_at σ n ≡ o → Deepens (sort_of r) (depth_in σ o) (depth_in σ o) → item_of r ≡ [] → Steps n (depth_in σ o) (record { state = σ; reply = r; entry = None })
quiet σ n o r e h item = record { levels = subst (λ (x : Option Transaction). Deepens (sort_of r) (depth_in σ o) (depth_in σ x)) (sym e) h; item = item }

module _ (σ : State) (over : List ℕ) (n : ℕ) (s : Session) (here : session_at σ.sessions n ≡ Some s) where
  opened_steps : (b : Bool) → s.transaction ≡ None → Steps n 0 (open_level_1 σ s b)
  opened_steps false e = quiet σ n None (reply.SystemLimit limit.Ages) (ap transaction_in here ∙ e) refl refl
  opened_steps true e = record { levels = ap (depth_in σ) (placed σ n s here _); item = refl }

  nested_steps : (t : Transaction) (a b : Bool) → s.transaction ≡ Some t → Steps n (depth_in σ (Some t)) (open_child σ s t a b)
  nested_steps t false b e = quiet σ n (Some t) _ (ap transaction_in here ∙ e) refl refl
  nested_steps t true false e = quiet σ n (Some t) _ (ap transaction_in here ∙ e) refl refl
  nested_steps t true true e = begun σ n s here t

  begin_steps : (o : Option Transaction) → s.transaction ≡ o → Steps n (depth_in σ o) (begin σ s o)
  begin_steps None e = opened_steps _ e
  begin_steps (Some t) e = nested_steps t _ _ e

  one_shot_steps : (o : Option Transaction) → s.transaction ≡ o → Steps n (depth_in σ o) (one_shot σ s o)
  one_shot_steps None e = opened_steps _ e
  one_shot_steps (Some t) e = quiet σ n (Some t) _ (ap transaction_in here ∙ e) tt refl

  abort_steps : (r : Term) (o : Option Transaction) → s.transaction ≡ o → Steps n (depth_in σ o) (abort σ s r o)
  abort_steps r None e = quiet σ n None _ (ap transaction_in here ∙ e) tt refl
  abort_steps r (Some t) e = undone (with_queue σ (without_request σ.queue s.number)) n s here t r

  commit_at_steps : (t : Transaction) (b : Bool) → is_empty (mid_of σ t).saved ≡ b → Steps n (depth_in σ (Some t)) (commit_at σ over s t b)
  commit_at_steps t false e = joined σ n s here t (mid_of σ t).saved refl e
  commit_at_steps t true e = record { levels = tt; item = refl }

  commit_steps : (o : Option Transaction) → s.transaction ≡ o → Steps n (depth_in σ o) (commit σ over s o)
  commit_steps None e = quiet σ n None _ (ap transaction_in here ∙ e) tt refl
  commit_steps (Some t) e = commit_at_steps t _ refl

  decided_steps : (t : Transaction) (o : Operation) (a : Answer) → s.transaction ≡ Some t → Steps n (depth_in σ (Some t)) (by_lock_answer σ s t o a)
  decided_steps t o Granted e = operated σ n s here t o
  decided_steps t o Wait e = record { levels = ap (depth_in σ) (ap transaction_in here ∙ e); item = refl }
  decided_steps t o Die e = record { levels = ap (depth_in σ) (placed σ n s here _); item = refl }

  within_steps : (t : Transaction) (o : Operation) (b : Bool) → s.transaction ≡ Some t → Steps n (depth_in σ (Some t)) (within_limit σ s t o b)
  within_steps t o false e = quiet σ n (Some t) _ (ap transaction_in here ∙ e) refl refl
  within_steps t o true e = decided_steps t o _ e

  operate_steps : (x : Operation) (o : Option Transaction) → s.transaction ≡ o → Steps n (depth_in σ o) (operate σ s x o)
  operate_steps x None e = quiet σ n None _ (ap transaction_in here ∙ e) tt refl
  operate_steps x (Some t) e = within_steps t x _ e

  do_steps : (c : Command) → is_handed c ≡ true → Steps n (depth_in σ s.transaction) (do_command σ over s c)
  do_steps command.Begin h = begin_steps s.transaction refl
  do_steps command.Commit h = commit_steps s.transaction refl
  do_steps (command.Abort r) h = abort_steps r s.transaction refl
  do_steps (command.Do o) h = operate_steps o s.transaction refl
  do_steps (command.OneShot parts retries) h = one_shot_steps s.transaction refl
  do_steps c h = cc

  command_steps : (c : Command) (b : Bool) → is_handed c ≡ true → Steps n (depth_in σ s.transaction) (command_if σ over s c b)
  command_steps c true h = quiet σ n s.transaction _ (ap transaction_in here) tt refl
  command_steps c false h = do_steps c h

steps : (σ : State) (over : List ℕ) (n : ℕ) (c : Command) → is_handed c ≡ true → Steps n (depth σ n) (outcome σ over n (DoCommand c))
unfolding outcome
steps σ over n c h = cases (session_at σ.sessions n) refl
  where
    cases : (x : Option Session) → session_at σ.sessions n ≡ x → Steps n (depth_in σ (transaction_in x)) (step_of σ over n (DoCommand c) x)
    cases None e = quiet σ n None _ (ap transaction_in e) tt refl
    cases (Some s) e = command_steps σ over n s e c _ h

pub deepens : (σ : State) (over : List ℕ) (n : ℕ) (c : Command) → is_handed c ≡ true → Deepens (sort_of (outcome σ over n (DoCommand c)).reply) (depth σ n) (depth (outcome σ over n (DoCommand c)).state n)
deepens σ over n c h = (steps σ over n c h).levels

pub no_item : (σ : State) (over : List ℕ) (n : ℕ) (c : Command) → is_handed c ≡ true → item_of (outcome σ over n (DoCommand c)).reply ≡ []
no_item σ over n c h = (steps σ over n c h).item

-- an abort of an open level is answered so
pub aborts : (σ : State) (over : List ℕ) (n : ℕ) (r : Term) → 1 ≤ depth σ n → (outcome σ over n (DoCommand (command.Abort r))).reply ≡ reply.UserAbort r
unfolding outcome
aborts σ over n r open_now = cases (session_at σ.sessions n) refl open_now
  where
    by_transaction : (s : Session) (o : Option Transaction) → 1 ≤ depth_in σ o → (abort σ s r o).reply ≡ reply.UserAbort r
    by_transaction s None h = absurd (omega arith)
    by_transaction s (Some t) h = refl

    by_wait : (s : Session) (b : Bool) → b ≡ false → 1 ≤ depth_in σ s.transaction → (command_if σ over s (command.Abort r) b).reply ≡ reply.UserAbort r
    by_wait s true e h = cc
    by_wait s false e h = by_transaction s s.transaction h

    cases : (x : Option Session) → session_at σ.sessions n ≡ x → 1 ≤ depth_in σ (transaction_in x) → (step_of σ over n (DoCommand (command.Abort r)) x).reply ≡ reply.UserAbort r
    cases None e h = absurd (omega arith)
    cases (Some s) e h = by_wait s _ (and-false (is_waiting σ s.number)) h

abbrev OpensOne : Sort → ℕ → Type 0
OpensOne sort.Opened d = d ≡ 1
OpensOne s d = Unit {0}

-- a one-shot that is taken opens level 1
pub opens : (σ : State) (over : List ℕ) (n : ℕ) (parts : List Part) (retries : ℕ) → sort_of (outcome σ over n (DoCommand (command.OneShot parts retries))).reply ≡ sort.Opened → depth (outcome σ over n (DoCommand (command.OneShot parts retries))).state n ≡ 1
unfolding outcome
opens σ over n parts retries is = subst (λ (k : Sort). OpensOne k (depth (step_of σ over n (DoCommand (command.OneShot parts retries)) (session_at σ.sessions n)).state n)) is (cases (session_at σ.sessions n) refl)
  where
    by_room : (s : Session) (b : Bool) → session_at σ.sessions n ≡ Some s → OpensOne (sort_of (open_level_1 σ s b).reply) (depth (open_level_1 σ s b).state n)
    by_room s false e = tt
    by_room s true e = ap (depth_in σ) (placed σ n s e _)

    by_transaction : (s : Session) (o : Option Transaction) → session_at σ.sessions n ≡ Some s → OpensOne (sort_of (one_shot σ s o).reply) (depth (one_shot σ s o).state n)
    by_transaction s None e = by_room s _ e
    by_transaction s (Some t) e = tt

    by_wait : (s : Session) (b : Bool) → session_at σ.sessions n ≡ Some s → OpensOne (sort_of (command_if σ over s (command.OneShot parts retries) b).reply) (depth (command_if σ over s (command.OneShot parts retries) b).state n)
    by_wait s true e = tt
    by_wait s false e = by_transaction s s.transaction e

    cases : (x : Option Session) → session_at σ.sessions n ≡ x → OpensOne (sort_of (step_of σ over n (DoCommand (command.OneShot parts retries)) x).reply) (depth (step_of σ over n (DoCommand (command.OneShot parts retries)) x).state n)
    cases None e = tt
    cases (Some s) e = by_wait s _ e
