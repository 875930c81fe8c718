-- Each step keeps the state tied to its log and to what its sessions have taken.
use Rattle.std.proofs.Common.{◌≡◌, ℕ, ◌<◌, List, [], ◌++◌, Bool, true, false, refl, sym, ap, ◌∙◌, subst, arith, append-nil, append_assoc, Option, Some, None}
use Rattle.std.specs.Prelude.{◌==◌, if◌then◌else◌}
use Rattle.tab_model.specs.declared.data.Item.{Item}
use Rattle.tab_model.specs.declared.data.Entry.{Entry}
use Rattle.tab_model.specs.declared.data.Limits.{Limits}
use Rattle.tab_model.specs.Catalogs.{Catalog}
use Rattle.tab_model.specs.Slices.{slice, slice_after}
use Rattle.tab_model.specs.Since.{AllWereInForce, AllAged}
use Rattle.tab_model.specs.State.{Session, State, new, session_at, IsSound}
use Rattle.tab_model.specs.Reached.{AreAged}
use Rattle.tab_model.specs.Outcome.{Ask, Outcome, outcome}
use Rattle.tab_model.specs.Run.{entries, item_of, delivered_by, JoinsEmpty, Begins, IsTied}
use Rattle.tab_model.proofs.SessionLists.{eq_true}
use Rattle.tab_model.proofs.LoggedLemmas.{IsLogged}
use Rattle.tab_model.proofs.LoggedSteps.{step_logged}
use Rattle.tab_model.proofs.ChannelReplies.{item_stays}
use Rattle.tab_model.proofs.ItemsTellTheChanges.{slice_parts}
use Rattle.tab_model.proofs.PositiveAges.{step_ripe, aged_more}
use Rattle.tab_model.proofs.SubscribedTables.{Stood, step_stood, stood_more, rows_since}

pub logged : (σ : State) (log : List Entry) (taken : ℕ → List Item) → IsTied σ log taken → IsLogged σ log taken
logged σ log taken t = record { tables = t.tables; legal = t.legal; commits = t.commits; sessions = t.sessions; fresh = t.fresh }

-- what was taken stays a beginning of what a longer log owes
begins_more : (n : ℕ) (xs : List Item) (log more : List Entry) → Begins xs (slice n log) → Begins (xs ++ []) (slice n (log ++ more))
begins_more n xs log more b = record {
  rest = b.rest ++ slice_after n log more;
  is = ap (λ ys. ys ++ (b.rest ++ slice_after n log more)) (append-nil xs) ∙ sym (append_assoc xs b.rest (slice_after n log more)) ∙ ap (λ ys. ys ++ slice_after n log more) b.is ∙ sym (slice_parts n log more);
}

-- who isn't joined after a step was given nothing by it
none_given : (σ : State) (over : List ℕ) (n : ℕ) (a : Ask) (m : ℕ) → session_at (outcome σ over n a).state.sessions m ≡ None → [] ≡ delivered_by m n (outcome σ over n a).reply
none_given σ over n a m gone = by (m == n) refl
  where
    by : (b : Bool) → (m == n) ≡ b → [] ≡ (if b then item_of (outcome σ over n a).reply else [])
    by true e = sym (item_stays σ over n a (ap (session_at (outcome σ over n a).state.sessions) (sym (eq_true m n e)) ∙ gone))
    by false e = refl

-- what rests on the log and on who sits
whole : (τ : State) (log : List Entry) (taken : ℕ → List Item) → IsLogged τ log taken → ((n : ℕ) → session_at τ.sessions n ≡ None → Begins (taken n) (slice n log)) → AllWereInForce [] log → AllAged log → AreAged τ.sessions → 0 < τ.next_age → IsTied τ log taken
whole τ log taken l gone stood aged ages next = record {
  tables = l.tables;
  legal = l.legal;
  commits = l.commits;
  sessions = l.sessions;
  fresh = l.fresh;
  begun = λ n. by n (session_at τ.sessions n) refl;
  since = rows_since τ log taken l stood aged;
  stood = stood;
  aged = aged;
  ages = ages;
  next_age = next;
}
  where
    by : (n : ℕ) (o : Option Session) → session_at τ.sessions n ≡ o → Begins (taken n) (slice n log)
    by n None e = gone n e
    by n (Some s) e = record { rest = s.outbox.items; is = (l.sessions n s e).items }

pub new_tied : (limits : Limits) → IsTied (new limits) [] (λ m. [])
new_tied limits = record {
  tables = refl;
  legal = tt;
  commits = refl;
  sessions = λ n s e. cc;
  fresh = λ n h. record { watching = λ t. refl; expected = refl; taken_none = refl };
  begun = λ n. record { rest = []; is = refl };
  since = λ n s t l e h. cc;
  stood = tt;
  aged = tt;
  ages = tt;
  next_age = omega arith;
}

pub step_tied : (σ : State) (log : List Entry) (taken : ℕ → List Item) (over : List ℕ) (n : ℕ) (a : Ask) → IsSound σ → JoinsEmpty a → IsTied σ log taken
    → IsTied (outcome σ over n a).state (log ++ entries (outcome σ over n a).entry) (λ m. taken m ++ delivered_by m n (outcome σ over n a).reply)
step_tied σ log taken over n a sound empty t =
    let o : Outcome = outcome σ over n a in
    let ripe = step_ripe σ over n a (record { next = t.next_age; sessions = t.ages }) in
    whole o.state (log ++ entries o.entry) (λ m. taken m ++ delivered_by m n o.reply)
    (step_logged σ log taken over n a sound empty (logged σ log taken t))
    (λ m gone. subst (λ (xs : List Item). Begins (taken m ++ xs) (slice m (log ++ entries o.entry))) (none_given σ over n a m gone) (begins_more m (taken m) log (entries o.entry) (t.begun m)))
    (stood_more [] log o.entry t.stood (subst (λ (w : Catalog). Stood w o.entry) t.tables (step_stood σ over n a)))
    (aged_more log o.entry t.aged ripe.entry)
    ripe.state.sessions
    ripe.state.next
