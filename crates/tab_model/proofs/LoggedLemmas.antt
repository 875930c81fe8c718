-- The part of a tie that each step keeps by itself.
use Rattle.std.proofs.Common.{◌≡◌, ◌≢◌, ℕ, ◌<◌, ◌≤◌, List, [], ◌∷◌, ◌++◌, Bool, true, false, refl, sym, ap, ◌∙◌, subst, arith, append-nil, append_assoc, Some, None}
use Rattle.std.specs.Prelude.{◌==◌, if◌then◌else◌}
use Rattle.tab_model.specs.declared.data.Item.{Item}
use Rattle.tab_model.specs.declared.data.Reply.{Reply}
use Rattle.tab_model.specs.declared.data.Entry.{Entry}
use Rattle.tab_model.specs.Log.{catalog_after, serial, level_after, IsRight, IsLegal, count_after, commits_from}
use Rattle.tab_model.specs.Slices.{expected_items}
use Rattle.tab_model.specs.State.{Session, State, session_at, level_in}
use Rattle.tab_model.specs.Run.{entries, item_of, delivered_by, IsSessionTied, IsNew}
use Rattle.tab_model.specs.Outcome.{Outcome, with_changed}
use Rattle.tab_model.proofs.SessionLists.{eq_true, other_number, session_at-change, serial-push, in_force-push, commits-push, slice-push, legal-push}

-- a state is what the log says of its tables, its commits and its sessions
pub record IsLogged (σ : State) (log : List Entry) (taken : ℕ → List Item) : Type 0 where
  pub tables : σ.tables ≡ serial log
  pub legal : IsLegal [] 0 log
  pub commits : σ.commits ≡ commits_from 0 log
  pub sessions : (n : ℕ) (s : Session) → session_at σ.sessions n ≡ Some s → IsSessionTied n s log (taken n)
  pub fresh : (n : ℕ) → σ.greatest < n → IsNew n log (taken n)

-- what all steps do to the items taken
abbrev pub kept : ℕ → (ℕ → List Item) → Reply → ℕ → List Item
kept n tk r m = tk m ++ delivered_by m n r

pub none_taken : (tk : ℕ → List Item) (n : ℕ) (r : Reply) → item_of r ≡ [] → (m : ℕ) → tk m ≡ kept n tk r m
none_taken tk n r h m = sym (append-nil (tk m)) ∙ ap (λ xs. tk m ++ xs) (none (m == n))
  where
    none : (b : Bool) → [] ≡ (if b then item_of r else [])
    none true = sym h
    none false = refl

-- the outcome of a step of one session keeps the tie
abbrev pub Ties : ℕ → List Entry → (ℕ → List Item) → Outcome → Type 0
Ties n log tk o = IsLogged o.state (log ++ entries o.entry) (kept n tk o.reply)

-- a step without an entry
pub quiet_tied : (σ τ : State) (log : List Entry) (tk tk' : ℕ → List Item) → IsLogged σ log tk
    → τ.tables ≡ σ.tables → τ.commits ≡ σ.commits → σ.greatest ≤ τ.greatest
    → ((q : ℕ) (r : Session) → session_at τ.sessions q ≡ Some r → IsSessionTied q r log (tk' q))
    → ((q : ℕ) → τ.greatest < q → tk q ≡ tk' q)
    → IsLogged τ (log ++ []) tk'
quiet_tied σ τ log tk tk' t ts cs le sessions same =
    subst (λ (l : List Entry). IsLogged τ l tk') (sym (append-nil log)) (record {
      tables = ts ∙ t.tables;
      legal = t.legal;
      commits = cs ∙ t.commits;
      sessions = sessions;
      fresh = λ q h. subst (λ (xs : List Item). IsNew q log xs) (same q h) (t.fresh q (omega arith));
    })

-- how a session moves in a step with an entry
pub record Moves (q : ℕ) (log : List Entry) (e : Entry) (x r : Session) : Type 0 where
  pub watching : (u : List ℕ) → level_in r.watching u ≡ level_after q u (level_in x.watching u) e
  pub items : r.outbox.items ≡ x.outbox.items ++ expected_items q log e

-- a step with an entry
pub entry_tied : (σ τ : State) (log : List Entry) (tk tk' : ℕ → List Item) (e : Entry) → IsLogged σ log tk
    → τ.tables ≡ catalog_after σ.tables e → τ.commits ≡ count_after σ.commits e → τ.greatest ≡ σ.greatest
    → IsRight σ.tables σ.commits e
    → ((q : ℕ) (r : Session) → session_at τ.sessions q ≡ Some r → (x : Session) × (session_at σ.sessions q ≡ Some x) × Moves q log e x r)
    → ((q : ℕ) → σ.greatest < q → ((u : List ℕ) → level_after q u None e ≡ None) × (expected_items q log e ≡ []))
    → ((q : ℕ) → tk q ≡ tk' q)
    → IsLogged τ (log ++ e ∷ []) tk'
entry_tied σ τ log tk tk' e t ts cs gs right sessions new same = record {
  tables = ts ∙ ap (λ w. catalog_after w e) t.tables ∙ sym (serial-push [] log e);
  legal = legal-push [] 0 log e t.legal (subst (λ w. IsRight w (commits_from 0 log) e) t.tables (subst (λ (c : ℕ). IsRight σ.tables c e) t.commits right));
  commits = cs ∙ ap (λ c. count_after c e) t.commits ∙ sym (commits-push 0 log e);
  sessions = λ q r f. let m = sessions q r f in tied q m.0 r (t.sessions q m.0 m.1) m.2;
  fresh = λ q h. let n = t.fresh q (subst (λ g. g < q) gs h) in let m = new q (subst (λ g. g < q) gs h) in record {
    watching = λ u. in_force-push q u None log e ∙ ap (λ b. level_after q u b e) (n.watching u) ∙ m.0 u;
    expected = slice-push q log e ∙ (λ i. n.expected i ++ m.1 i);
    taken_none = sym (same q) ∙ n.taken_none;
  };
}
  where
    tied : (q : ℕ) (x r : Session) → IsSessionTied q x log (tk q) → Moves q log e x r → IsSessionTied q r (log ++ e ∷ []) (tk' q)
    tied q x r a m = record {
      watching = λ u. m.watching u ∙ ap (λ b. level_after q u b e) (a.watching u) ∙ sym (in_force-push q u None log e);
      items = ap (λ xs. xs ++ r.outbox.items) (sym (same q)) ∙ ap (λ ys. tk q ++ ys) m.items ∙ sym (append_assoc (tk q) x.outbox.items (expected_items q log e)) ∙ ap (λ ys. ys ++ expected_items q log e) a.items ∙ sym (slice-push q log e);
    }

-- which session is found after one is changed
pub changed_some : (sessions : List Session) (s old : Session) (q : ℕ) (r : Session) (P : ℕ → Session → Type 0) → session_at sessions s.number ≡ Some old → session_at (with_changed sessions s) q ≡ Some r
    → P s.number s → ((q' : ℕ) → q' ≢ s.number → (z : Session) → session_at sessions q' ≡ Some z → P q' z) → P q r
changed_some sessions s old q r P here e mine others = cases (q == s.number) refl (sym (session_at-change sessions s old q here) ∙ e)
  where
    cases : (b : Bool) → (q == s.number) ≡ b → (if b then Some s else session_at sessions q) ≡ Some r → P q r
    cases true f g = let h : s ≡ r = cc in subst (λ (k : ℕ). P k r) (sym (eq_true q s.number f)) (subst (λ (z : Session). P s.number z) h mine)
    cases false f g = others q (other_number q s.number f) r g
