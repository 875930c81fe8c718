-- An outermost commit and a schema command before anything is put: the tables change, and no other session does.
use Rattle.std.proofs.Common.{◌≡◌, ◌≢◌, ℕ, ◌+◌, ◌<◌, ◌≤◌, List, [], ◌∷◌, false, ◌||◌, refl, sym, ap, ◌∙◌, subst, arith, length, Option, Some, None, set}
use Rattle.std.specs.Prelude.{map, option_map}
use Rattle.std.specs.List.{list_any}
use Rattle.std.specs.Str.{bytes_eq}
use Rattle.std.proofs.lemmas.Bool.{or_parts}
use Rattle.std.proofs.lemmas.List.{length-set}
use Rattle.std.proofs.lemmas.List.Folds.{list_any-append}
use Rattle.tab_locks.specs.Members.{SameMembers}
use Rattle.tab_model.specs.declared.data.Schema.{Schema}
use Rattle.tab_model.specs.Ages.{Owned, without}
use Rattle.tab_model.specs.Events.{surviving_changes, change_all}
use Rattle.tab_model.specs.Locks.{Lock, locks_of, Apart}
use Rattle.tab_model.specs.Schemas.{table_of_schema, schema_effect}
use Rattle.tab_model.specs.Catalogs.{Catalog}
use Rattle.tab_model.specs.State as plain
use Rattle.tab_model.specs.State.{Session, State, session_at, transaction_at, moves_at, level_in, with_age, locks_held_by, locks_held_in, locks_queued_in, is_in, is_busy, mid_of, IsSound}
use Rattle.tab_model.proofs.StepsBySession.{held_none}
use Rattle.tab_model.proofs.SurvivorsRight.{survivors_are}
use Rattle.tab_txstore.specs.Stores.{Fits}
use Rattle.tab_txstore.proofs.FitsLemmas.{fits_stays, fits_schema, updates_survive}
use Rattle.tab_core.specs.declared.transaction.Transaction as kept
use Rattle.tab_core.specs.Outermost.{after_commit}
use Rattle.tab_core.specs.Kept.{opens, count_open, Agree, IsKept}
use Rattle.tab_core.proofs.Places.{at_of}
use Rattle.tab_core.proofs.Keeping as keep
use Rattle.tab_core.proofs.Keeping.{ended, the_session}
use Rattle.tab_subs.specs.Subscribers.{IsHeldAt, at}
use Rattle.tab_core.specs.Joined.{Subscriber}
use Rattle.tab_core.specs.Parts.{Parts, queued_of, session_of, state_of, transaction_in, transaction_of}

-- ---- an outermost commit

module _ (m : Parts) (n i : ℕ) (k : IsKept m) (there : IsHeldAt m.sessions n i) (t : kept.Transaction) (open_t : (the_session m n i).transaction ≡ Some t) where
  abbrev s : Subscriber
  s = the_session m n i

  abbrev σ : State
  σ = state_of m

  -- its updates make the tables that it leaves
  pub tables_after : change_all m.catalog t.store.levels.now.updates ≡ (mid_of σ (transaction_of t)).now
  tables_after =
      ap (change_all m.catalog) (updates_survive t.store m.catalog (keep.fit m n i k there t open_t) ∙ ap (surviving_changes t.store.moves) (sym (keep.right m n i k there t open_t)))
      ∙ survivors_are m.catalog t.age t.store.moves

  pub commits : (w : Catalog) → w ≡ change_all m.catalog t.store.levels.now.updates
      → record (state_of m) { tables = w; sessions = map session_of (set m.sessions i (ended s)); commits = m.commits + 1 } ≡ after_commit σ (session_of s) (transaction_of t)
  commits w is = λ j. record (state_of m) {
    tables = (is ∙ tables_after) j;
    sessions = keep.seats' m n i k there (ended s) refl j;
    commits = m.commits + 1;
  }

  -- who else is open still fits
  pub others_fit : (q : ℕ) (u : kept.Transaction) → q ≢ n → transaction_in (at m.sessions q) ≡ Some u → Fits u.store (mid_of σ (transaction_of t)).now
  others_fit q u differ h =
      let mine_u : transaction_at σ q ≡ Some (transaction_of u) = ap plain.transaction_in (at_of m.sessions q) ∙ step_of (at m.sessions q) h in
      fits_stays u.store m.catalog t.age t.store.moves k.sound.ordered
      (subst (λ (o : Option plain.Transaction). Apart (locks_of (plain.moves_in o)) (locks_of u.store.moves)) (keep.mine m n i k there t open_t)
      (subst (λ (o : Option plain.Transaction). Apart (locks_of (moves_at σ n)) (locks_of (plain.moves_in o))) mine_u (k.sound.apart n q (λ e. differ (sym e)))))
      (k.agree.fits q u h)
    where
      step_of : (o : Option Subscriber) → transaction_in o ≡ Some u → plain.transaction_in (option_map session_of o) ≡ Some (transaction_of u)
      step_of None g = cc
      step_of (Some x) g = ap (option_map transaction_of) g

  pub commit_agrees : (m' : Parts) → m'.catalog ≡ change_all m.catalog t.store.levels.now.updates → m'.sessions ≡ set m.sessions i (ended s) → m'.limits ≡ m.limits → m'.begun ≡ m.begun → m'.commits ≡ m.commits + 1
      → m'.ages.held ≡ without t.age m.ages.held → m'.ages.queue ≡ locks_queued_in (map queued_of m'.queue.items) → Agree m'
  commit_agrees m' catalog sessions limits begun committed held queue = record {
    held = subst (λ ss. SameMembers (locks_held_in (map session_of ss)) m'.ages.held) (sym sessions) (subst (SameMembers (locks_held_in (map session_of (set m.sessions i (ended s))))) (sym held) (keep.no_locks m n i k there (ended s) refl t open_t refl));
    queue = queue;
    fits = λ q u h. subst (Fits u.store) (sym (catalog ∙ tables_after)) (keep.fits' m n i k there (ended s) refl (mid_of σ (transaction_of t)).now others_fit (λ v g. none_open v g) q u (ap (λ ss. transaction_in (at ss q)) (sym sessions) ∙ h));
    ages = subst (λ (l : Rattle.tab_model.specs.declared.data.Limits.Limits). m'.begun ≤ l.ages) (sym limits) (let a = k.agree.ages in omega (arith, a, begun));
    counted = subst (λ ss. m'.commits + count_open ss ≤ m'.begun) (sym sessions)
        (let c = keep.counts' m n i k there (ended s) refl in let d = k.agree.counted in let e : opens s.transaction ≡ 1 = ap opens open_t in omega (arith, c, d, e, begun, committed));
    word = subst (λ (l : Rattle.tab_model.specs.declared.data.Limits.Limits). l.ages < 18446744073709551616) (sym limits) k.agree.word;
    sessions = subst (λ (l : Rattle.tab_model.specs.declared.data.Limits.Limits). l.sessions ≤ 64) (sym limits) k.agree.sessions;
    room = subst (λ ss. length ss ≤ 64) (sym sessions) (subst (λ l. l ≤ 64) (sym (length-set m.sessions i (ended s))) k.agree.room);
  }
    where
      none_open : (v : kept.Transaction) → None ≡ Some v → Fits v.store (mid_of σ (transaction_of t)).now
      none_open v g = cc

-- ---- a schema command that is done

any_locked : (t : List ℕ) (a : ℕ) (ls : List Lock) → list_any (is_in t) (with_age a ls) ≡ list_any (λ (l : Lock). bytes_eq l.table t) ls
any_locked t a [] = refl
any_locked t a (l ∷ ls) = ap (λ b. bytes_eq l.table t || b) (any_locked t a ls)

pub schema_agrees : (m m' : Parts) (c : Schema) → IsKept m → is_busy (state_of m) (table_of_schema c) ≡ false → m'.catalog ≡ schema_effect m.catalog c → m'.sessions ≡ m.sessions → m'.ages ≡ m.ages → m'.queue ≡ m.queue → m'.limits ≡ m.limits → m'.begun ≡ m.begun → m'.commits ≡ m.commits → Agree m'
schema_agrees m m' c k idle catalog sessions ages queue limits begun commits = record {
  held = subst_held;
  queue = ap (λ (g : Rattle.tab_model.specs.Ages.Ages). g.queue) ages ∙ k.agree.queue ∙ ap (λ (qs : Rattle.std.specs.Global.Vec Rattle.tab_core.specs.declared.queue.Request.Request). locks_queued_in (map queued_of qs.items)) (sym queue);
  fits = λ q u h. subst (Fits u.store) (sym catalog) (fits_schema u.store m.catalog c k.sound.ordered (untouched q u (ap (λ v. transaction_in (at v q)) (sym sessions) ∙ h)) (k.agree.fits q u (ap (λ v. transaction_in (at v q)) (sym sessions) ∙ h)));
  ages = subst (λ (l : Rattle.tab_model.specs.declared.data.Limits.Limits). m'.begun ≤ l.ages) (sym limits) (let a = k.agree.ages in omega (arith, a, begun));
  counted = subst (λ v. m'.commits + count_open v ≤ m'.begun) (sym sessions) (let d = k.agree.counted in omega (arith, d, begun, commits));
  word = subst (λ (l : Rattle.tab_model.specs.declared.data.Limits.Limits). l.ages < 18446744073709551616) (sym limits) k.agree.word;
  sessions = subst (λ (l : Rattle.tab_model.specs.declared.data.Limits.Limits). l.sessions ≤ 64) (sym limits) k.agree.sessions;
  room = subst (λ ss. length ss ≤ 64) (sym sessions) k.agree.room;
}
  where
    subst_held : SameMembers (locks_held_in (map session_of m'.sessions)) m'.ages.held
    subst_held = subst (λ v. SameMembers (locks_held_in (map session_of v)) m'.ages.held) (sym sessions) (subst (λ (g : Rattle.tab_model.specs.Ages.Ages). SameMembers (locks_held_in (map session_of m.sessions)) g.held) (sym ages) k.agree.held)

    untouched : (q : ℕ) (u : kept.Transaction) → transaction_in (at m.sessions q) ≡ Some u → list_any (λ (l : Lock). bytes_eq l.table (table_of_schema c)) (locks_of u.store.moves) ≡ false
    untouched q u h =
        let none : list_any (is_in (table_of_schema c)) (locks_held_in (map session_of m.sessions)) ≡ false = (or_parts _ _ (sym (list_any-append (is_in (table_of_schema c)) (locks_held_in (map session_of m.sessions)) (locks_queued_in (map queued_of m.queue.items))) ∙ idle)).0 in
        let theirs : plain.transaction_in (session_at (map session_of m.sessions) q) ≡ Some (transaction_of u) = ap plain.transaction_in (at_of m.sessions q) ∙ step_of (at m.sessions q) h in
        sym (any_locked (table_of_schema c) u.age (locks_of u.store.moves)) ∙ ap (λ o. list_any (is_in (table_of_schema c)) (locks_held_by o)) (sym theirs) ∙ held_none (is_in (table_of_schema c)) (map session_of m.sessions) q none
      where
        step_of : (o : Option Subscriber) → transaction_in o ≡ Some u → plain.transaction_in (option_map session_of o) ≡ Some (transaction_of u)
        step_of None g = cc
        step_of (Some x) g = ap (option_map transaction_of) g
