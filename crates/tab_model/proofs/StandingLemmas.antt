-- A book stands over its journal: from its making, through each step, each fold and each leave.
use Rattle.std.proofs.Common.{◌≡◌, ℕ, ◌<◌, ◌≤◌, ◌⊎◌, inl, inr, List, [], ◌∷◌, ◌++◌, Bool, true, false, refl, sym, ap, ◌∙◌, subst, arith, append-nil, append_assoc, Option, Some, None}
use Rattle.std.specs.Prelude.{◌==◌, if◌then◌else◌, nat_lt, is_some}
use Rattle.std.proofs.lemmas.Bool.Decides.{nat_tests}
use Rattle.tab_model.specs.declared.data.Item.{Item}
use Rattle.tab_model.specs.declared.data.Item.TheVariants.{Began}
use Rattle.tab_model.specs.declared.data.Level.{Level}
use Rattle.tab_model.specs.declared.data.Limits.{Limits}
use Rattle.tab_model.specs.declared.data.Entry.{Entry}
use Rattle.tab_model.specs.declared.data.Entry.TheVariants.{Committed, Changed, Subscribed, Unsubscribed}
use Rattle.tab_model.specs.Catalogs.{Catalog}
use Rattle.tab_model.specs.Log.{catalog_after, serial, serial_from, level_after, in_force, in_force_from, count_after, IsRight, IsLegal, commits_from}
use Rattle.tab_model.specs.Slices.{dump_of, expected_on, expected_items, slice_after, slice}
use Rattle.tab_model.specs.History.{Base, empty, level_at, in_force_since, expected_since, slice_since_after, slice_since, IsHistory, after_fold, Admits, without_subscriber}
use Rattle.tab_model.specs.State.{Session, State, new, session_at, level_in, IsSound}
use Rattle.tab_model.specs.declared.ask.Ask.TheVariants.{Join, Leave, Retry, Take, Do as DoCommand}
use Rattle.tab_model.specs.Outcome.{Ask, step_of, without_session, outcome}
use Rattle.tab_model.specs.Run.{entries, item_of, JoinsEmpty, IsTied}
use Rattle.tab_model.specs.Standing.{JoinsChannel, is_joined, MayFollow, FollowsLog, still_joined}
use Rattle.tab_model.proofs.SessionLists.{other_number, found, itself, session_at-without, serial_more, in_force_more, commits-push}
use Rattle.tab_model.proofs.TiedSteps.{new_tied, step_tied}
use Rattle.tab_model.proofs.PostsStay.{IsChannel, JoinsAs, channels_stay}
use Rattle.tab_model.proofs.ChannelReplies.{no_item}
use Rattle.tab_model.proofs.WhoLeaves.{IsGone, step_gone}
use Rattle.tab_model.proofs.EventsGiveTheRows.{legal-rest, serial-append}
use Rattle.tab_model.proofs.ItemsTellTheChanges.{slice_parts}
use Rattle.tab_model.proofs.Folding.{tables_right, number_right, in_force_folded, in_force_forgotten}

-- ---- who may stand

some_none : (s : Session) → Some s ≡ None → ⊥
some_none s e = cc

not_true : (b : Bool) → (b ≡ true → ⊥) → b ≡ false
not_true true h = absurd (h refl)
not_true false h = refl

is_none : (o : Option Session) → is_some o ≡ false → o ≡ None
is_none None h = refl
is_none (Some s) h = cc

is_there : (o : Option Session) → o ≡ None → is_some o ≡ true → ⊥
is_there None h e = cc
is_there (Some s) h e = cc

above : (g n : ℕ) → (g < n) ⊎ (n ≤ g)
above g n = by (nat_lt g n) refl
  where
    by : (b : Bool) → nat_lt g n ≡ b → (g < n) ⊎ (n ≤ g)
    by true e = inl (grind (arith, nat_tests))
    by false e = inr (grind (arith, nat_tests))

not_above : (g n : ℕ) → g < n → n ≤ g → ⊥
not_above g n h e = omega (arith, h, e)

-- each session may stand or is gone
stands_or_gone : (σ : State) (n : ℕ) → MayFollow σ n ⊎ IsGone n σ
stands_or_gone σ n = by (is_joined σ n) refl
  where
    by_number : is_joined σ n ≡ false → (σ.greatest < n) ⊎ (n ≤ σ.greatest) → MayFollow σ n ⊎ IsGone n σ
    by_number e (inl h) = inl (inr h)
    by_number e (inr h) = inr (record { none = is_none (session_at σ.sessions n) e; joined = h })

    by : (b : Bool) → is_joined σ n ≡ b → MayFollow σ n ⊎ IsGone n σ
    by true e = inl (inl e)
    by false e = by_number e (above σ.greatest n)

gone_not : (σ : State) (n : ℕ) → IsGone n σ → MayFollow σ n → ⊥
gone_not σ n gone (inl h) = is_there (session_at σ.sessions n) gone.none h
gone_not σ n gone (inr h) = not_above σ.greatest n h gone.joined

-- who may stand after a step could before
stood_before : (σ : State) (over : List ℕ) (n : ℕ) (a : Ask) (m : ℕ) → MayFollow (outcome σ over n a).state m → MayFollow σ m
stood_before σ over n a m h = by (stands_or_gone σ m)
  where
    by : MayFollow σ m ⊎ IsGone m σ → MayFollow σ m
    by (inl k) = k
    by (inr gone) = absurd (gone_not (outcome σ over n a).state m (step_gone m σ over n a gone) h)

-- ---- a new book

pub new_follows : (limits : Limits) → FollowsLog [] empty [] (new limits)
new_follows limits = record {
  tied = new_tied limits;
  folded = record { tables = refl; commits = refl; levels = λ n t h. refl };
  channels = tt;
}

-- ---- a step

joins_empty : (a : Ask) → JoinsChannel a → JoinsEmpty a
joins_empty (Join b) h = h.1
joins_empty Leave h = tt
joins_empty Retry h = tt
joins_empty Take h = tt
joins_empty (DoCommand c) h = tt

joins_channel : (σ : State) (n : ℕ) (a : Ask) → JoinsChannel a → JoinsAs IsChannel σ n a
joins_channel σ n (Join b) h = λ e. h.0
joins_channel σ n Leave h = tt
joins_channel σ n Retry h = tt
joins_channel σ n Take h = tt
joins_channel σ n (DoCommand c) h = tt

none_now : (m n : ℕ) (xs : List Item) → xs ≡ [] → (if m == n then xs else []) ≡ []
none_now m n xs h = by (m == n)
  where
    by : (b : Bool) → (if b then xs else []) ≡ []
    by true = h
    by false = refl

module _ (past : List Entry) (b : Base) (log : List Entry) (σ : State) where
  pub step_follows : (over : List ℕ) (n : ℕ) (a : Ask) → IsSound σ → JoinsChannel a → FollowsLog past b log σ
      → FollowsLog past b (log ++ entries (outcome σ over n a).entry) (outcome σ over n a).state
  step_follows over n a sound joins k =
      let o = outcome σ over n a in
      let tied = step_tied σ (past ++ log) (λ m. []) over n a sound (joins_empty a joins) k.tied in
      record {
        tied = subst (λ (es : List Entry). IsTied o.state es (λ m. [])) (append_assoc past log (entries o.entry))
            (subst (λ (f : ℕ → List Item). IsTied o.state ((past ++ log) ++ entries o.entry) f) (λ i m. none_now m n (item_of o.reply) (no_item σ over n a k.channels) i) tied);
        folded = record { tables = k.folded.tables; commits = k.folded.commits; levels = λ m t h. k.folded.levels m t (stood_before σ over n a m h) };
        channels = channels_stay σ over n a (joins_channel σ n a joins) k.channels;
      }

  pub history_of : FollowsLog past b log σ → IsHistory b log σ.tables
  history_of k =
      let rest = legal-rest [] 0 past log k.tied.legal in
      record {
        legal = subst (λ (w : Catalog). IsLegal w b.commits log) (sym k.folded.tables) (subst (λ (c : ℕ). IsLegal (serial past) c log) (sym k.folded.commits) rest);
        ends = ap (λ w. serial_from w log) k.folded.tables ∙ sym (serial-append [] past log) ∙ sym k.tied.tables;
      }

commits-append : (c : ℕ) (xs ys : List Entry) → commits_from c (xs ++ ys) ≡ commits_from (commits_from c xs) ys
commits-append c [] ys = refl
commits-append c (x ∷ xs) ys = commits-append (count_after c x) xs ys

pub commits_are : (past : List Entry) (b : Base) (log : List Entry) (σ : State) → FollowsLog past b log σ → σ.commits ≡ commits_from b.commits log
commits_are past b log σ k = k.tied.commits ∙ commits-append 0 past log ∙ ap (λ c. commits_from c log) (sym k.folded.commits)

-- ---- what was sent

in_force-append : (s : ℕ) (t : List ℕ) (l : Option Level) (xs ys : List Entry) → in_force_from s t l (xs ++ ys) ≡ in_force_from s t (in_force_from s t l xs) ys
in_force-append s t l [] ys = refl
in_force-append s t l (x ∷ xs) ys = in_force-append s t (level_after s t l x) xs ys

module _ (past : List Entry) (b : Base) (n : ℕ) (tables : b.tables ≡ serial past) (levels : (t : List ℕ) → level_at b.subscriptions n t ≡ in_force n past t) where
  expected_is : (log : List Entry) (e : Entry) → expected_items n (past ++ log) e ≡ expected_since b n log e
  expected_is log e = by e
    where
      catalog : serial (past ++ log) ≡ serial_from b.tables log
      catalog = serial-append [] past log ∙ ap (λ w. serial_from w log) (sym tables)

      level : (λ t. in_force n (past ++ log) t) ≡ in_force_since b n log
      level i t = (in_force-append n t None past log ∙ ap (λ l. in_force_from n t l log) (sym (levels t))) i

      by : (e : Entry) → expected_items n (past ++ log) e ≡ expected_since b n log e
      by (Committed m x age xs rs over) i = expected_on (catalog i) (level i) n (Committed m x age xs rs over)
      by (Changed c over) i = expected_on (catalog i) (level i) n (Changed c over)
      by (Subscribed x t l dump) i = expected_on (catalog i) (level i) n (Subscribed x t l dump)
      by (Unsubscribed x t) i = expected_on (catalog i) (level i) n (Unsubscribed x t)

  slice_is : (log es : List Entry) → slice_after n (past ++ log) es ≡ slice_since_after b n log es
  slice_is log [] = refl
  slice_is log (e ∷ es) = λ i. expected_is log e i ++ (ap (λ xs. slice_after n xs es) (append_assoc past log (e ∷ [])) ∙ slice_is (log ++ e ∷ []) es) i

since_parts : (b : Base) (n : ℕ) (before xs ys : List Entry) → slice_since_after b n before (xs ++ ys) ≡ slice_since_after b n before xs ++ slice_since_after b n (before ++ xs) ys
since_parts b n before [] ys = ap (λ es. slice_since_after b n es ys) (sym (append-nil before))
since_parts b n before (x ∷ xs) ys =
    ap (λ zs. expected_since b n before x ++ zs) (since_parts b n (before ++ x ∷ []) xs ys ∙ ap (λ es. slice_since_after b n (before ++ x ∷ []) xs ++ slice_since_after b n es ys) (append_assoc before (x ∷ []) xs))
    ∙ sym (append_assoc (expected_since b n before x) _ _)

is_session : (o : Option Session) (s : Session) → o ≡ Some s → is_some o ≡ true
is_session None s e = cc
is_session (Some x) s e = refl

module _ (past : List Entry) (b : Base) (log : List Entry) (σ : State) (k : FollowsLog past b log σ) (n : ℕ) (s : Session) (here : session_at σ.sessions n ≡ Some s) where
  -- all that a joined session was sent
  pub sent_is : s.outbox.items ≡ slice n past ++ slice_since b n log
  sent_is = (k.tied.sessions n s here).items ∙ slice_parts n past log ∙ ap (λ xs. slice n past ++ xs)
      (ap (λ es. slice_after n es log) (sym (append-nil past)) ∙ slice_is past b n k.folded.tables (λ t. k.folded.levels n t (inl (is_session (session_at σ.sessions n) s here))) [] log)

  -- and what it watches
  pub watched_is : (t : List ℕ) → level_in s.watching t ≡ in_force_since b n log t
  watched_is t = (k.tied.sessions n s here).watching t ∙ in_force-append n t None past log ∙ ap (λ l. in_force_from n t l log) (sym (k.folded.levels n t (inl (is_session (session_at σ.sessions n) s here))))

  -- and after more entries
  pub sent_grows : (more : List Entry) (τ : State) (r : Session) → FollowsLog past b (log ++ more) τ → session_at τ.sessions n ≡ Some r → r.outbox.items ≡ s.outbox.items ++ slice_since_after b n log more
  sent_grows more τ r h there =
      let now : r.outbox.items ≡ slice n past ++ slice_since b n (log ++ more)
      = (h.tied.sessions n r there).items ∙ slice_parts n past (log ++ more) ∙ ap (λ xs. slice n past ++ xs)
      (ap (λ es. slice_after n es (log ++ more)) (sym (append-nil past)) ∙ slice_is past b n k.folded.tables (λ t. k.folded.levels n t (inl (is_session (session_at σ.sessions n) s here))) [] (log ++ more)) in
      now ∙ ap (λ xs. slice n past ++ xs) (since_parts b n [] log more) ∙ sym (append_assoc (slice n past) _ _) ∙ ap (λ xs. xs ++ slice_since_after b n log more) (sym sent_is)

-- ---- the oldest entry is folded

nil_cons : (x : Item) (xs : List Item) → [] ≡ x ∷ xs → ⊥
nil_cons x xs e = cc

both_nil : (xs ys : List Item) → xs ++ ys ≡ [] → (xs ≡ []) × (ys ≡ [])
both_nil [] ys e = (refl, e)
both_nil (x ∷ xs) ys e = absurd (nil_cons x (xs ++ ys) (sym e))

module _ (past : List Entry) (b : Base) (e : Entry) (log : List Entry) (σ : State) where
  -- who has not joined yet has subscribed to nothing
  not_yet : FollowsLog past b (e ∷ log) σ → (n : ℕ) → σ.greatest < n → expected_items n past e ≡ []
  not_yet k n h =
      let whole : slice n past ++ slice_after n past (e ∷ log) ≡ [] = sym (slice_parts n past (e ∷ log)) ∙ (k.tied.fresh n h).expected in
      (both_nil (expected_items n past e) (slice_after n (past ++ e ∷ []) log) ((both_nil (slice n past) _ whole).1)).0

  admits : FollowsLog past b (e ∷ log) σ → (n : ℕ) → MayFollow σ n → Admits (still_joined σ e) n e
  admits k n may = by e refl
    where
      by : (f : Entry) → e ≡ f → Admits (still_joined σ f) n f
      by (Committed m s age xs rs over) q = tt
      by (Changed c over) q = tt
      by (Unsubscribed s t) q = tt
      by (Subscribed s t l dump) q = λ same. ap (is_joined σ) same ∙ here same may
        where
          begun : σ.greatest < n → expected_items n past (Subscribed s t l dump) ≡ []
          begun h = ap (expected_items n past) (sym q) ∙ not_yet k n h

          item : (b : Bool) → (if b then Began t l (dump_of (serial past) t dump) ∷ [] else []) ≡ [] → b ≡ false
          item true h = absurd (nil_cons _ [] (sym h))
          item false h = refl

          here : s ≡ n → MayFollow σ n → is_joined σ n ≡ true
          here same (inl h) = h
          here same (inr h) = absurd (other_number s n (item (s == n) (begun h)) same)

  pub fold_follows : FollowsLog past b (e ∷ log) σ → FollowsLog (past ++ e ∷ []) (after_fold (still_joined σ e) b e) log σ
  fold_follows k =
      let right : IsRight (serial past) (commits_from 0 past) e = (legal-rest [] 0 past (e ∷ log) k.tied.legal).0 in
      let right' : IsRight b.tables b.commits e = subst (λ (w : Catalog). IsRight w b.commits e) (sym k.folded.tables) (subst (λ (c : ℕ). IsRight (serial past) c e) (sym k.folded.commits) right) in
      record {
        tied = subst (λ (es : List Entry). IsTied σ es (λ m. [])) (sym (append_assoc past (e ∷ []) log)) k.tied;
        folded = record {
          tables = tables_right b.tables b.commits e right' ∙ ap (λ w. catalog_after w e) k.folded.tables ∙ sym (serial_more past e);
          commits = number_right b.tables b.commits e right' ∙ ap (λ c. count_after c e) k.folded.commits ∙ sym (commits-push 0 past e);
          levels = λ n t may. sym (in_force_folded (still_joined σ e) b n t e [] (admits k n may)) ∙ ap (λ l. level_after n t l e) (k.folded.levels n t may) ∙ sym (in_force_more n past e t);
        };
        channels = k.channels;
      }

-- ---- who has left is forgotten

pub forget_follows : (past : List Entry) (b : Base) (log : List Entry) (σ : State) (q : ℕ) → (MayFollow σ q → ⊥) → FollowsLog past b log σ → FollowsLog past (without_subscriber b q) log σ
forget_follows past b log σ q gone k = record {
  tied = k.tied;
  folded = record {
    tables = k.folded.tables;
    commits = k.folded.commits;
    levels = λ n t may. in_force_forgotten b n q [] t (λ same. gone (subst (λ (m : ℕ). MayFollow σ m) (sym same) may)) ∙ k.folded.levels n t may;
  };
  channels = k.channels;
}

-- who was joined and leaves may stand no more
pub left_away : (σ : State) (over : List ℕ) (n : ℕ) → IsSound σ → is_joined σ n ≡ true → MayFollow (outcome σ over n Leave).state n → ⊥
unfolding outcome
left_away σ over n sound joined may = by (session_at σ.sessions n) refl joined may
  where
    by : (o : Option Session) → session_at σ.sessions n ≡ o → is_some o ≡ true → MayFollow (step_of σ over n Leave o).state n → ⊥
    by None e j m = cc
    by (Some s) e j (inl h) = is_there (session_at (without_session σ.sessions s.number) n) (session_at-without σ.sessions s.number n ∙ ap (λ b. if b then None else session_at σ.sessions n) (ap (λ k. n == k) (found σ.sessions s n e) ∙ itself n)) h
    by (Some s) e j (inr h) = not_above σ.greatest n h (sound.joined n s e)
