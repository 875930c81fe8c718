-- The locks that sessions hold, when one session is another.
use Rattle.std.proofs.Common.{◌≡◌, ℕ, List, [], ◌∷◌, ◌++◌, Bool, true, false, ◌&&◌, ◌||◌, not, refl, sym, ap, ◌∙◌, Option, Some, None}
use Rattle.std.specs.Prelude.{◌==◌, if◌then◌else◌}
use Rattle.std.specs.List.{list_any}
use Rattle.std.proofs.lemmas.List.Folds.{list_any-append}
use Rattle.std.proofs.lemmas.Bool.{or_parts}
use Rattle.tab_locks.specs.Members.{HasMore, SameMembers}
use Rattle.tab_model.specs.Ages.{Owned, Ages, without, opposes, covers_own, blocks, all_of, decide, can_retry, before}
use Rattle.tab_model.specs.Locks.{Lock, locks_of}
use Rattle.tab_model.specs.State.{Transaction, Session, State, session_at, transaction_in, transaction_at, with_age, locks_held_by, locks_held_in, is_in, AreDistinct, IsSound}
use Rattle.tab_model.specs.Outcome.{with_changed, without_session}
use Rattle.tab_model.proofs.SessionLists.{eq_true, session_at-without}
use Rattle.tab_model.proofs.StepsBySession.{held_some, IsHolder, distinct-without}

-- ---- lists of owned locks

or_swap : (a b c : Bool) → (a || (b || c)) ≡ (b || (a || c))
or_swap true true c = refl
or_swap true false c = refl
or_swap false b c = refl

or_assoc : (a b c : Bool) → ((a || b) || c) ≡ (a || (b || c))
or_assoc true b c = refl
or_assoc false b c = refl

pub any_without : (p : Owned → Bool) (a : ℕ) (xs : List Owned) → list_any p (without a xs) ≡ list_any (λ x. p x && not (x.0 == a)) xs
any_without p a [] = refl
any_without p a (x ∷ xs) = by (x.0 == a) (p x) (any_without p a xs)
  where
    by : (b q : Bool) → list_any p (without a xs) ≡ list_any (λ y. p y && not (y.0 == a)) xs → list_any p (if not b then x ∷ without a xs else without a xs) ≡ ((p x && not b) || list_any (λ y. p y && not (y.0 == a)) xs)
    by true q ih = ih ∙ by_p (p x)
      where
        by_p : (q : Bool) → list_any (λ y. p y && not (y.0 == a)) xs ≡ ((q && false) || list_any (λ y. p y && not (y.0 == a)) xs)
        by_p true = refl
        by_p false = refl
    by false q ih = (λ i. p x || ih i) ∙ by_p (p x)
      where
        by_p : (q : Bool) → (q || list_any (λ y. p y && not (y.0 == a)) xs) ≡ ((q && true) || list_any (λ y. p y && not (y.0 == a)) xs)
        by_p true = refl
        by_p false = refl

pub same_without : (a : ℕ) (xs ys : List Owned) → SameMembers xs ys → SameMembers (without a xs) (without a ys)
same_without a xs ys h p = any_without p a ys ∙ h (λ x. p x && not (x.0 == a)) ∙ sym (any_without p a xs)

-- ---- what is asked of the held locks is the same of the same members

pub decides : (held held' queue : List Owned) (r : Owned) → SameMembers held held' → decide (record { held = held'; queue = queue }) r ≡ decide (record { held = held; queue = queue }) r
decides held held' queue r h =
    λ i. if h (covers_own r) i || not (opposed i) then Rattle.tab_model.specs.Ages.Granted else if blocked i then Rattle.tab_model.specs.Ages.Die else Rattle.tab_model.specs.Ages.Wait
  where
    both : (p : Owned → Bool) → list_any p (held' ++ queue) ≡ list_any p (held ++ queue)
    both p = list_any-append p held' queue ∙ ap (λ b. b || list_any p queue) (h p) ∙ sym (list_any-append p held queue)

    opposed : list_any (opposes r) (held' ++ queue) ≡ list_any (opposes r) (held ++ queue)
    opposed = both (opposes r)

    blocked : list_any (blocks r) (held' ++ queue) ≡ list_any (blocks r) (held ++ queue)
    blocked = both (blocks r)

pub retries : (held held' queue : List Owned) (r : Owned) → SameMembers held held' → can_retry (record { held = held'; queue = queue }) r ≡ can_retry (record { held = held; queue = queue }) r
retries held held' queue r h =
    ap not (list_any-append (opposes r) held' (before r.0 queue) ∙ ap (λ b. b || list_any (opposes r) (before r.0 queue)) (h (opposes r)) ∙ sym (list_any-append (opposes r) held (before r.0 queue)))

pub busies : (held held' queue : List Owned) (t : List ℕ) → SameMembers held held' → list_any (is_in t) (held' ++ queue) ≡ list_any (is_in t) (held ++ queue)
busies held held' queue t h = list_any-append (is_in t) held' queue ∙ ap (λ b. b || list_any (is_in t) queue) (h (is_in t)) ∙ sym (list_any-append (is_in t) held queue)

-- ---- one session's locks, and all others'

absent : (p : Owned → Bool) (sessions : List Session) (n : ℕ) → session_at sessions n ≡ None → locks_held_in (without_session sessions n) ≡ locks_held_in sessions
absent p [] n h = refl
absent p (x ∷ sessions) n h = by (x.number == n) h (absent p sessions n)
  where
    by : (b : Bool) → (if b then Some x else session_at sessions n) ≡ None → (session_at sessions n ≡ None → locks_held_in (without_session sessions n) ≡ locks_held_in sessions) → locks_held_in (if not b then x ∷ without_session sessions n else without_session sessions n) ≡ locks_held_by x.transaction ++ locks_held_in sessions
    by true g ih = cc
    by false g ih = ap (λ hs. locks_held_by x.transaction ++ hs) (ih g)

pub split_changed : (p : Owned → Bool) (sessions : List Session) (n : ℕ) (s s' : Session) → AreDistinct sessions → session_at sessions n ≡ Some s → s'.number ≡ n
    → list_any p (locks_held_in (with_changed sessions s')) ≡ (list_any p (locks_held_by s'.transaction) || list_any p (locks_held_in (without_session sessions n)))
split_changed p [] n s s' d h e = cc
split_changed p (x ∷ sessions) n s s' d h e = by (x.number == n) (ap (λ m. x.number == m) e) refl h (λ k. split_changed p sessions n s s' d.1 k e)
  where
    by : (b : Bool) → (x.number == s'.number) ≡ (x.number == n) → (x.number == n) ≡ b → (if b then Some x else session_at sessions n) ≡ Some s
        → (session_at sessions n ≡ Some s → list_any p (locks_held_in (with_changed sessions s')) ≡ (list_any p (locks_held_by s'.transaction) || list_any p (locks_held_in (without_session sessions n))))
        → list_any p (locks_held_in (if x.number == s'.number then s' ∷ sessions else x ∷ with_changed sessions s')) ≡ (list_any p (locks_held_by s'.transaction) || list_any p (locks_held_in (if not b then x ∷ without_session sessions n else without_session sessions n)))
    by true f g k ih =
        ap (λ b. list_any p (locks_held_in (if b then s' ∷ sessions else x ∷ with_changed sessions s'))) (f ∙ g)
        ∙ list_any-append p (locks_held_by s'.transaction) (locks_held_in sessions)
        ∙ ap (λ hs. list_any p (locks_held_by s'.transaction) || list_any p hs) (sym (absent p sessions n (ap (session_at sessions) (sym (eq_true x.number n g)) ∙ d.0)))
    by false f g k ih =
        ap (λ b. list_any p (locks_held_in (if b then s' ∷ sessions else x ∷ with_changed sessions s'))) (f ∙ g)
        ∙ list_any-append p (locks_held_by x.transaction) (locks_held_in (with_changed sessions s'))
        ∙ ap (λ b. list_any p (locks_held_by x.transaction) || b) (ih k)
        ∙ or_swap (list_any p (locks_held_by x.transaction)) (list_any p (locks_held_by s'.transaction)) (list_any p (locks_held_in (without_session sessions n)))
        ∙ ap (λ b. list_any p (locks_held_by s'.transaction) || b) (sym (list_any-append p (locks_held_by x.transaction) (locks_held_in (without_session sessions n))))

changed_itself : (sessions : List Session) (n : ℕ) (s : Session) → session_at sessions n ≡ Some s → s.number ≡ n → with_changed sessions s ≡ sessions
changed_itself [] n s h e = cc
changed_itself (x ∷ sessions) n s h e = by (x.number == n) (ap (λ m. x.number == m) e) h (changed_itself sessions n s)
  where
    by : (b : Bool) → (x.number == s.number) ≡ b → (if b then Some x else session_at sessions n) ≡ Some s → (session_at sessions n ≡ Some s → s.number ≡ n → with_changed sessions s ≡ sessions) → (if x.number == s.number then s ∷ sessions else x ∷ with_changed sessions s) ≡ x ∷ sessions
    by true f g ih = let same : x ≡ s = cc in ap (λ b. if b then s ∷ sessions else x ∷ with_changed sessions s) f ∙ ap (λ (z : Session). z ∷ sessions) (sym same)
    by false f g ih = ap (λ b. if b then s ∷ sessions else x ∷ with_changed sessions s) f ∙ ap (λ zs. x ∷ zs) (ih g e)

pub split : (p : Owned → Bool) (sessions : List Session) (n : ℕ) (s : Session) → AreDistinct sessions → session_at sessions n ≡ Some s → s.number ≡ n
    → list_any p (locks_held_in sessions) ≡ (list_any p (locks_held_by s.transaction) || list_any p (locks_held_in (without_session sessions n)))
split p sessions n s d h e = ap (λ zs. list_any p (locks_held_in zs)) (sym (changed_itself sessions n s h e)) ∙ split_changed p sessions n s s d h e

-- ---- a session with the same locks, with one more, with none

module _ (sessions : List Session) (n : ℕ) (s s' : Session) (d : AreDistinct sessions) (here : session_at sessions n ≡ Some s) (is : s.number ≡ n) (is' : s'.number ≡ n) where
  pub held_same : locks_held_by s'.transaction ≡ locks_held_by s.transaction → SameMembers (locks_held_in sessions) (locks_held_in (with_changed sessions s'))
  held_same h p = split_changed p sessions n s s' d here is' ∙ ap (λ hs. list_any p hs || list_any p (locks_held_in (without_session sessions n))) h ∙ sym (split p sessions n s d here is)

  pub held_more : (r : Owned) → locks_held_by s'.transaction ≡ locks_held_by s.transaction ++ r ∷ [] → HasMore r (locks_held_in sessions) (locks_held_in (with_changed sessions s'))
  held_more r h p =
      split_changed p sessions n s s' d here is'
      ∙ ap (λ b. b || list_any p (locks_held_in (without_session sessions n))) (ap (list_any p) h ∙ list_any-append p (locks_held_by s.transaction) (r ∷ []) ∙ last (list_any p (locks_held_by s.transaction)) (p r))
      ∙ or_assoc (p r) (list_any p (locks_held_by s.transaction)) (list_any p (locks_held_in (without_session sessions n)))
      ∙ ap (λ b. p r || b) (sym (split p sessions n s d here is))
    where
      last : (a b : Bool) → (a || (b || false)) ≡ (b || a)
      last true true = refl
      last true false = refl
      last false true = refl
      last false false = refl

  pub held_none_left : locks_held_by s'.transaction ≡ [] → SameMembers (locks_held_in (without_session sessions n)) (locks_held_in (with_changed sessions s'))
  held_none_left h p = split_changed p sessions n s s' d here is' ∙ ap (λ hs. list_any p hs || list_any p (locks_held_in (without_session sessions n))) h

-- ---- all but one session's locks are those of other ages

any_of_age : (p : Owned → Bool) (a : ℕ) (ls : List Lock) → list_any (λ x. p x && not (x.0 == a)) (with_age a ls) ≡ false
any_of_age p a [] = refl
any_of_age p a (l ∷ ls) = ap (λ b. (p (a, l) && not b) || list_any (λ x. p x && not (x.0 == a)) (with_age a ls)) (Rattle.tab_model.proofs.SessionLists.itself a) ∙ none (p (a, l)) ∙ any_of_age p a ls
  where
    none : (b : Bool) → ((b && false) || list_any (λ x. p x && not (x.0 == a)) (with_age a ls)) ≡ list_any (λ x. p x && not (x.0 == a)) (with_age a ls)
    none true = refl
    none false = refl

all_other : (p : Owned → Bool) (a : ℕ) (xs : List Owned) → list_any (λ x. x.0 == a) xs ≡ false → list_any (λ x. p x && not (x.0 == a)) xs ≡ list_any p xs
all_other p a [] h = refl
all_other p a (x ∷ xs) h =
    let q = or_parts (x.0 == a) (list_any (λ y. y.0 == a) xs) h in
    ap (λ b. (p x && not b) || list_any (λ y. p y && not (y.0 == a)) xs) q.0 ∙ kept (p x) ∙ ap (λ b. p x || b) (all_other p a xs q.1)
  where
    kept : (b : Bool) → ((b && true) || list_any (λ y. p y && not (y.0 == a)) xs) ≡ (b || list_any (λ y. p y && not (y.0 == a)) xs)
    kept true = refl
    kept false = refl

aged : (a b : ℕ) (ls : List Lock) → list_any (λ x. x.0 == a) (with_age b ls) ≡ true → b ≡ a
aged a b [] h = cc
aged a b (l ∷ ls) h = by (b == a) refl h (aged a b ls)
  where
    by : (c : Bool) → (b == a) ≡ c → (c || list_any (λ x. x.0 == a) (with_age b ls)) ≡ true → (list_any (λ x. x.0 == a) (with_age b ls) ≡ true → b ≡ a) → b ≡ a
    by true e g ih = eq_true b a e
    by false e g ih = ih g

none_aged : (σ : State) (n : ℕ) (t : Transaction) → IsSound σ → transaction_at σ n ≡ Some t → list_any (λ x. x.0 == t.age) (locks_held_in (without_session σ.sessions n)) ≡ false
none_aged σ n t sound mine = by (list_any (λ x. x.0 == t.age) (locks_held_in (without_session σ.sessions n))) refl
  where
    refuse : IsHolder (λ x. x.0 == t.age) (without_session σ.sessions n) → ⊥
    refuse r = other (r.slot.number == n) refl (sym (session_at-without σ.sessions n r.slot.number) ∙ r.here)
      where
        other : (b : Bool) → (r.slot.number == n) ≡ b → (if b then None else session_at σ.sessions r.slot.number) ≡ Some r.slot → ⊥
        other true e h = cc
        other false e h = by_transaction r.slot.transaction refl r.holds
          where
            differ : r.slot.number ≡ n → ⊥
            differ same = Rattle.tab_model.proofs.SessionLists.other_number r.slot.number n e same

            by_transaction : (o : Option Transaction) → r.slot.transaction ≡ o → list_any (λ x. x.0 == t.age) (locks_held_by o) ≡ true → ⊥
            by_transaction None f g = cc
            by_transaction (Some u) f g = differ (sound.ages r.slot.number n u t (ap transaction_in h ∙ f) mine (aged t.age u.age (locks_of u.moves) g))

    by : (b : Bool) → list_any (λ x. x.0 == t.age) (locks_held_in (without_session σ.sessions n)) ≡ b → b ≡ false
    by false e = refl
    by true e = absurd (refuse (held_some (λ x. x.0 == t.age) (without_session σ.sessions n) (distinct-without σ.sessions n sound.distinct) e))

pub held_gone : (σ : State) (n : ℕ) (s : Session) (t : Transaction) → IsSound σ → session_at σ.sessions n ≡ Some s → s.number ≡ n → s.transaction ≡ Some t → SameMembers (without t.age (locks_held_in σ.sessions)) (locks_held_in (without_session σ.sessions n))
held_gone σ n s t sound here is open_t p =
    sym (any_without p t.age (locks_held_in σ.sessions) ∙ split (λ x. p x && not (x.0 == t.age)) σ.sessions n s sound.distinct here is
    ∙ (λ i. (ap (λ o. list_any (λ x. p x && not (x.0 == t.age)) (locks_held_by o)) open_t ∙ any_of_age p t.age (locks_of t.moves)) i || list_any (λ x. p x && not (x.0 == t.age)) (locks_held_in (without_session σ.sessions n)))
    ∙ all_other p t.age (locks_held_in (without_session σ.sessions n)) (none_aged σ n t sound (ap transaction_in here ∙ open_t)))
