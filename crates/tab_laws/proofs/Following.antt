-- A wait that no retry ends leads on, to a younger age; so it ends at a session that can go on.
use Rattle.std.proofs.Common.{◌≡◌, ℕ, zero, suc, ◌+◌, ◌<◌, ◌≤◌, List, [], ◌∷◌, ◌++◌, Bool, true, false, ◌&&◌, refl, sym, ap, ◌∙◌, subst, arith, Option, Some, None, ◌⊎◌, inl, inr, is_some, ◌==◌, if◌then◌else◌}
use Rattle.std.specs.List.{list_any}
use Rattle.std.proofs.lemmas.Bool.{false≢true, not-false, and_from, or_left, or_right}
use Rattle.std.proofs.lemmas.List.Folds.{list_any-append}
use Rattle.tab_model.specs.Locks.{Lock, needs, locks_of}
use Rattle.tab_model.specs.Ages.{Owned, opposes, before, request_of, can_retry, WaitsFor, Chain, last_of}
use Rattle.tab_model.specs.State.{Transaction, Session, Queued, State, session_at, transaction_in, transaction_at, age_in, age_at, request_in, is_waiting, with_age, locks_held_by, locks_held_in, locks_queued_in, ages_of, HasAge, OwnedBy, IsSound}
use Rattle.tab_model.specs.Reached.{IsRising}
use Rattle.tab_model.proofs.SessionLists.{eq_true, other_number, itself}
use Rattle.tab_model.proofs.StepsBySession.{held_none, held_some, IsHolder}
use Rattle.tab_model.proofs.WaitsHaveNoCycle.{either_one, wait_rises_age}
use Rattle.tab_model.proofs.ReachedWaits.{Match, match_of, request_match, request_age}
use Rattle.tab_laws.specs.Progress.{RetryIsGranted, CanGoOn, LeadsOn, HasOnlyTransaction}

true_of : (b : Bool) → (b ≡ false → true ≡ false) → b ≡ true
true_of true h = refl
true_of false h = sym (h refl)

some_of : (A : Type 0) (o : Option A) → is_some o ≡ true → (x : A) × (o ≡ Some x)
some_of A None h = absurd (false≢true h)
some_of A (Some x) h = (x, refl)

-- a lock of the owner b that opposes
abbrev opposes_as : Owned → ℕ → Owned → Bool
opposes_as r b x = opposes r x && (x.0 == b)

age_of : (o : Option Transaction) (a : ℕ) → HasAge o a → age_in o ≡ a
age_of None a h = absurd h
age_of (Some t) a h = h

one_age : (o : Option Transaction) (a b : ℕ) → HasAge o a → HasAge o b → a ≡ b
one_age o a b h k = sym (age_of o a h) ∙ age_of o b k

pub opened : (o : Option Transaction) (a : ℕ) → HasAge o a → is_some o ≡ true
opened None a h = absurd h
opened (Some t) a h = refl

-- an opposing lock of one owner is that owner's
opposed_as : (r : Owned) (b : ℕ) (ls : List Lock) → list_any (opposes r) (with_age b ls) ≡ true → list_any (opposes_as r b) (with_age b ls) ≡ true
opposed_as r b [] h = h
opposed_as r b (l ∷ ls) h =
    either_one (list_any (opposes_as r b) (with_age b (l ∷ ls)) ≡ true) (opposes r (b, l)) (list_any (opposes r) (with_age b ls)) h
    (λ e. or_left (opposes_as r b (b, l)) _ (and_from (opposes r (b, l)) (b == b) e (itself b)))
    (λ e. or_right (opposes_as r b (b, l)) _ (opposed_as r b ls e))

-- a session's locks are among those of all sessions
among_all : (p : Owned → Bool) (sessions : List Session) (m : ℕ) → list_any p (locks_held_by (transaction_in (session_at sessions m))) ≡ true → list_any p (locks_held_in sessions) ≡ true
among_all p sessions m h = true_of (list_any p (locks_held_in sessions)) (λ e. sym h ∙ held_none p sessions m e)

-- a request of the queue before r's that opposes it
record Earlier (f : ℕ → Option Transaction) (r : Owned) (qs : List Queued) : Type 0 where
  request : Queued
  aged : HasAge (f request.session) request.age
  waiting : is_some (request_in qs request.session) ≡ true
  among : list_any (opposes_as r request.age) (before r.0 (locks_queued_in qs)) ≡ true

earlier : (f : ℕ → Option Transaction) (r : Owned) (qs : List Queued) → OwnedBy f qs → list_any (opposes r) (before r.0 (locks_queued_in qs)) ≡ true → Earlier f r qs
earlier f r [] o h = absurd (false≢true h)
earlier f r (q ∷ qs) o h = cases (q.age == r.0) refl h (earlier f r qs o.1)
  where
    x : Owned
    x = (q.age, needs q.operation)

    found : (b : ℕ) → (q.age == r.0) ≡ false → list_any (opposes_as r b) (x ∷ before r.0 (locks_queued_in qs)) ≡ true → list_any (opposes_as r b) (before r.0 (locks_queued_in (q ∷ qs))) ≡ true
    found b e h = ap (λ (c : Bool). list_any (opposes_as r b) (if c then [] else x ∷ before r.0 (locks_queued_in qs))) e ∙ h

    at_session : (m : ℕ) (b : Bool) → is_some (request_in qs m) ≡ true → is_some (if b then Some q else request_in qs m) ≡ true
    at_session m true h = refl
    at_session m false h = h

    more : (q.age == r.0) ≡ false → Earlier f r qs → Earlier f r (q ∷ qs)
    more e i = record {
      request = i.request;
      aged = i.aged;
      waiting = at_session i.request.session (q.session == i.request.session) i.waiting;
      among = found i.request.age e (or_right (opposes_as r i.request.age x) _ i.among);
    }

    this : (q.age == r.0) ≡ false → opposes r x ≡ true → Earlier f r (q ∷ qs)
    this e k = record {
      request = q;
      aged = o.0;
      waiting = ap (λ (b : Bool). is_some (if b then Some q else request_in qs q.session)) (itself q.session);
      among = found q.age e (or_left (opposes_as r q.age x) _ (and_from (opposes r x) (q.age == q.age) k (itself q.age)));
    }

    cases : (b : Bool) → (q.age == r.0) ≡ b → list_any (opposes r) (if b then [] else x ∷ before r.0 (locks_queued_in qs)) ≡ true
        → (list_any (opposes r) (before r.0 (locks_queued_in qs)) ≡ true → Earlier f r qs) → Earlier f r (q ∷ qs)
    cases true e g ih = absurd (false≢true g)
    cases false e g ih =
        either_one (Earlier f r (q ∷ qs)) (opposes r x) (list_any (opposes r) (before r.0 (locks_queued_in qs))) g (this e)
        (λ k. more e (ih k))

-- a session that a queued request waits for: it waits too, or a lock of its transaction opposes the request
record Awaited (σ : State) (q : Queued) : Type 0 where
  session : ℕ
  age : ℕ
  aged : HasAge (transaction_at σ session) age
  waits : WaitsFor (ages_of σ) q.age age
  by : (is_waiting σ session ≡ true) ⊎ (list_any (opposes (q.age, needs q.operation)) (locks_held_by (transaction_at σ session)) ≡ true)

-- a chain of waits leads from an age to a session that can go on
record Reaches (σ : State) (a : ℕ) : Type 0 where
  session : ℕ
  path : List ℕ
  waits : Chain (ages_of σ) a path
  last : last_of a path ≡ age_at σ session
  goes_on : CanGoOn σ session

module _ (σ : State) (sound : IsSound σ) (rise : IsRising σ) where
  aged : (n : ℕ) (q : Queued) → request_in σ.queue n ≡ Some q → HasAge (transaction_at σ n) q.age
  aged n q asked = request_age (transaction_at σ) n σ.queue q rise.owners asked

  -- ages are below the next one
  below : (n a : ℕ) → HasAge (transaction_at σ n) a → a < σ.next_age
  below n a h = by_transaction (transaction_at σ n) refl h
    where
      by_transaction : (o : Option Transaction) → transaction_at σ n ≡ o → HasAge o a → a < σ.next_age
      by_transaction None e k = absurd k
      by_transaction (Some t) e k = subst (λ (b : ℕ). b < σ.next_age) k (sound.taken n t e)

  module _ (n : ℕ) (q : Queued) (asked : request_in σ.queue n ≡ Some q) where
    queued_as : request_of q.age (locks_queued_in σ.queue) ≡ Some (q.age, needs q.operation)
    queued_as = by_transaction (transaction_at σ n) refl (aged n q asked)
      where
        by_transaction : (o : Option Transaction) → transaction_at σ n ≡ o → HasAge o q.age → request_of q.age (locks_queued_in σ.queue) ≡ Some (q.age, needs q.operation)
        by_transaction None e h = absurd h
        by_transaction (Some t) e h = request_match n q.age σ.queue q (subst (λ (a : ℕ). Match n a σ.queue) h (match_of σ n t σ.queue sound e rise.owners)) asked

    waits_for : (b : ℕ) → list_any (opposes_as (q.age, needs q.operation) b) (locks_held_in σ.sessions ++ before q.age (locks_queued_in σ.queue)) ≡ true → WaitsFor (ages_of σ) q.age b
    waits_for b h = record { request = (q.age, needs q.operation); is = queued_as; among = h }

    by_holder : IsHolder (opposes (q.age, needs q.operation)) σ.sessions → Awaited σ q
    by_holder k = of_slot k.slot.transaction refl k.holds
      where
        of_slot : (o : Option Transaction) → k.slot.transaction ≡ o → list_any (opposes (q.age, needs q.operation)) (locks_held_by o) ≡ true → Awaited σ q
        of_slot None e h = absurd (false≢true h)
        of_slot (Some t) e h =
            let here : transaction_at σ k.slot.number ≡ Some t = ap transaction_in k.here ∙ e in
            record {
              session = k.slot.number;
              age = t.age;
              aged = subst (λ (o : Option Transaction). HasAge o t.age) (sym here) refl;
              waits = waits_for t.age (list_any-append (opposes_as (q.age, needs q.operation) t.age) (locks_held_in σ.sessions) (before q.age (locks_queued_in σ.queue))
                  ∙ or_left _ _ (among_all (opposes_as (q.age, needs q.operation) t.age) σ.sessions k.slot.number
                  (ap (λ (o : Option Transaction). list_any (opposes_as (q.age, needs q.operation) t.age) (locks_held_by o)) here ∙ opposed_as (q.age, needs q.operation) t.age (locks_of t.moves) h)));
              by = inr (ap (λ (o : Option Transaction). list_any (opposes (q.age, needs q.operation)) (locks_held_by o)) here ∙ h);
            }

    by_request : Earlier (transaction_at σ) (q.age, needs q.operation) σ.queue → Awaited σ q
    by_request i = record {
      session = i.request.session;
      age = i.request.age;
      aged = i.aged;
      waits = waits_for i.request.age (list_any-append (opposes_as (q.age, needs q.operation) i.request.age) (locks_held_in σ.sessions) (before q.age (locks_queued_in σ.queue)) ∙ or_right _ _ i.among);
      by = inl i.waiting;
    }

    -- a request that no retry grants waits for a session
    awaited : can_retry (ages_of σ) (q.age, needs q.operation) ≡ false → Awaited σ q
    awaited h =
        either_one (Awaited σ q) (list_any (opposes (q.age, needs q.operation)) (locks_held_in σ.sessions)) (list_any (opposes (q.age, needs q.operation)) (before q.age (locks_queued_in σ.queue)))
        (sym (list_any-append (opposes (q.age, needs q.operation)) (locks_held_in σ.sessions) (before q.age (locks_queued_in σ.queue))) ∙ not-false _ h)
        (λ e. by_holder (held_some (opposes (q.age, needs q.operation)) σ.sessions sound.distinct e))
        (λ e. by_request (earlier (transaction_at σ) (q.age, needs q.operation) σ.queue rise.owners e))

    -- if no other session has a transaction, a retry is granted
    sole : HasOnlyTransaction n σ → can_retry (ages_of σ) (q.age, needs q.operation) ≡ true
    sole only = cases (can_retry (ages_of σ) (q.age, needs q.operation)) refl
      where
        other : (w : Awaited σ q) (b : Bool) → (w.session == n) ≡ b → ⊥
        other w true e =
            let same : q.age ≡ w.age = one_age (transaction_at σ n) q.age w.age (aged n q asked) (subst (λ (m : ℕ). HasAge (transaction_at σ m) w.age) (eq_true w.session n e) w.aged) in
            let up : q.age < w.age = wait_rises_age (ages_of σ) q.age w.age rise.rises w.waits in
            omega (arith, same, up)
        other w false e = subst (λ (o : Option Transaction). HasAge o w.age) (only w.session (other_number w.session n e)) w.aged

        cases : (b : Bool) → can_retry (ages_of σ) (q.age, needs q.operation) ≡ b → b ≡ true
        cases true e = refl
        cases false e = let w = awaited e in absurd (other w (w.session == n) refl)

  -- a wait more, before a chain
  longer : (a b : ℕ) → WaitsFor (ages_of σ) a b → Reaches σ b → Reaches σ a
  longer a b w c = record { session = c.session; path = b ∷ c.path; waits = (w, c.waits); last = c.last; goes_on = c.goes_on }

  -- each queued request whose age is at most k below the next one leads on
  abbrev Within : ℕ → Type 0
  Within k = (n : ℕ) (q : Queued) → request_in σ.queue n ≡ Some q → σ.next_age ≤ q.age + k → Reaches σ q.age

  module _ (k n : ℕ) (q : Queued) (asked : request_in σ.queue n ≡ Some q) (room : σ.next_age ≤ q.age + suc k) (ih : Within k) where
    onward : (w : Awaited σ q) → is_waiting σ w.session ≡ true → Reaches σ q.age
    onward w waiting =
        let next = some_of Queued (request_in σ.queue w.session) waiting in
        let same : next.0.age ≡ w.age = one_age (transaction_at σ w.session) next.0.age w.age (aged w.session next.0 next.1) w.aged in
        let up : q.age < w.age = wait_rises_age (ages_of σ) q.age w.age rise.rises w.waits in
        longer q.age w.age w.waits (subst (λ (a : ℕ). Reaches σ a) same (ih w.session next.0 next.1 (omega (arith, room, same, up))))

    by_lock : (w : Awaited σ q) → list_any (opposes (q.age, needs q.operation)) (locks_held_by (transaction_at σ w.session)) ≡ true → (b : Bool) → is_waiting σ w.session ≡ b → Reaches σ q.age
    by_lock w lock true e = onward w e
    by_lock w lock false e = longer q.age w.age w.waits (record {
      session = w.session;
      path = [];
      waits = tt;
      last = sym (age_of (transaction_at σ w.session) w.age w.aged);
      goes_on = inr (record { is_open = opened (transaction_at σ w.session) w.age w.aged; is_free = e }, (n, record { request = q; is = asked; conflicts = lock }));
    })

    by_awaited : (w : Awaited σ q) → (is_waiting σ w.session ≡ true) ⊎ (list_any (opposes (q.age, needs q.operation)) (locks_held_by (transaction_at σ w.session)) ≡ true) → Reaches σ q.age
    by_awaited w (inl waiting) = onward w waiting
    by_awaited w (inr lock) = by_lock w lock (is_waiting σ w.session) refl

    by_retry : (b : Bool) → can_retry (ages_of σ) (q.age, needs q.operation) ≡ b → Reaches σ q.age
    by_retry true e = record {
      session = n;
      path = [];
      waits = tt;
      last = sym (age_of (transaction_at σ n) q.age (aged n q asked));
      goes_on = inl (record { request = q; is = asked; granted = e });
    }
    by_retry false e = let w = awaited n q asked e in by_awaited w w.by

  follow : (k : ℕ) → Within k
  follow zero n q asked room = let less : q.age < σ.next_age = below n q.age (aged n q asked) in let no : ⊥ = omega (arith, less, room) in absurd no
  follow (suc k) n q asked room = by_retry k n q asked room (follow k) (can_retry (ages_of σ) (q.age, needs q.operation)) refl

pub leads_on : (σ : State) (n : ℕ) → IsSound σ → IsRising σ → is_waiting σ n ≡ true → LeadsOn σ n
leads_on σ n sound rise waiting =
    let first = some_of Queued (request_in σ.queue n) waiting in
    let same : first.0.age ≡ age_at σ n = sym (age_of (transaction_at σ n) first.0.age (aged σ sound rise n first.0 first.1)) in
    let c = subst (λ (a : ℕ). Reaches σ a) same (follow σ sound rise σ.next_age n first.0 first.1 (omega arith)) in
    record { session = c.session; path = c.path; waits = c.waits; last = c.last; goes_on = c.goes_on }

pub only_granted : (σ : State) (n : ℕ) → IsSound σ → IsRising σ → is_waiting σ n ≡ true → HasOnlyTransaction n σ → RetryIsGranted σ n
only_granted σ n sound rise waiting only =
    let first = some_of Queued (request_in σ.queue n) waiting in
    record { request = first.0; is = first.1; granted = sole σ sound rise n first.0 first.1 only }
