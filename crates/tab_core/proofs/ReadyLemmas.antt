-- The sessions whose requests would be granted, listed one after another.
use Rattle.std.proofs.Common.{◌≡◌, ℕ, zero, suc, ◌+◌, ◌<◌, ◌≤◌, List, [], ◌∷◌, ◌++◌, Bool, true, false, ◌||◌, refl, sym, ap, ◌∙◌, subst, arith, length, Option, Some, None, get_or, take}
use Rattle.std.specs.Prelude.{◌==◌, IfSome, if◌then◌else◌, map, nat_lt, option_map}
use Rattle.std.specs.List.{list_any}
use Rattle.std.proofs.lemmas.Bool.Decides.{nat_tests}
use Rattle.std.proofs.lemmas.List.Folds.{list_any-append}
use Rattle.tab_model.specs.Ages.{Owned, can_retry, request_of}
use Rattle.tab_model.specs.Locks.{needs}
use Rattle.tab_model.specs.Log.{has_session}
use Rattle.tab_model.specs.State as plain
use Rattle.tab_model.specs.State.{Queued, Transaction, ages_of, request_in}
use Rattle.tab_model.proofs.ReachedWaits.{request_age}
use Rattle.tab_core.specs.declared.transaction.Transaction as kept
use Rattle.tab_subs.specs.Subscribers.{IsHeldAt, at, nobody}
use Rattle.tab_core.specs.Joined.{Subscriber}
use Rattle.tab_subs.proofs.Places.{stands}
use Rattle.tab_core.specs.declared.queue.Request as request
use Rattle.tab_core.specs.Kept.{IsKept}
use Rattle.tab_core.specs.Parts.{Parts, queued_of, session_of, state_of}
use Rattle.tab_core.specs.Ready.{AreReady, IsReadyAt}
use Rattle.tab_core.proofs.Keeping.{the_session}
use Rattle.tab_core.proofs.Places.{at_of}
use Rattle.tab_core.proofs.OperatingLemmas as operating

-- the session at the place is in the list, if its request would be granted
abbrev pub IsListed : Parts → List ℕ → ℕ → Type 0
IsListed m ns i = IfSome (the_session m 0 i).transaction (λ t. IfSome (request_of t.age m.ages.queue) (λ r. can_retry m.ages r ≡ true → has_session ns (the_session m 0 i).number ≡ true))

-- so are all before a place
abbrev pub AreListed : Parts → List ℕ → ℕ → Type 0
AreListed m ns k = (i : ℕ) → i < k → IsListed m ns i

on_some : {X : Type 0} {P Q : X → Type 0} (o : Option X) → ((x : X) → P x → Q x) → IfSome o P → IfSome o Q
on_some None f h = h
on_some (Some x) f h = f x h

on_both : {X Y : Type 0} (g : X → Option Y) {P Q : X → Y → Type 0} (o : Option X) → ((x : X) (y : Y) → P x y → Q x y) → IfSome o (λ x. IfSome (g x) (P x)) → IfSome o (λ x. IfSome (g x) (Q x))
on_both g o f h = on_some o (λ x. on_some (g x) (f x)) h

below_next : (P : ℕ → Type 0) (k : ℕ) → ((i : ℕ) → i < k → P i) → P k → (i : ℕ) → i < k + 1 → P i
below_next P k h last i lt = by (nat_lt i k) refl
  where
    same : (i k : ℕ) → i < k + 1 → nat_lt i k ≡ false → k ≡ i
    same i k lt e = grind (arith, nat_tests)

    less : (i k : ℕ) → nat_lt i k ≡ true → i < k
    less i k e = grind (arith, nat_tests)

    by : (b : Bool) → nat_lt i k ≡ b → P i
    by true e = h i (less i k e)
    by false e = subst P (same i k lt e) last

has_left : (ns : List ℕ) (x y : ℕ) → has_session ns y ≡ true → has_session (ns ++ x ∷ []) y ≡ true
has_left ns x y h = list_any-append (λ o. o == y) ns (x ∷ []) ∙ ap (λ b. b || list_any (λ o. o == y) (x ∷ [])) h

has_last : (ns : List ℕ) (x : ℕ) → has_session (ns ++ x ∷ []) x ≡ true
has_last ns x = list_any-append (λ o. o == x) ns (x ∷ []) ∙ ap (λ b. list_any (λ o. o == x) ns || (b || false)) same ∙ either (list_any (λ o. o == x) ns)
  where
    same : (x == x) ≡ true
    same = grind (arith, nat_tests)

    either : (b : Bool) → (b || (true || false)) ≡ true
    either true = refl
    either false = refl

-- the session at the next place is put into the list
pub listed_more : (m : Parts) (ns ns' : List ℕ) (k x : ℕ) → ns' ≡ ns ++ x ∷ [] → x ≡ (the_session m 0 k).number → AreListed m ns k → AreListed m ns' (k + 1)
listed_more m ns ns' k x is number h =
    subst (λ zs. AreListed m zs (k + 1)) (sym is)
    (below_next (IsListed m (ns ++ x ∷ [])) k
    (λ i lt. on_both (λ t. request_of (kept.Transaction.age t) m.ages.queue) (the_session m 0 i).transaction (λ t r f e. has_left ns x (the_session m 0 i).number (f e)) (h i lt))
    (all (the_session m 0 k).transaction))
  where
    there : has_session (ns ++ x ∷ []) (the_session m 0 k).number ≡ true
    there = subst (λ y. has_session (ns ++ x ∷ []) y ≡ true) number (has_last ns x)

    each : (o : Option Owned) → IfSome o (λ r. can_retry m.ages r ≡ true → has_session (ns ++ x ∷ []) (the_session m 0 k).number ≡ true)
    each None = tt
    each (Some r) = λ e. there

    all : (o : Option kept.Transaction) → IfSome o (λ t. IfSome (request_of t.age m.ages.queue) (λ r. can_retry m.ages r ≡ true → has_session (ns ++ x ∷ []) (the_session m 0 k).number ≡ true))
    all None = tt
    all (Some t) = each (request_of t.age m.ages.queue)

-- the session at the next place can't go on
pub listed_none : (m : Parts) (ns : List ℕ) (k : ℕ) (b : Bool) → b ≡ false → IsReadyAt m k b → AreListed m ns k → AreListed m ns (k + 1)
listed_none m ns k b is ready h =
    below_next (IsListed m ns) k h
    (on_both (λ t. request_of (kept.Transaction.age t) m.ages.queue) (the_session m 0 k).transaction (λ t r e can. absurd (no (sym is ∙ e ∙ can))) ready)
  where
    no : false ≡ true → ⊥
    no e = cc

-- ---- all places

abbrev IsFirst : ℕ → List Subscriber → ℕ → Type 0
IsFirst n ss i = (i < length ss) × (list_any (λ x. x.number == n) (take i ss) ≡ false) × (((get_or ss i nobody).number == n) ≡ true)

find_first : (n : ℕ) (ss : List Subscriber) (s : Subscriber) → at ss n ≡ Some s → (i : ℕ) × IsFirst n ss i
find_first n [] s h = cc
find_first n (x ∷ ss) s h = by (find_first n ss s) (x.number == n) refl h
  where
    by : (at ss n ≡ Some s → (i : ℕ) × IsFirst n ss i) → (b : Bool) → (x.number == n) ≡ b → (if b then Some x else at ss n) ≡ Some s → (i : ℕ) × IsFirst n (x ∷ ss) i
    by later true e g = (0, (omega arith, refl, e))
    by later false e g = let r = later g in let lt = r.1.0 in (suc r.0, (omega (arith, lt), ap (λ b. b || list_any (λ x. x.number == n) (take r.0 ss)) e ∙ r.1.1, r.1.2))

any_default : (ss : List Subscriber) (i : ℕ) (d e : Subscriber) → i < length ss → get_or ss i d ≡ get_or ss i e
any_default [] i d e lt = absurd (omega (arith, lt))
any_default (x ∷ ss) zero d e lt = refl
any_default (x ∷ ss) (suc i) d e lt = any_default ss i d e (omega (arith, lt))

-- the first place of a session
first : (n : ℕ) (ss : List Subscriber) (s : Subscriber) → at ss n ≡ Some s → (i : ℕ) × IsHeldAt ss n i
first n ss s h =
    let f = find_first n ss s h in
    (f.0, stands n ss f.0 (get_or ss f.0 nobody) f.1.0 f.1.1 (any_default ss f.0 nobody (get_or ss f.0 nobody) f.1.0) f.1.2)

module _ (m : Parts) (k : IsKept m) (n : ℕ) (q : request.Request) (asked : request_in (map queued_of m.queue.items) n ≡ Some (queued_of q)) (can : can_retry (ages_of (state_of m)) (q.age, needs q.operation) ≡ true) (ns : List ℕ) where
  module _ (i : ℕ) (there : IsHeldAt m.sessions n i) (listed : IsListed m ns i) where
    abbrev r : operating.IsRequest m n i k there q
    r = operating.requested m n i k there q asked

    can_too : can_retry m.ages (q.age, needs q.operation) ≡ true
    can_too =
        sym (operating.may m n i k there q asked (can_retry m.ages (q.age, needs q.operation)) refl)
        ∙ ap (λ a. can_retry (ages_of (state_of m)) (a, needs q.operation)) r.age ∙ can

    at_place : IfSome (Some r.transaction) (λ t. IfSome (request_of t.age m.ages.queue) (λ x. can_retry m.ages x ≡ true → has_session ns (the_session m n i).number ≡ true))
    at_place = subst (λ o. IfSome o (λ (t : kept.Transaction). IfSome (request_of t.age m.ages.queue) (λ x. can_retry m.ages x ≡ true → has_session ns (the_session m n i).number ≡ true))) r.open_t listed

    here : has_session ns (the_session m n i).number ≡ true
    here = subst (λ o. IfSome o (λ x. can_retry m.ages x ≡ true → has_session ns (the_session m n i).number ≡ true)) (ap (λ a. request_of a m.ages.queue) r.age ∙ r.request) at_place can_too

  owner : plain.HasAge (plain.transaction_at (state_of m) n) q.age
  owner = request_age (plain.transaction_at (state_of m)) n (map queued_of m.queue.items) (queued_of q) k.owners asked

  request_listed : (last : ℕ) → length m.sessions ≤ last → AreListed m ns last → has_session ns n ≡ true
  request_listed last past listed = by (at m.sessions n) refl
    where
      by : (o : Option Subscriber) → at m.sessions n ≡ o → has_session ns n ≡ true
      by None e = absurd (subst (λ o. plain.HasAge (plain.transaction_in o) q.age) (at_of m.sessions n ∙ ap (option_map session_of) e) owner)
      by (Some s) e =
          let p = first n m.sessions s e in
          let w = p.1.within in
          subst (λ a. has_session ns a ≡ true) (p.1.number nobody) (here p.0 p.1 (listed p.0 (omega (arith, w, past))))

pub all_ready : (m : Parts) (k : IsKept m) (ns : List ℕ) (last : ℕ) → length m.sessions ≤ last → AreListed m ns last → AreReady (state_of m) ns
all_ready m k ns last past listed n q asked can = request_listed m k n (record { session = q.session; age = q.age; operation = q.operation }) asked can ns last past listed
