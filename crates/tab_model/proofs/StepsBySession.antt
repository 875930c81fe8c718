-- Sessions: whose locks they hold, and that a step of one session keeps what every reached state has.
use Rattle.std.proofs.Common.{◌≡◌, ◌≢◌, ℕ, ◌<◌, ◌≤◌, List, [], ◌∷◌, ◌++◌, Bool, true, false, ◌||◌, ◌&&◌, not, refl, sym, ap, ◌∙◌, subst, arith, Option, Some, None}
use Rattle.std.specs.Prelude.{◌==◌, if◌then◌else◌, map}
use Rattle.std.specs.List.{list_any}
use Rattle.std.proofs.lemmas.Bool.Decides.{nat_tests}
use Rattle.std.proofs.lemmas.Bool.{and_parts, not-true, or_parts, or_right}
use Rattle.std.proofs.lemmas.List.Folds.{list_any-append}
use Rattle.tab_model.specs.declared.data.Move.{Move}
use Rattle.tab_model.specs.declared.data.Move.TheVariants.{Do, Open, Close, Undo}
use Rattle.tab_model.specs.Alone.{Mid, start, after, reply_to, next, replies}
use Rattle.tab_model.specs.Locks.{Lock, needs, locks_of, conflict, covers, Apart}
use Rattle.tab_model.specs.Ages.{Owned, Granted, Wait, Die, opposes, covers_own, decide}
use Rattle.tab_model.specs.State.{Transaction, Session, Queued, State, session_at, transaction_in, moves_in, replies_in, age_in, transaction_at, moves_at, with_age, locks_held_by, locks_held_in, locks_queued_in, ages_of, mid_of, AreDistinct, IsSound}
use Rattle.tab_model.specs.Outcome.{with_changed, without_session, with_move, begun_anew}
use Rattle.tab_model.proofs.SessionLists.{eq_true, other_number, session_at-map, mapped, itself}
use Rattle.tab_model.proofs.LocksLemmas.{conflict-sym, served_one}
use Rattle.tab_model.proofs.WaitsHaveNoCycle.{either_one}

-- ---- traces with one move more

pub replies-more : (m : Mid) (xs : List Move) (x : Move) → replies m (xs ++ x ∷ []) ≡ replies m xs ++ reply_to (after m xs) x ∷ []
replies-more m [] x = refl
replies-more m (y ∷ xs) x = ap (λ rs. reply_to m y ∷ rs) (replies-more (next m y) xs x)

-- a move adds at most the lock that it needs
abbrev pub lock_of_move : Move → List Lock
lock_of_move (Do o) = needs o ∷ []
lock_of_move Open = []
lock_of_move Close = []
lock_of_move Undo = []

pub locks-more : (xs : List Move) (x : Move) → locks_of (xs ++ x ∷ []) ≡ locks_of xs ++ lock_of_move x
locks-more [] (Do o) = refl
locks-more [] Open = refl
locks-more [] Close = refl
locks-more [] Undo = refl
locks-more (Do o ∷ xs) x = ap (λ ls. needs o ∷ ls) (locks-more xs x)
locks-more (Open ∷ xs) x = locks-more xs x
locks-more (Close ∷ xs) x = locks-more xs x
locks-more (Undo ∷ xs) x = locks-more xs x

-- ---- apart

any_none : {A : Type 0} (xs : List A) → list_any (λ x. false) xs ≡ false
any_none [] = refl
any_none (x ∷ xs) = any_none xs

any_or : {A : Type 0} (p q : A → Bool) (xs : List A) → list_any (λ x. p x || q x) xs ≡ (list_any p xs || list_any q xs)
any_or p q [] = refl
any_or p q (x ∷ xs) = grind (arith, nat_tests, any_or p q xs)

apart_swap : (ls ms : List Lock) → list_any (λ a. list_any (conflict a) ms) ls ≡ list_any (λ b. list_any (λ a. conflict b a) ls) ms
apart_swap [] ms = sym (any_none ms)
apart_swap (l ∷ ls) ms =
    (λ i. list_any (λ b. conflict-sym l b i) ms || apart_swap ls ms i) ∙ sym (any_or (λ b. conflict b l) (λ b. list_any (conflict b) ls) ms)

pub Apart-sym : (ls ms : List Lock) → Apart ls ms → Apart ms ls
Apart-sym ls ms h = sym (apart_swap ls ms) ∙ h

Apart-append : (ls ms ns : List Lock) → Apart ls ns → Apart ms ns → Apart (ls ++ ms) ns
Apart-append ls ms ns p q = list_any-append (λ a. list_any (conflict a) ns) ls ms ∙ (λ i. p i || q i)

served_all : (l a : Lock) (ms : List Lock) → covers l a ≡ true → list_any (conflict a) ms ≡ false → list_any (conflict l) ms ≡ false
served_all l a [] e f = refl
served_all l a (b ∷ ms) e f = let p = or_parts (conflict a b) (list_any (conflict a) ms) f in λ i. served_one l a b e p.0 i || served_all l a ms e p.1 i

-- what a lock covers conflicts with nothing that the lock is apart from
served : (l : Lock) (ls ms : List Lock) → list_any (covers l) ls ≡ true → Apart ls ms → list_any (conflict l) ms ≡ false
served l [] ms e f = cc
served l (a ∷ ls) ms e f =
    let p = or_parts (list_any (conflict a) ms) (list_any (λ b. list_any (conflict b) ms) ls) f in
    either_one (list_any (conflict l) ms ≡ false) (covers l a) (list_any (covers l) ls) e (λ h. served_all l a ms h p.0) (λ h. served l ls ms h p.1)

-- ---- the locks of a session among all

any_aged : (p : Owned → Bool) (a : ℕ) (ls : List Lock) → list_any p (with_age a ls) ≡ list_any (λ l. p (a, l)) ls
any_aged p a [] = refl
any_aged p a (l ∷ ls) = ap (λ b. p (a, l) || b) (any_aged p a ls)

pub held_none : (p : Owned → Bool) (sessions : List Session) (m : ℕ) → list_any p (locks_held_in sessions) ≡ false → list_any p (locks_held_by (transaction_in (session_at sessions m))) ≡ false
held_none p [] m h = refl
held_none p (x ∷ xs) m h =
    let q = or_parts (list_any p (locks_held_by x.transaction)) (list_any p (locks_held_in xs)) (sym (list_any-append p (locks_held_by x.transaction) (locks_held_in xs)) ∙ h) in
    cases (x.number == m) q.0 (held_none p xs m q.1)
  where
    cases : (b : Bool) → list_any p (locks_held_by x.transaction) ≡ false → list_any p (locks_held_by (transaction_in (session_at xs m))) ≡ false → list_any p (locks_held_by (transaction_in (if b then Some x else session_at xs m))) ≡ false
    cases true h ih = h
    cases false h ih = ih

pub record IsHolder (p : Owned → Bool) (sessions : List Session) : Type 0 where
  pub slot : Session
  pub here : session_at sessions slot.number ≡ Some slot
  pub holds : list_any p (locks_held_by slot.transaction) ≡ true

pub held_some : (p : Owned → Bool) (sessions : List Session) → AreDistinct sessions → list_any p (locks_held_in sessions) ≡ true → IsHolder p sessions
held_some p [] d h = cc
held_some p (x ∷ xs) d h =
    either_one (IsHolder p (x ∷ xs)) (list_any p (locks_held_by x.transaction)) (list_any p (locks_held_in xs)) (sym (list_any-append p (locks_held_by x.transaction) (locks_held_in xs)) ∙ h)
    (λ e. record { slot = x; here = ap (λ b. if b then Some x else session_at xs x.number) (itself x.number); holds = e })
    (λ e. behind (held_some p xs d.1 e))
  where
    behind : IsHolder p xs → IsHolder p (x ∷ xs)
    behind r = record { slot = r.slot; here = cases (x.number == r.slot.number) refl; holds = r.holds }
      where
        cases : (b : Bool) → (x.number == r.slot.number) ≡ b → (if b then Some x else session_at xs r.slot.number) ≡ Some r.slot
        cases false e = r.here
        cases true e = let g : Some r.slot ≡ None = sym r.here ∙ ap (session_at xs) (sym (eq_true x.number r.slot.number e)) ∙ d.0 in cc

-- ---- a lock that is granted is apart from all others'

differ_false : (m n : ℕ) → (m ≡ n → ⊥) → (m == n) ≡ false
differ_false m n h = cases (m == n) refl
  where
    cases : (b : Bool) → (m == n) ≡ b → b ≡ false
    cases true e = absurd (h (eq_true m n e))
    cases false e = refl

-- of another age, what doesn't oppose doesn't conflict
unopposed : (a b : ℕ) (l : Lock) (ls : List Lock) → (b == a) ≡ false → list_any (opposes (a, l)) (with_age b ls) ≡ false → list_any (conflict l) ls ≡ false
unopposed a b l [] e h = refl
unopposed a b l (k ∷ ls) e h =
    let p = or_parts (opposes (a, l) (b, k)) (list_any (opposes (a, l)) (with_age b ls)) h in
    λ i. (ap (λ z. not z && conflict l k) (sym e) ∙ p.0) i || unopposed a b l ls e p.1 i

pub unopposed_apart : (σ : State) (n m : ℕ) (t : Transaction) (l : Lock) → IsSound σ → transaction_at σ n ≡ Some t → m ≢ n → list_any (opposes (t.age, l)) (locks_held_in σ.sessions) ≡ false → list_any (conflict l) (locks_of (moves_at σ m)) ≡ false
unopposed_apart σ n m t l sound mine differ h = cases (transaction_at σ m) refl (held_none (opposes (t.age, l)) σ.sessions m h)
  where
    cases : (o : Option Transaction) → transaction_at σ m ≡ o → list_any (opposes (t.age, l)) (locks_held_by o) ≡ false → list_any (conflict l) (locks_of (moves_in o)) ≡ false
    cases None e g = refl
    cases (Some u) e g = unopposed t.age u.age l (locks_of u.moves) (differ_false u.age t.age (λ same. differ (sound.ages m n u t e mine same))) g

granted_is : (a b : Bool) → (if a then Granted else if b then Die else Wait) ≡ Granted → a ≡ true
granted_is true b h = refl
granted_is false true h = cc
granted_is false false h = cc

-- an own lock that covers, told from the others' by its age
covered_own : (a b : ℕ) (l : Lock) (ls : List Lock) → list_any (covers_own (a, l)) (with_age b ls) ≡ true → (b ≡ a) × (list_any (covers l) ls ≡ true)
covered_own a b l [] h = cc
covered_own a b l (k ∷ ls) h = either_one ((b ≡ a) × (list_any (covers l) (k ∷ ls) ≡ true)) (covers_own (a, l) (b, k)) (list_any (covers_own (a, l)) (with_age b ls)) h
    (λ e. let p = and_parts (b == a) (covers l k) e in (eq_true b a p.0, ap (λ z. z || list_any (covers l) ls) p.1))
    (λ e. let p = covered_own a b l ls e in (p.0, or_right (covers l k) (list_any (covers l) ls) p.1))

pub granted_apart : (σ : State) (n m : ℕ) (t : Transaction) (l : Lock) → IsSound σ → transaction_at σ n ≡ Some t → m ≢ n → decide (ages_of σ) (t.age, l) ≡ Granted → list_any (conflict l) (locks_of (moves_at σ m)) ≡ false
granted_apart σ n m t l sound mine differ granted =
    either_one (list_any (conflict l) (locks_of (moves_at σ m)) ≡ false) (list_any (covers_own (t.age, l)) (locks_held_in σ.sessions)) (not (list_any (opposes (t.age, l)) (locks_held_in σ.sessions ++ locks_queued_in σ.queue)))
    (granted_is _ _ granted)
    (λ e. covered (held_some (covers_own (t.age, l)) σ.sessions sound.distinct e))
    (λ e. unopposed_apart σ n m t l sound mine differ (or_parts _ _ (sym (list_any-append (opposes (t.age, l)) (locks_held_in σ.sessions) (locks_queued_in σ.queue)) ∙ not-true _ e)).0)
  where
    covered : IsHolder (covers_own (t.age, l)) σ.sessions → list_any (conflict l) (locks_of (moves_at σ m)) ≡ false
    covered r = cases r.slot.transaction refl r.holds
      where
        cases : (o : Option Transaction) → r.slot.transaction ≡ o → list_any (covers_own (t.age, l)) (locks_held_by o) ≡ true → list_any (conflict l) (locks_of (moves_at σ m)) ≡ false
        cases None e g = cc
        cases (Some u) e g =
            let c = covered_own t.age u.age l (locks_of u.moves) g in
            let at_u : transaction_at σ r.slot.number ≡ Some u = ap transaction_in r.here ∙ e in
            let same : r.slot.number ≡ n = sound.ages r.slot.number n u t at_u mine c.0 in
            let own : moves_at σ n ≡ u.moves = ap (moves_at σ) (sym same) ∙ ap moves_in at_u in
            served l (locks_of u.moves) (locks_of (moves_at σ m)) c.1 (subst (λ (xs : List Move). Apart (locks_of xs) (locks_of (moves_at σ m))) own (sound.apart n m (λ h. differ (sym h))))

-- ---- a session takes another transaction

-- a transaction that a session may have beside all others'
pub record MaySit (σ : State) (n : ℕ) (o : Option Transaction) : Type 0 where
  pub told : replies (start σ.tables (age_in o)) (moves_in o) ≡ replies_in o
  pub apart : (m : ℕ) → m ≢ n → Apart (locks_of (moves_in o)) (locks_of (moves_at σ m))
  pub ages : (m : ℕ) (t u : Transaction) → m ≢ n → o ≡ Some t → transaction_at σ m ≡ Some u → t.age ≢ u.age

pub none_sits : (σ : State) (n : ℕ) → MaySit σ n None
none_sits σ n = record { told = refl; apart = λ m d. refl; ages = λ m t u d e f. cc }

pub own_sits : (σ : State) (n : ℕ) → IsSound σ → MaySit σ n (transaction_at σ n)
own_sits σ n sound = record {
  told = sound.told n;
  apart = λ m d. sound.apart n m (λ e. d (sym e));
  ages = λ m t u d e f same. d (sound.ages m n u t f e (sym same));
}

-- of the same age, with another trace
aged_sits : (σ : State) (n : ℕ) (t v : Transaction) → IsSound σ → transaction_at σ n ≡ Some t → v.age ≡ t.age → replies (start σ.tables v.age) v.moves ≡ v.told
    → ((m : ℕ) → m ≢ n → Apart (locks_of v.moves) (locks_of (moves_at σ m))) → MaySit σ n (Some v)
aged_sits σ n t v sound mine age right apart = record {
  told = right;
  apart = apart;
  ages = λ m x u d e f same. d (sound.ages m n u t f mine (let h : v ≡ x = cc in sym same ∙ ap (λ z. z.age) (sym h) ∙ age));
}

pub emptied_sits : (σ : State) (n : ℕ) (t : Transaction) → IsSound σ → transaction_at σ n ≡ Some t → MaySit σ n (Some (begun_anew t))
emptied_sits σ n t sound mine = aged_sits σ n t (begun_anew t) sound mine refl refl (λ m d. refl)

pub more_sits : (σ : State) (n : ℕ) (t : Transaction) (x : Move) → IsSound σ → transaction_at σ n ≡ Some t
    → ((m : ℕ) → m ≢ n → Apart (lock_of_move x) (locks_of (moves_at σ m))) → MaySit σ n (Some (with_move t x (reply_to (mid_of σ t) x)))
more_sits σ n t x sound mine free = aged_sits σ n t (with_move t x (reply_to (mid_of σ t) x)) sound mine refl
    (replies-more (start σ.tables t.age) t.moves x ∙ ap (λ rs. rs ++ reply_to (mid_of σ t) x ∷ []) (ap (λ (o : Option Transaction). replies (start σ.tables (age_in o)) (moves_in o)) (sym mine) ∙ sound.told n ∙ ap replies_in mine))
    (λ m d. subst (λ (ls : List Lock). Apart ls (locks_of (moves_at σ m))) (sym (locks-more t.moves x))
    (Apart-append (locks_of t.moves) (lock_of_move x) (locks_of (moves_at σ m)) (subst (λ (o : Option Transaction). Apart (locks_of (moves_in o)) (locks_of (moves_at σ m))) mine (sound.apart n m (λ e. d (sym e)))) (free m d)))

-- one session is another, and all else stays
pub session_sound : (σ : State) (sessions : List Session) (qs : List Queued) (a c g n : ℕ) (o : Option Session)
    → ((q : ℕ) → session_at sessions q ≡ (if q == n then o else session_at σ.sessions q))
    → IsSound σ → MaySit σ n (transaction_in o) → ((t : Transaction) → transaction_in o ≡ Some t → t.age < a) → σ.next_age ≤ a
    → ((s : Session) → o ≡ Some s → n ≤ g) → σ.greatest ≤ g → AreDistinct sessions
    → IsSound (record σ { sessions = sessions; queue = qs; next_age = a; commits = c; greatest = g })
session_sound σ sessions qs a c g n o at' sound sits below later within_g above distinct = record {
  told = λ q. subst (λ (x : Option Session). replies (start σ.tables (age_in (transaction_in x))) (moves_in (transaction_in x)) ≡ replies_in (transaction_in x)) (sym (at' q)) (told_if q (q == n));
  apart = λ p q differ. subst (λ (x : Option Session). Apart (locks_of (moves_in (transaction_in x))) (locks_of (moves_in (transaction_in (session_at sessions q))))) (sym (at' p))
      (subst (λ (x : Option Session). Apart (locks_of (moves_in (transaction_in (pick p (p == n))))) (locks_of (moves_in (transaction_in x)))) (sym (at' q)) (apart_if p q differ (p == n) (q == n) refl refl));
  ages = λ p q t u e f same. ages_if p q t u (p == n) (q == n) refl refl (ap transaction_in (sym (at' p)) ∙ e) (ap transaction_in (sym (at' q)) ∙ f) same;
  taken = λ q t e. taken_if q t (q == n) (ap transaction_in (sym (at' q)) ∙ e);
  joined = λ q s e. joined_if q s (q == n) refl (sym (at' q) ∙ e);
  distinct = distinct;
  ordered = sound.ordered;
}
  where
    pick : ℕ → Bool → Option Session
    pick q b = if b then o else session_at σ.sessions q

    told_if : (q : ℕ) (b : Bool) → replies (start σ.tables (age_in (transaction_in (if b then o else session_at σ.sessions q)))) (moves_in (transaction_in (if b then o else session_at σ.sessions q))) ≡ replies_in (transaction_in (if b then o else session_at σ.sessions q))
    told_if q true = sits.told
    told_if q false = sound.told q

    apart_if : (p q : ℕ) → p ≢ q → (b d : Bool) → (p == n) ≡ b → (q == n) ≡ d → Apart (locks_of (moves_in (transaction_in (if b then o else session_at σ.sessions p)))) (locks_of (moves_in (transaction_in (if d then o else session_at σ.sessions q))))
    apart_if p q differ true true e f = absurd (differ (eq_true p n e ∙ sym (eq_true q n f)))
    apart_if p q differ true false e f = sits.apart q (other_number q n f)
    apart_if p q differ false true e f = Apart-sym (locks_of (moves_in (transaction_in o))) (locks_of (moves_at σ p)) (sits.apart p (other_number p n e))
    apart_if p q differ false false e f = sound.apart p q differ

    ages_if : (p q : ℕ) (t u : Transaction) (b d : Bool) → (p == n) ≡ b → (q == n) ≡ d → transaction_in (if b then o else session_at σ.sessions p) ≡ Some t → transaction_in (if d then o else session_at σ.sessions q) ≡ Some u → t.age ≡ u.age → p ≡ q
    ages_if p q t u true true e f h k same = eq_true p n e ∙ sym (eq_true q n f)
    ages_if p q t u true false e f h k same = absurd (sits.ages q t u (other_number q n f) h k same)
    ages_if p q t u false true e f h k same = absurd (sits.ages p u t (other_number p n e) k h (sym same))
    ages_if p q t u false false e f h k same = sound.ages p q t u h k same

    taken_if : (q : ℕ) (t : Transaction) (b : Bool) → transaction_in (if b then o else session_at σ.sessions q) ≡ Some t → t.age < a
    taken_if q t true h = below t h
    taken_if q t false h = let k = sound.taken q t h in omega (arith, k, later)

    joined_if : (q : ℕ) (s : Session) (b : Bool) → (q == n) ≡ b → (if b then o else session_at σ.sessions q) ≡ Some s → q ≤ g
    joined_if q s true e h = let k = within_g s h in let same = eq_true q n e in omega (arith, k, same)
    joined_if q s false e h = let k = sound.joined q s h in omega (arith, k, above)

-- ---- sessions sit once

pub change_none : (sessions : List Session) (s : Session) (q : ℕ) → session_at sessions q ≡ None → session_at (with_changed sessions s) q ≡ None
change_none [] s q h = refl
change_none (x ∷ xs) s q h = grind (arith, nat_tests, change_none xs s q)

pub distinct-change : (sessions : List Session) (s : Session) → AreDistinct sessions → AreDistinct (with_changed sessions s)
distinct-change [] s d = tt
distinct-change (x ∷ xs) s d = cases (distinct-change xs s d.1) (x.number == s.number) refl
  where
    cases : AreDistinct (with_changed xs s) → (b : Bool) → (x.number == s.number) ≡ b → AreDistinct (if b then s ∷ xs else x ∷ with_changed xs s)
    cases ih true e = (ap (session_at xs) (sym (eq_true x.number s.number e)) ∙ d.0, d.1)
    cases ih false e = (change_none xs s x.number d.0, ih)

pub without_none : (sessions : List Session) (n q : ℕ) → session_at sessions q ≡ None → session_at (without_session sessions n) q ≡ None
without_none [] n q h = refl
without_none (x ∷ xs) n q h = grind (arith, nat_tests, without_none xs n q)

pub distinct-without : (sessions : List Session) (n : ℕ) → AreDistinct sessions → AreDistinct (without_session sessions n)
distinct-without [] n d = tt
distinct-without (x ∷ xs) n d = cases (distinct-without xs n d.1) (x.number == n)
  where
    cases : AreDistinct (without_session xs n) → (b : Bool) → AreDistinct (if not b then x ∷ without_session xs n else without_session xs n)
    cases ih true = ih
    cases ih false = (without_none xs n x.number d.0, ih)

pub push_none : (sessions : List Session) (s : Session) (q : ℕ) → session_at sessions q ≡ None → (s.number == q) ≡ false → session_at (sessions ++ s ∷ []) q ≡ None
push_none [] s q h e = grind (arith, nat_tests)
push_none (x ∷ xs) s q h e = grind (arith, nat_tests, push_none xs s q)

pub distinct-push : (sessions : List Session) (s : Session) → session_at sessions s.number ≡ None → AreDistinct sessions → AreDistinct (sessions ++ s ∷ [])
distinct-push [] s h d = (refl, tt)
distinct-push (x ∷ xs) s h d = cases (λ g. distinct-push xs s g d.1) (x.number == s.number) refl h
  where
    flip : (m n : ℕ) → (m == n) ≡ false → (n == m) ≡ false
    flip m n e = grind (arith, nat_tests)

    cases : (session_at xs s.number ≡ None → AreDistinct (xs ++ s ∷ [])) → (b : Bool) → (x.number == s.number) ≡ b → (if b then Some x else session_at xs s.number) ≡ None → AreDistinct (x ∷ (xs ++ s ∷ []))
    cases ih true e g = cc
    cases ih false e g = (push_none xs s x.number d.0 (flip x.number s.number e), ih g)

pub distinct-map : (f : Session → Session) → ((s : Session) → (f s).number ≡ s.number) → (sessions : List Session) → AreDistinct sessions → AreDistinct (map f sessions)
unfolding mapped
distinct-map f h [] d = tt
distinct-map f h (x ∷ xs) d = (ap (session_at (map f xs)) (h x) ∙ session_at-map f h xs x.number ∙ ap (mapped f) d.0, distinct-map f h xs d.1)
