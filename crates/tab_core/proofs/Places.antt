-- The sessions of a machine as those of the state.
use Rattle.std.proofs.Common.{◌≡◌, ℕ, zero, suc, ◌+◌, ◌<◌, ◌≤◌, List, [], ◌∷◌, Bool, true, false, not, refl, sym, ap, ◌∙◌, Some, None, length, get_or, set, arith}
use Rattle.std.specs.Prelude.{◌==◌, if◌then◌else◌, map, option_map}
use Rattle.std.specs.List.{filter}
use Rattle.tab_model.specs.State as plain
use Rattle.tab_model.specs.Outcome.{with_changed, without_session}
use Rattle.tab_model.proofs.SessionLists.{eq_true, itself, other_number}
use Rattle.tab_waitdie.proofs.Places.{map_filtered}
use Rattle.tab_core.specs.declared.transaction.Transaction as kept
use Rattle.tab_core.specs.Kept.{opens, count_open}
use Rattle.tab_subs.specs.Subscribers.{at, change, without}
use Rattle.tab_core.specs.Joined.{Subscriber}
use Rattle.tab_core.specs.Parts.{session_of}

-- ---- the same of the state's sessions

pub at_of : (ss : List Subscriber) (n : ℕ) → plain.session_at (map session_of ss) n ≡ option_map session_of (at ss n)
at_of [] n = refl
at_of (x ∷ ss) n = by (x.number == n) (at_of ss n)
  where
    by : (b : Bool) → plain.session_at (map session_of ss) n ≡ option_map session_of (at ss n) → (if b then Some (session_of x) else plain.session_at (map session_of ss) n) ≡ option_map session_of (if b then Some x else at ss n)
    by true ih = refl
    by false ih = ih

pub change_of : (ss : List Subscriber) (b : Subscriber) → with_changed (map session_of ss) (session_of b) ≡ map session_of (change ss b)
change_of [] b = refl
change_of (x ∷ ss) b = by (x.number == b.number) (change_of ss b)
  where
    by : (c : Bool) → with_changed (map session_of ss) (session_of b) ≡ map session_of (change ss b) → (if c then session_of b ∷ map session_of ss else session_of x ∷ with_changed (map session_of ss) (session_of b)) ≡ map session_of (if c then b ∷ ss else x ∷ change ss b)
    by true ih = refl
    by false ih = ap (λ zs. session_of x ∷ zs) ih

pub without_filtered : (n : ℕ) (ss : List Subscriber) → map session_of (filter (λ s. not (s.number == n)) ss) ≡ without_session (map session_of ss) n
without_filtered n ss = map_filtered session_of (λ s. not (s.number == n)) ss

pub at_filtered : (n m : ℕ) (ss : List Subscriber) → at (filter (λ s. not (s.number == n)) ss) m ≡ (if m == n then None else at ss m)
at_filtered n m [] = by (m == n)
  where
    by : (c : Bool) → None ≡ (if c then None else at {T = kept.Transaction} [] m)
    by true = refl
    by false = refl
at_filtered n m (x ∷ ss) = by (x.number == n) (x.number == m) (m == n) refl refl refl (at_filtered n m ss)
  where
    by : (a b c : Bool) → (x.number == n) ≡ a → (x.number == m) ≡ b → (m == n) ≡ c → at (filter (λ s. not (s.number == n)) ss) m ≡ (if c then None else at ss m)
        → at (if not a then x ∷ filter (λ s. not (s.number == n)) ss else filter (λ s. not (s.number == n)) ss) m ≡ (if c then None else (if b then Some x else at ss m))
    by true b true f g h ih = ih
    by true true false f g h ih = absurd (other_number m n h (sym (eq_true x.number m g) ∙ eq_true x.number n f))
    by true false false f g h ih = ih
    by false true true f g h ih = absurd (other_number x.number n f (eq_true x.number m g ∙ eq_true m n h))
    by false false true f g h ih = ap (λ b. if b then Some x else at (filter (λ s. not (s.number == n)) ss) m) g ∙ ih
    by false true false f g h ih = ap (λ b. if b then Some x else at (filter (λ s. not (s.number == n)) ss) m) g
    by false false false f g h ih = ap (λ b. if b then Some x else at (filter (λ s. not (s.number == n)) ss) m) g ∙ ih

-- ---- how many transactions are open

pub counts : (ss : List Subscriber) (i : ℕ) (y d : Subscriber) → i < length ss → count_open (set ss i y) + opens (get_or ss i d).transaction ≡ count_open ss + opens y.transaction
counts [] i y d lt = absurd (omega arith)
counts (x ∷ ss) zero y d lt = omega arith
counts (x ∷ ss) (suc i) y d lt = let ih = counts ss i y d (omega arith) in omega (arith, ih)

pub counts_fewer : (n : ℕ) (ss : List Subscriber) → count_open (filter (λ s. not (s.number == n)) ss) ≤ count_open ss
counts_fewer n [] = omega arith
counts_fewer n (x ∷ ss) = by (x.number == n) (counts_fewer n ss)
  where
    by : (b : Bool) → count_open (filter (λ s. not (s.number == n)) ss) ≤ count_open ss → count_open (if not b then x ∷ filter (λ s. not (s.number == n)) ss else filter (λ s. not (s.number == n)) ss) ≤ opens x.transaction + count_open ss
    by true ih = omega (arith, ih)
    by false ih = omega (arith, ih)

-- ---- a session that is taken away

pub without_set : (n : ℕ) (ss : List Subscriber) (i : ℕ) (y d : Subscriber) → i < length ss → (get_or ss i d).number ≡ n → y.number ≡ n → without (set ss i y) n ≡ without ss n
without_set n [] i y d lt h e = absurd (omega arith)
without_set n (x ∷ ss) zero y d lt h e = (λ j. if not (test y e j) then y ∷ without ss n else without ss n) ∙ sym (λ j. if not (test x h j) then x ∷ without ss n else without ss n)
  where
    test : (s : Subscriber) → s.number ≡ n → (s.number == n) ≡ true
    test s g = ap (λ k. k == n) g ∙ itself n
without_set n (x ∷ ss) (suc i) y d lt h e = by (x.number == n) (without_set n ss i y d (omega arith) h e)
  where
    by : (b : Bool) → without (set ss i y) n ≡ without ss n → (if not b then x ∷ without (set ss i y) n else without (set ss i y) n) ≡ (if not b then x ∷ without ss n else without ss n)
    by true ih = ih
    by false ih = ap (λ zs. x ∷ zs) ih
