-- One session among all, and the sessions with another in its place.
use Rattle.std.proofs.Common.{◌≡◌, ℕ, suc, List, [], ◌∷◌, Bool, true, false, refl, sym, ap, ◌∙◌, length, Option, Some, None}
use Rattle.std.specs.Prelude.{◌==◌, if◌then◌else◌, is_some, map, option_map, MatchOption, slice_index_or}
use Rattle.tab_model.specs.State.{Session, State, session_at}
use Rattle.tab_model.specs.Outcome.{Ask, outcome, step_of, with_session}
use Rattle.tab_model.proofs.SessionLists.{eq_true, found}
use Rattle.tab_subs.specs.Subscribers.{IsHeldAt, at, change, nobody}
use Rattle.tab_core.specs.Joined.{Subscriber}
use Rattle.tab_core.specs.Parts.{Parts, session_of, state_of}
use Rattle.tab_core.proofs.Keeping.{SameKeys}
use Rattle.tab_core.proofs.Places.{at_of, change_of}

pub at_session : (σ : State) (over : List ℕ) (n : ℕ) (a : Ask) (o : Option Session) → session_at σ.sessions n ≡ o → outcome σ over n a ≡ step_of σ over n a o
unfolding outcome
at_session σ over n a o h = ap (step_of σ over n a) h

-- ---- the same sessions as the definitions speak of them

pub none_at : (ss : List Subscriber) (n : ℕ) → at ss n ≡ None → session_at (map session_of ss) n ≡ None
none_at ss n h = at_of ss n ∙ ap (option_map session_of) h

pub some_at : (ss : List Subscriber) (n : ℕ) (b : Subscriber) → at ss n ≡ Some b → session_at (map session_of ss) n ≡ Some (session_of b)
some_at ss n b h = at_of ss n ∙ ap (option_map session_of) h

pub number_at : (ss : List Subscriber) (n : ℕ) (b : Subscriber) → at ss n ≡ Some b → b.number ≡ n
number_at ss n b h = found (map session_of ss) (session_of b) n (some_at ss n b h)

-- the state with another session in its place
pub changed : (m : Parts) (b : Subscriber) → with_session (state_of m) (session_of b) ≡ state_of (record m { sessions = change m.sessions b })
changed m b = ap (λ xs. let τ : State = record (state_of m) { sessions = xs } in τ) (change_of m.sessions b)

-- ---- sessions with the same numbers and transactions

pub same_keys : (ss : List Subscriber) → SameKeys ss ss
same_keys [] = tt
same_keys (s ∷ ss) = (refl, refl, same_keys ss)

one : {x y : Subscriber} → Some x ≡ Some y → x ≡ y
one q = cc

pub changed_keys : (ss : List Subscriber) (b c : Subscriber) → at ss c.number ≡ Some b → b.transaction ≡ c.transaction → SameKeys ss (change ss c)
changed_keys [] b c h e = tt
changed_keys (x ∷ ss) b c h e = by (x.number == c.number) refl h (changed_keys ss b c)
  where
    by : (d : Bool) → (x.number == c.number) ≡ d → (if d then Some x else at ss c.number) ≡ Some b → (at ss c.number ≡ Some b → b.transaction ≡ c.transaction → SameKeys ss (change ss c))
        → SameKeys (x ∷ ss) (if d then c ∷ ss else x ∷ change ss c)
    by true q g ih = (eq_true x.number c.number q, ap (λ (y : Subscriber). y.transaction) (one g) ∙ e, same_keys ss)
    by false q g ih = (refl, refl, ih g e)

pub change_itself : (ss : List Subscriber) (b : Subscriber) → at ss b.number ≡ Some b → change ss b ≡ ss
change_itself [] b h = refl
change_itself (x ∷ ss) b h = by (x.number == b.number) h (change_itself ss b)
  where
    by : (d : Bool) → (if d then Some x else at ss b.number) ≡ Some b → (at ss b.number ≡ Some b → change ss b ≡ ss) → (if d then b ∷ ss else x ∷ change ss b) ≡ x ∷ ss
    by true g ih = ap (λ y. y ∷ ss) (sym (one g))
    by false g ih = ap (λ xs. x ∷ xs) (ih g)

-- ---- what is seen of one

abbrev pub IsPlace : List Subscriber → ℕ → Option ℕ → Type 0
IsPlace ss n o = MatchOption o (at ss n ≡ None) (IsHeldAt ss n)

pub nowhere : (ss : List Subscriber) (n : ℕ) (o : Option ℕ) → IsPlace ss n o → is_some o ≡ false → at ss n ≡ None
nowhere ss n None p h = p
nowhere ss n (Some i) p h = cc

pub somewhere : (ss : List Subscriber) (n : ℕ) (o : Option ℕ) → IsPlace ss n o → is_some o ≡ true → (b : Subscriber) × (at ss n ≡ Some b)
somewhere ss n None p h = cc
somewhere ss n (Some i) p h = (slice_index_or ss i nobody, p.slot nobody)

pub joined_seen : (ss : List Subscriber) (n : ℕ) (o : Option ℕ) → IsPlace ss n o → is_some o ≡ is_some (session_at (map session_of ss) n)
joined_seen ss n None p = sym (ap is_some (none_at ss n p))
joined_seen ss n (Some i) p = sym (ap is_some (some_at ss n (slice_index_or ss i nobody) (p.slot nobody)))

pub count_seen : (ss : List Subscriber) → length ss ≡ length (map session_of ss)
count_seen [] = refl
count_seen (s ∷ ss) = ap suc (count_seen ss)
