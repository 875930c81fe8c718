-- Locks by number, where one stands before a map of the others: whether some lock passes, that no number stands twice, and what is put.
use Rattle.std.proofs.Common.{◌≡◌, ℕ, List, [], ◌∷◌, Bool, true, false, ◌||◌, not, cond, refl, sym, ap, subst, ◌∙◌, ◌↔◌, IsTrue, length, arith, Option, Some, None, Result, Ok, Err, IfOk, OnOk, OnErr, Ordering, Less, Equal, Greater, nat_cmp}
use Rattle.std.proofs.lemmas.Map.Keys.{IsDistinct-from_sorted, IsDistinct-head, IsDistinct-tail, IsDistinct-cons}
use Rattle.std.proofs.lemmas.Map.Steps.{set_value_same}
use Rattle.std.specs.BTreeMap.{is_at, insert_entry}
use Rattle.std.specs.Cmp.{nat_cmp_total, eq_by_cmp_equiv}
use Rattle.std.specs.List.{AllByRecursion, IsDistinct, list_any, cons_option}
use Rattle.std.specs.List.Sorted.{IsStrictlySortedBy}
use Rattle.std.specs.Map.{keys_of, values_of, lookup, remove_entry}
use Rattle.std.specs.Ordering.{match_ordering, eq_by_cmp}
use Rattle.tab_term.specs.declared.term.Term.{Term}
use Rattle.tab_locks.specs.declared.key_lock.KeyLock.{KeyLock}
use Rattle.tab_locks.specs.declared.met.Met.{Met}
use Rattle.tab_locks.specs.declared.met.Met.TheVariants.{Nothing, Itself, ItsKey, AnotherKey}
use Rattle.tab_locks.specs.Members.{HasMore}
use Rattle.tab_locks.specs.Numbered.{IsApart, lock_on, met_by, met_in, Inserts, Puts}
use Rattle.tab_locks.specs.Spots.{Holding}
use Rattle.tab_locks.proofs.Lookups.{any_insert}
use Rattle.tab_locks.proofs.Passing.{any_map, or_swap}
use Rattle.tab_locks.proofs.PutEntry.{put_found}

abbrev Entries : Type 0
Entries = List (ℕ × KeyLock)

-- ---- all of them

pub any_values : (p : KeyLock → Bool) (es : Entries) → list_any p (values_of es) ≡ list_any (λ (e : ℕ × KeyLock). p e.1) es
any_values p es = any_map p (λ (e : ℕ × KeyLock). e.1) es

pub some_other : (b : Bool) (es : Entries) → (IsTrue b ↔ (length es ≡ 0)) → not b ≡ list_any (λ (e : ℕ × KeyLock). true) es
some_other b [] h = ap not (h.1 refl)
some_other true (e ∷ es) h = absurd (omega (arith, h.0 refl))
some_other false (e ∷ es) h = refl

pub no_others : (es : Entries) → length es ≡ 0 → es ≡ []
no_others [] n = refl
no_others (e ∷ es) n = absurd (omega (arith, n))

pub any_beside : (p : KeyLock → Bool) (f : ℕ × KeyLock) (first : Option (ℕ × KeyLock)) (es : Entries) → first ≡ Some f → p f.1 ≡ false
    → list_any (λ (e : ℕ × KeyLock). p e.1) es ≡ list_any (λ (e : ℕ × KeyLock). p e.1) (cons_option first es)
any_beside p f first es is out = (λ i. sym out i || list_any (λ (e : ℕ × KeyLock). p e.1) es) ∙ ap (λ o. list_any (λ (e : ℕ × KeyLock). p e.1) (cons_option o es)) (sym is)

-- ---- the numbers stay apart

other_first : (test : ℕ → Bool) (e : ℕ × KeyLock) → lookup test (e ∷ []) ≡ None → test e.0 ≡ false
other_first test e l = by (test e.0) l
  where
    by : (b : Bool) → cond b (Some e.1) None ≡ None → b ≡ false
    by true n = absurd cc
    by false n = refl

all_inserted : (P : ℕ → Type 0) (q : ℕ) (w : KeyLock) (es : Entries) → P q → AllByRecursion P (keys_of es) → AllByRecursion P (keys_of (insert_entry nat_cmp es q w))
all_inserted P q w [] p a = (p, tt)
all_inserted P q w (e ∷ es) p a = by (nat_cmp q e.0) (all_inserted P q w es p a.1)
  where
    by : (o : Ordering) → AllByRecursion P (keys_of (insert_entry nat_cmp es q w)) → AllByRecursion P (keys_of (match_ordering o ((q, w) ∷ e ∷ es) ((e.0, w) ∷ es) (e ∷ insert_entry nat_cmp es q w)))
    by Less ih = (p, a)
    by Equal ih = a
    by Greater ih = (a.0, ih)

all_without : (P : ℕ → Type 0) (test : ℕ → Bool) (es : Entries) → AllByRecursion P (keys_of es) → AllByRecursion P (keys_of (remove_entry test es))
all_without P test [] a = a
all_without P test (e ∷ es) a = by (test e.0) (all_without P test es a.1)
  where
    by : (b : Bool) → AllByRecursion P (keys_of (remove_entry test es)) → AllByRecursion P (keys_of (cond b es (e ∷ remove_entry test es)))
    by true ih = a.1
    by false ih = (a.0, ih)

sorted_apart : (es : Entries) → IsStrictlySortedBy nat_cmp (keys_of es) → IsApart es
sorted_apart es s = IsDistinct-from_sorted nat_cmp (keys_of es) s

pub apart_none : IsApart []
unfolding IsDistinct
apart_none = tt

pub apart_alone : (e : ℕ × KeyLock) → IsApart (e ∷ [])
unfolding IsDistinct
apart_alone e = (tt, tt)

pub apart_others : (first : Option (ℕ × KeyLock)) (es : Entries) → IsApart (cons_option first es) → IsApart es
apart_others None es d = d
apart_others (Some e) es d = IsDistinct-tail (eq_by_cmp nat_cmp) e.0 (keys_of es) d

pub apart_without : (test : ℕ → Bool) (first : Option (ℕ × KeyLock)) (es new : Entries) → new ≡ remove_entry test es → IsStrictlySortedBy nat_cmp (keys_of new) → IsApart (cons_option first es) → IsApart (cons_option first new)
apart_without test None es new is s d = sorted_apart new s
apart_without test (Some e) es new is s d =
    IsDistinct-cons (eq_by_cmp nat_cmp) e.0 (keys_of new)
    (subst (λ (fs : Entries). AllByRecursion (λ y. eq_by_cmp nat_cmp e.0 y ≡ false) (keys_of fs)) (sym is) (all_without (λ y. eq_by_cmp nat_cmp e.0 y ≡ false) test es (IsDistinct-head (eq_by_cmp nat_cmp) e.0 (keys_of es) d)))
    (sorted_apart new s)

apart_inserted : (q : ℕ) (w : KeyLock) (first : Option (ℕ × KeyLock)) (es new : Entries) → lookup (is_at (nat_cmp q)) (cons_option first []) ≡ None → new ≡ insert_entry nat_cmp es q w → IsStrictlySortedBy nat_cmp (keys_of new)
    → IsApart (cons_option first es) → IsApart (cons_option first new)
apart_inserted q w None es new l is s d = sorted_apart new s
apart_inserted q w (Some e) es new l is s d =
    let P : ℕ → Type 0 = λ y. eq_by_cmp nat_cmp e.0 y ≡ false in
    let other : P q = (eq_by_cmp_equiv nat_cmp_total).symm e.0 q ∙ other_first (is_at (nat_cmp q)) e l in
    IsDistinct-cons (eq_by_cmp nat_cmp) e.0 (keys_of new)
    (subst (λ (fs : Entries). AllByRecursion P (keys_of fs)) (sym is) (all_inserted P q w es other (IsDistinct-head (eq_by_cmp nat_cmp) e.0 (keys_of es) d)))
    (sorted_apart new s)

apart_put : (q : ℕ) (w : KeyLock) (first : Option (ℕ × KeyLock)) (m : Met) (es new : Entries) → lookup (is_at (nat_cmp q)) (cons_option first []) ≡ None → Inserts q w es new m → IsStrictlySortedBy nat_cmp (keys_of new)
    → IsApart (cons_option first es) → IsApart (cons_option first new)
apart_put q w first Nothing es new l put s d = apart_inserted q w first es new l put s d
apart_put q w first Itself es new l put s d = subst (λ (fs : Entries). IsApart (cons_option first fs)) (sym put) d
apart_put q w first ItsKey es new l put s d = subst (λ (fs : Entries). IsApart (cons_option first fs)) (sym put) d
apart_put q w first AnotherKey es new l put s d = subst (λ (fs : Entries). IsApart (cons_option first fs)) (sym put) d

-- ---- what is put

-- a lock that is found is put back where it was
pub put_back : (q : ℕ) (v : KeyLock) (es new : Entries) → IsStrictlySortedBy nat_cmp (keys_of es) → lookup (is_at (nat_cmp q)) es ≡ Some v → new ≡ insert_entry nat_cmp es q v → new ≡ es
put_back q v es new s l is = is ∙ put_found nat_cmp nat_cmp_total q v v es s l ∙ set_value_same (is_at (nat_cmp q)) es v l

-- nothing is put where a lock is met
pub kept_met : (q : ℕ) (w : KeyLock) (a b : Bool) (es new : Entries) → new ≡ es → Inserts q w es new (met_by a b)
kept_met q w false b es new is = is
kept_met q w true false es new is = is
kept_met q w true true es new is = is

nothing_there : (k : Term) (r : Holding) (o : Option KeyLock) → Nothing ≡ met_in k r o → o ≡ None
nothing_there k r None n = refl
nothing_there k r (Some v) n = by _ _ n
  where
    by : (a b : Bool) → Nothing ≡ met_by a b → Some v ≡ None
    by false b m = absurd cc
    by true false m = absurd cc
    by true true m = absurd cc

more_beside : (q : ℕ) (w : KeyLock) (first : Option (ℕ × KeyLock)) (es new : Entries) → lookup (is_at (nat_cmp q)) es ≡ None → new ≡ insert_entry nat_cmp es q w → HasMore (q, w) (cons_option first es) (cons_option first new)
more_beside q w None es new l is = λ p. ap (list_any p) is ∙ any_insert nat_cmp p q w es l
more_beside q w (Some e) es new l is = λ p. (λ i. p e || (ap (list_any p) is ∙ any_insert nat_cmp p q w es l) i) ∙ or_swap (p e) (p (q, w)) (list_any p es)

put_beside : (k : Term) (r : Holding) (q : ℕ) (first : Option (ℕ × KeyLock)) (m : Met) (es new : Entries) → m ≡ met_in k r (lookup (is_at (nat_cmp q)) es) → Inserts q (lock_on k r) es new m
    → Puts q (lock_on k r) (cons_option first es) (cons_option first new) m
put_beside k r q first Nothing es new is put = more_beside q (lock_on k r) first es new (nothing_there k r _ is) put
put_beside k r q first Itself es new is put = ap (cons_option first) put
put_beside k r q first ItsKey es new is put = ap (cons_option first) put
put_beside k r q first AnotherKey es new is put = ap (cons_option first) put

-- ---- by what the map of the others answers

module _ {E : Type 0} (k : Term) (r : Holding) (q : ℕ) (first : Option (ℕ × KeyLock)) (es new : Entries) where
  pub put_among : (a : Result Met E) → IfOk a (λ m. m ≡ met_in k r (lookup (is_at (nat_cmp q)) es)) → IfOk a (Inserts q (lock_on k r) es new) → IfOk a (Puts q (lock_on k r) (cons_option first es) (cons_option first new))
  put_among (Ok m) is put = put_beside k r q first m es new is put
  put_among (Err e) is put = tt

  pub apart_among : (a : Result Met E) → lookup (is_at (nat_cmp q)) (cons_option first []) ≡ None → IfOk a (Inserts q (lock_on k r) es new) → OnErr a (new ≡ es) → IsStrictlySortedBy nat_cmp (keys_of new)
      → IsApart (cons_option first es) → IsApart (cons_option first new)
  apart_among (Ok m) l put kept s d = apart_put q (lock_on k r) first m es new l put s d
  apart_among (Err e) l put kept s d = subst (λ (fs : Entries). IsApart (cons_option first fs)) (sym kept) d

pub on_ok : {A E : Type 0} {P : Type 0} (a : Result A E) → P → OnOk a P
on_ok (Ok x) h = h
on_ok (Err e) h = tt
