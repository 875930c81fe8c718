-- The first lock of each number: which keys have one, and what one more, or one less, makes of them.
use Rattle.std.proofs.Common.{◌≡◌, ℕ, List, [], ◌∷◌, Bool, true, false, ◌||◌, ◌&&◌, not, cond, refl, sym, ap, subst, ◌∙◌, arith, Option, Some, None, Ordering, Less, Equal, Greater, nat_cmp, ◌==◌, eq-eqb}
use Rattle.std.proofs.Math.Bool.{and-true, and-false}
use Rattle.std.proofs.lemmas.Bool.{and_parts}
use Rattle.std.proofs.lemmas.Bool.Decides.{nat_tests}
use Rattle.std.proofs.lemmas.Map.{lookup-none}
use Rattle.std.proofs.lemmas.Map.Entries.{none_past_head}
use Rattle.std.proofs.lemmas.Map.Keys.{IsDistinct-tail}
use Rattle.std.specs.BTreeMap.{is_at}
use Rattle.std.specs.Cmp.{nat_cmp_total, eq_by_cmp_equiv}
use Rattle.std.specs.List.{list_any}
use Rattle.std.specs.Map.{keys_of, lookup, remove_entry}
use Rattle.std.specs.Option.{option_copied, IfNone, IfSome}
use Rattle.std.specs.Ordering.{eq_by_cmp, is_eq}
use Rattle.std.specs.Borrow.{Bor}
use Rattle.tab_term.specs.Abbreviations.{number}
use Rattle.tab_term.specs.Same.{same, same-Decides}
use Rattle.tab_term.specs.View.{term}
use Rattle.tab_term.specs.declared.term.Term.{Term}
use Rattle.tab_locks.specs.declared.key_lock.KeyLock.{KeyLock}
use Rattle.tab_locks.specs.declared.met.Met.{Met}
use Rattle.tab_locks.specs.declared.met.Met.TheVariants.{Nothing, Itself, ItsKey, AnotherKey}
use Rattle.tab_locks.specs.Members.{HasMore, Drops}
use Rattle.tab_locks.specs.Numbered.{spot_of, first_spots, IsApart, IsUnderNumbers, lock_on, met_by, met_in, holds, Puts}
use Rattle.tab_locks.specs.Spots.{Holding, KeySpot, stands_on_key, is_holding}
use Rattle.tab_locks.proofs.Lookups.{found_any, any_found}
use Rattle.tab_locks.proofs.Holdings.{it_is}
use Rattle.tab_locks.proofs.MapMembers.{more_mapped}
use Rattle.tab_locks.proofs.Passing.{any_same, any_map, any_but, or_swap, or_twice}

abbrev Entries : Type 0
Entries = List (ℕ × KeyLock)

-- ---- numbers

same_number : (a b : ℕ) → nat_cmp a b ≡ Equal → a ≡ b
same_number a b h = grind (arith, nat_tests)

-- whether one stands under another number, as a test of the members
abbrev is_elsewhere : ℕ × KeyLock → Bool
is_elsewhere e = not (number (term e.1.key) == e.0)

none_elsewhere : (es : Entries) → IsUnderNumbers es → list_any is_elsewhere es ≡ false
none_elsewhere [] own = refl
none_elsewhere (e ∷ es) own = λ i. not (eq-eqb (number (term e.1.key)) e.0 own.0 i) || none_elsewhere es own.1 i

under_numbers : (es : Entries) → list_any is_elsewhere es ≡ false → IsUnderNumbers es
under_numbers [] h = tt
under_numbers (e ∷ es) h = by (number (term e.1.key) == e.0) refl h (under_numbers es)
  where
    by : (b : Bool) → (number (term e.1.key) == e.0) ≡ b → (not b || list_any is_elsewhere es) ≡ false → (list_any is_elsewhere es ≡ false → IsUnderNumbers es) → IsUnderNumbers (e ∷ es)
    by true t n ih = (grind (arith, t), ih n)
    by false t n ih = absurd cc

-- a lock on a key of the number is put there
pub numbered_put : (k : Term) (r : Holding) (q : ℕ) (m : Met) (es new : Entries) → q ≡ number (term k) → Puts q (lock_on k r) es new m → IsUnderNumbers es → IsUnderNumbers new
numbered_put k r q Nothing es new one put own = under_numbers new (put is_elsewhere ∙ (λ i. not (eq-eqb (number (term k)) q (sym one) i) || none_elsewhere es own i))
numbered_put k r q Itself es new one put own = subst IsUnderNumbers (sym put) own
numbered_put k r q ItsKey es new one put own = subst IsUnderNumbers (sym put) own
numbered_put k r q AnotherKey es new one put own = subst IsUnderNumbers (sym put) own

pub numbered_without : (test : ℕ → Bool) (es : Entries) → IsUnderNumbers es → IsUnderNumbers (remove_entry test es)
numbered_without test [] own = own
numbered_without test (e ∷ es) own = by (test e.0) (numbered_without test es own.1)
  where
    by : (b : Bool) → IsUnderNumbers (remove_entry test es) → IsUnderNumbers (cond b es (e ∷ remove_entry test es))
    by true ih = own.1
    by false ih = (own.0, ih)

-- the lock under a number is on a key of that number
numbered_found : (q : ℕ) (v : KeyLock) (es : Entries) → IsUnderNumbers es → lookup (is_at (nat_cmp q)) es ≡ Some v → number (term v.key) ≡ q
numbered_found q v [] own l = absurd cc
numbered_found q v (e ∷ es) own l = by (nat_cmp q e.0) refl l (numbered_found q v es own.1)
  where
    by : (o : Ordering) → nat_cmp q e.0 ≡ o → cond (is_eq o) (Some e.1) (lookup (is_at (nat_cmp q)) es) ≡ Some v → (lookup (is_at (nat_cmp q)) es ≡ Some v → number (term v.key) ≡ q) → number (term v.key) ≡ q
    by Less t n ih = ih n
    by Equal t n ih = let is : v ≡ e.1 = cc in ap (λ (l : KeyLock). number (term l.key)) is ∙ own.0 ∙ sym (same_number q e.0 t)
    by Greater t n ih = ih n

-- ---- a key

at_itself : (n : ℕ) → is_at (nat_cmp n) n ≡ true
at_itself n = (eq_by_cmp_equiv nat_cmp_total).refl n

by_number : (k : Term) (e : ℕ × KeyLock) (c : Bool) → number (term e.1.key) ≡ e.0
    → (same (term k) (term e.1.key) && c) ≡ (is_at (nat_cmp (number (term k))) e.0 && (same (term k) (term e.1.key) && c))
by_number k e c own = by (same (term k) (term e.1.key)) refl
  where
    by : (b : Bool) → same (term k) (term e.1.key) ≡ b → (b && c) ≡ (is_at (nat_cmp (number (term k))) e.0 && (b && c))
    by true t =
        let one : number (term k) ≡ e.0 = ap number ((same-Decides (term k) (term e.1.key)).0 t) ∙ own in
        λ i. sym (ap (is_at (nat_cmp (number (term k)))) (sym one) ∙ at_itself (number (term k))) i && c
    by false t = sym (and-false (is_at (nat_cmp (number (term k))) e.0))

any_numbered : (f g : ℕ × KeyLock → Bool) (es : Entries) → IsUnderNumbers es → ((e : ℕ × KeyLock) → number (term e.1.key) ≡ e.0 → f e ≡ g e) → list_any f es ≡ list_any g es
any_numbered f g [] own h = refl
any_numbered f g (e ∷ es) own h = λ i. h e own.0 i || any_numbered f g es own.1 h i

pub held_first : (p : Holding → Bool) (k : Term) (es : Entries) → IsApart es → IsUnderNumbers es
    → list_any (λ s. same (term k) s.0 && p s.1) (first_spots es) ≡ found_any (λ (l : KeyLock). same (term k) (term l.key) && p (l.age, l.write)) (lookup (is_at (nat_cmp (number (term k)))) es)
held_first p k es s own =
    let q = number (term k) in
    let g = λ (l : KeyLock). same (term k) (term l.key) && p (l.age, l.write) in
    any_map (λ s. same (term k) s.0 && p s.1) spot_of es
    ∙ any_numbered (λ (e : ℕ × KeyLock). g e.1) (λ (e : ℕ × KeyLock). is_at (nat_cmp q) e.0 && g e.1) es own (λ e o. by_number k e (p (e.1.age, e.1.write)) o)
    ∙ any_found (eq_by_cmp nat_cmp) (eq_by_cmp_equiv nat_cmp_total) q (λ (e : ℕ × KeyLock). is_at (nat_cmp q) e.0 && g e.1) g es s (λ e. refl)

-- whether a key has one
pub has_first : (k : Term) (es : Entries) → IsApart es → IsUnderNumbers es
    → list_any (λ s. same (term k) s.0) (first_spots es) ≡ found_any (λ (l : KeyLock). same (term k) (term l.key)) (lookup (is_at (nat_cmp (number (term k)))) es)
has_first k es s own =
    any_same (λ s. same (term k) s.0) (λ s. same (term k) s.0 && true) (first_spots es) (λ s. sym (and-true (same (term k) s.0)))
    ∙ held_first (λ h. true) k es s own
    ∙ by (lookup (is_at (nat_cmp (number (term k)))) es)
  where
    by : (o : Option KeyLock) → found_any (λ (l : KeyLock). same (term k) (term l.key) && true) o ≡ found_any (λ (l : KeyLock). same (term k) (term l.key)) o
    by None = refl
    by (Some l) = and-true (same (term k) (term l.key))

-- the same by what stands under its number
has_at_number : (k : Term) (q : ℕ) (o : Option KeyLock) (es : Entries) → IsApart es → IsUnderNumbers es → q ≡ number (term k) → lookup (is_at (nat_cmp q)) es ≡ o
    → list_any (λ s. same (term k) s.0) (first_spots es) ≡ found_any (λ (l : KeyLock). same (term k) (term l.key)) o
has_at_number k q o es s own one l = has_first k es s own ∙ ap (found_any (λ (l : KeyLock). same (term k) (term l.key))) (ap (λ (n : ℕ). lookup (is_at (nat_cmp n)) es) (sym one) ∙ l)

pub any_holding : (p : Holding → Bool) (es : Entries) → list_any (λ (e : ℕ × KeyLock). p (e.1.age, e.1.write)) es ≡ list_any (λ s. p s.1) (first_spots es)
any_holding p es = sym (any_map (λ s. p s.1) spot_of es)

pub some_first : (es : Entries) → list_any (λ e. true) es ≡ list_any (λ s. true) (first_spots es)
some_first es = sym (any_map (λ s. true) spot_of es)

-- ---- one more, and one less

any_without : (test : ℕ → Bool) (f : KeyLock → Bool) (v : KeyLock) (es : Entries) → lookup test es ≡ Some v → list_any (λ (e : ℕ × KeyLock). f e.1) es ≡ (f v || list_any (λ (e : ℕ × KeyLock). f e.1) (remove_entry test es))
any_without test f v [] l = absurd cc
any_without test f v (e ∷ es) l = by (test e.0) l (any_without test f v es)
  where
    by : (b : Bool) → cond b (Some e.1) (lookup test es) ≡ Some v → (lookup test es ≡ Some v → list_any (λ (e : ℕ × KeyLock). f e.1) es ≡ (f v || list_any (λ (e : ℕ × KeyLock). f e.1) (remove_entry test es)))
        → (f e.1 || list_any (λ (e : ℕ × KeyLock). f e.1) es) ≡ (f v || list_any (λ (e : ℕ × KeyLock). f e.1) (cond b es (e ∷ remove_entry test es)))
    by true n ih = let is : e.1 ≡ v = cc in λ i. f (is i) || list_any (λ (e : ℕ × KeyLock). f e.1) es
    by false n ih = (λ i. f e.1 || ih n i) ∙ or_swap (f e.1) (f v) (list_any (λ (e : ℕ × KeyLock). f e.1) (remove_entry test es))

-- what stands under a number is one of the locks
any_at_number : (p : KeySpot → Bool) (q : ℕ) (v : KeyLock) (es : Entries) → lookup (is_at (nat_cmp q)) es ≡ Some v → p (term v.key, (v.age, v.write)) ≡ true → list_any p (first_spots es) ≡ true
any_at_number p q v es l t =
    let f = λ (w : KeyLock). p (term w.key, (w.age, w.write)) in
    any_map p spot_of es ∙ any_without (is_at (nat_cmp q)) f v es l ∙ (λ i. t i || list_any (λ (e : ℕ × KeyLock). f e.1) (remove_entry (is_at (nat_cmp q)) es))

number_taken : (q : ℕ) (v : KeyLock) (es : Entries) → IsUnderNumbers es → lookup (is_at (nat_cmp q)) es ≡ Some v → (number (term v.key) == q) ≡ true
number_taken q v es own l = eq-eqb (number (term v.key)) q (numbered_found q v es own l)

-- some lock has the number, and one that is not this very one
taken_first : (q : ℕ) (v : KeyLock) (es : Entries) → IsUnderNumbers es → lookup (is_at (nat_cmp q)) es ≡ Some v → list_any (λ s. number s.0 == q) (first_spots es) ≡ true
taken_first q v es own l = any_at_number (λ s. number s.0 == q) q v es l (number_taken q v es own l)

tied_first : (k : Term) (r : Holding) (q : ℕ) (v : KeyLock) (es : Entries) → IsUnderNumbers es → lookup (is_at (nat_cmp q)) es ≡ Some v → (same (term k) (term v.key) && is_holding r (v.age, v.write)) ≡ false
    → list_any (λ s. (number s.0 == q) && not (stands_on_key (term k) r s)) (first_spots es) ≡ true
tied_first k r q v es own l other =
    any_at_number (λ s. (number s.0 == q) && not (stands_on_key (term k) r s)) q v es l (λ i. number_taken q v es own l i && not (other i))

-- what stands there already
first_again : (k : Term) (r : Holding) (v : KeyLock) (es : Entries) → lookup (is_at (nat_cmp (number (term k)))) es ≡ Some v → (same (term k) (term v.key) && is_holding r (v.age, v.write)) ≡ true
    → HasMore (term k, r) (first_spots es) (first_spots es)
first_again k r v es l it = λ p.
    let at = is_at (nat_cmp (number (term k))) in
    let f = λ (w : KeyLock). p (term w.key, (w.age, w.write)) in
    let rest = list_any (λ (e : ℕ × KeyLock). f e.1) (remove_entry at es) in
    let parts = and_parts (same (term k) (term v.key)) (is_holding r (v.age, v.write)) it in
    let one : f v ≡ p (term k, r) = λ i. p (sym ((same-Decides (term k) (term v.key)).0 parts.0) i, it_is r (v.age, v.write) parts.1 i) in
    let all : list_any p (first_spots es) ≡ (f v || rest) = any_map p spot_of es ∙ any_without at f v es l in
    all ∙ or_twice (f v) rest ∙ (λ i. one i || sym all i)

-- nothing of this owner and mode stands on the key
pub kept_first : (k : Term) (r : Holding) (es : Entries) → IsApart es → IsUnderNumbers es
    → found_any (λ (l : KeyLock). same (term k) (term l.key) && is_holding r (l.age, l.write)) (lookup (is_at (nat_cmp (number (term k)))) es) ≡ false → Drops (stands_on_key (term k) r) (first_spots es) (first_spots es)
kept_first k r es s own h = λ p. sym (any_but p (stands_on_key (term k) r) (first_spots es) (held_first (is_holding r) k es s own ∙ h))

without_it : (q : ℕ) (es : Entries) → IsApart es → lookup (is_at (nat_cmp q)) (remove_entry (is_at (nat_cmp q)) es) ≡ None
without_it q [] d = refl
without_it q (e ∷ es) d = by (is_at (nat_cmp q) e.0) refl (without_it q es (IsDistinct-tail (eq_by_cmp nat_cmp) e.0 (keys_of es) d))
  where
    by : (b : Bool) → is_at (nat_cmp q) e.0 ≡ b → lookup (is_at (nat_cmp q)) (remove_entry (is_at (nat_cmp q)) es) ≡ None → lookup (is_at (nat_cmp q)) (cond b es (e ∷ remove_entry (is_at (nat_cmp q)) es)) ≡ None
    by true t ih = lookup-none (is_at (nat_cmp q)) es (none_past_head (eq_by_cmp_equiv nat_cmp_total) q e es d t)
    by false t ih = ap (λ b. cond b (Some e.1) (lookup (is_at (nat_cmp q)) (remove_entry (is_at (nat_cmp q)) es))) t ∙ ih

pub dropped_first : (k : Term) (r : Holding) (v : KeyLock) (es new : Entries) → IsApart es → IsApart new → IsUnderNumbers es → lookup (is_at (nat_cmp (number (term k)))) es ≡ Some v
    → (same (term k) (term v.key) && is_holding r (v.age, v.write)) ≡ true → new ≡ remove_entry (is_at (nat_cmp (number (term k)))) es
    → Drops (stands_on_key (term k) r) (first_spots es) (first_spots new)
dropped_first k r v es new d s own l it is = λ p.
    let gone = stands_on_key (term k) r in
    let at = is_at (nat_cmp (number (term k))) in
    let q = λ (x : KeySpot). p x && not (gone x) in
    let none : lookup at new ≡ None = ap (lookup at) is ∙ without_it (number (term k)) es d in
    let left : IsUnderNumbers new = subst IsUnderNumbers (sym is) (numbered_without at es own) in
    let bare : list_any gone (first_spots new) ≡ false = held_first (is_holding r) k new s left ∙ ap (found_any (λ (l : KeyLock). same (term k) (term l.key) && is_holding r (l.age, l.write))) none in
    let out : q (term v.key, (v.age, v.write)) ≡ false = ap (λ b. p (term v.key, (v.age, v.write)) && not b) it ∙ and-false (p (term v.key, (v.age, v.write))) in
    sym (any_map q spot_of es
    ∙ any_without at (λ (l : KeyLock). q (term l.key, (l.age, l.write))) v es l
    ∙ (λ i. out i || list_any (λ (e : ℕ × KeyLock). q (spot_of e)) (sym is i))
    ∙ sym (any_map q spot_of new)
    ∙ any_but p gone (first_spots new) bare)

-- ---- what a lock meets

holds_by : (a b : Bool) → holds (met_by a b) ≡ (a && b)
holds_by false b = refl
holds_by true false = refl
holds_by true true = refl

not_nothing : (a b : Bool) → Nothing ≡ met_by a b → ⊥
not_nothing false b n = absurd cc
not_nothing true false n = absurd cc
not_nothing true true n = absurd cc

not_its : (a b : Bool) → AnotherKey ≡ met_by a b → a ≡ false
not_its false b n = refl
not_its true false n = absurd cc
not_its true true n = absurd cc

module _ (k : Term) (r : Holding) (q : ℕ) (es : Entries) where
  abbrev its : KeyLock → Bool
  its v = same (term k) (term v.key)

  abbrev under : Option KeyLock
  under = lookup (is_at (nat_cmp q)) es

  -- it stands there now
  pub held_more : (m : Met) (new : Entries) → q ≡ number (term k) → m ≡ met_in k r under → Puts q (lock_on k r) es new m → holds m ≡ true → HasMore (term k, r) (first_spots es) (first_spots new)
  held_more Nothing new one is put h = more_mapped spot_of (q, lock_on k r) es new put
  held_more Itself new one is put h = subst (λ (fs : Entries). HasMore (term k, r) (first_spots es) (first_spots fs)) (sym put) (by under refl is)
    where
      by : (o : Option KeyLock) → under ≡ o → Itself ≡ met_in k r o → HasMore (term k, r) (first_spots es) (first_spots es)
      by None l n = absurd cc
      by (Some v) l n = first_again k r v es (ap (λ (n : ℕ). lookup (is_at (nat_cmp n)) es) (sym one) ∙ l) (sym (ap holds n ∙ holds_by (its v) (is_holding r (v.age, v.write))))
  held_more ItsKey new one is put h = absurd cc
  held_more AnotherKey new one is put h = absurd cc

  -- another one does
  pub tied_other : (m : Met) → IsUnderNumbers es → m ≡ met_in k r under → holds m ≡ false → list_any (λ s. (number s.0 == q) && not (stands_on_key (term k) r s)) (first_spots es) ≡ true
  tied_other m own is h = by under refl is
    where
      by : (o : Option KeyLock) → under ≡ o → m ≡ met_in k r o → list_any (λ s. (number s.0 == q) && not (stands_on_key (term k) r s)) (first_spots es) ≡ true
      by None l n = let held : holds m ≡ true = ap holds n in absurd cc
      by (Some v) l n = tied_first k r q v es own l (sym (ap holds n ∙ holds_by (its v) (is_holding r (v.age, v.write))) ∙ h)

  -- nothing did, or one on another key
  pub free_before : IsApart es → IsUnderNumbers es → q ≡ number (term k) → Nothing ≡ met_in k r under → list_any (λ s. same (term k) s.0) (first_spots es) ≡ false
  free_before d own one is = by under refl is
    where
      by : (o : Option KeyLock) → under ≡ o → Nothing ≡ met_in k r o → list_any (λ s. same (term k) s.0) (first_spots es) ≡ false
      by None l n = has_at_number k q None es d own one l
      by (Some v) l n = absurd (not_nothing (its v) (is_holding r (v.age, v.write)) n)

  pub free_beside : IsApart es → IsUnderNumbers es → q ≡ number (term k) → AnotherKey ≡ met_in k r under → list_any (λ s. same (term k) s.0) (first_spots es) ≡ false
  free_beside d own one is = by under refl is
    where
      by : (o : Option KeyLock) → under ≡ o → AnotherKey ≡ met_in k r o → list_any (λ s. same (term k) s.0) (first_spots es) ≡ false
      by None l n = absurd cc
      by (Some v) l n = has_at_number k q (Some v) es d own one l ∙ not_its (its v) (is_holding r (v.age, v.write)) n

  pub taken_beside : IsUnderNumbers es → AnotherKey ≡ met_in k r under → list_any (λ s. number s.0 == q) (first_spots es) ≡ true
  taken_beside own is = by under refl is
    where
      by : (o : Option KeyLock) → under ≡ o → AnotherKey ≡ met_in k r o → list_any (λ s. number s.0 == q) (first_spots es) ≡ true
      by None l n = absurd cc
      by (Some v) l n = taken_first q v es own l

-- what a look-up by number tells of a key
pub none_found : (g : KeyLock → Bool) (r : Option (Bor KeyLock)) (x : Bool) → x ≡ found_any g (option_copied r) → IfNone r (x ≡ false)
none_found g None x h = h
none_found g (Some l) x h = tt

pub one_found : (g : KeyLock → Bool) (r : Option (Bor KeyLock)) (x : Bool) → x ≡ found_any g (option_copied r) → IfSome r (λ l. x ≡ g l.now)
one_found g None x h = tt
one_found g (Some l) x h = h
