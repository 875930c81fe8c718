-- An owner's last lock less: the list of all, and the index.
use Rattle.std.proofs.Common.{◌≡◌, ℕ, List, [], ◌∷◌, ◌++◌, Bool, true, false, ◌||◌, ◌&&◌, not, cond, refl, sym, ap, ◌∙◌, subst, Some, None, Less, nat_cmp, append_assoc, length, arith}
use Rattle.std.specs.Prelude.{◌==◌, if◌then◌else◌}
use Rattle.std.specs.Global.{Vec}
use Rattle.std.specs.List.{list_any, AllByRecursion}
use Rattle.std.specs.List.Sorted.{IsStrictlySortedBy}
use Rattle.std.specs.Ordering.{is_eq}
use Rattle.std.specs.BTreeMap.{is_at}
use Rattle.std.specs.Map.{keys_of, lookup, set_value}
use Rattle.std.specs.Str.{bytes_eq}
use Rattle.std.proofs.lemmas.Bool.{and_parts}
use Rattle.std.proofs.lemmas.List.Folds.{list_any-append}
use Rattle.std.proofs.Math.Bool.{and-false, and-true}
use Rattle.std.proofs.lemmas.Slice.Eq.{bytes_eq-Decides}
use Rattle.tab_model.specs.declared.data.Lock as code
use Rattle.tab_model.specs.Locks.{Part, All, Key, Lock}
use Rattle.tab_model.specs.Ages.{Owned}
use Rattle.tab_model.proofs.SessionLists.{itself}
use Rattle.tab_model.proofs.TableLaws.{same_true}
use Rattle.tab_locks.specs.Members.{SameMembers, Drops}
use Rattle.tab_locks.specs.Plain.{lock_of}
use Rattle.tab_locks.specs.Spots.{same_part, same_mode, same_lock, holds_at}
use Rattle.tab_locks.specs.Placed.{placed, without_last, owned_by, listed, is_of}
use Rattle.tab_locks.proofs.Passing.{any_same}
use Rattle.tab_locks.proofs.Listing.{Entries, tied_is, apart_is, less_apart, not_itself, owned_more, placed_first, placed_past, found_later, others_kept, all_kept, stands_itself}

abbrev of_age : ℕ → Owned → Bool
of_age age y = y.0 == age

-- ---- the list

or_true : (b : Bool) → (b || true) ≡ true
or_true true = refl
or_true false = refl

or_false : (b : Bool) → (b || false) ≡ b
or_false true = refl
or_false false = refl

-- the last of its owner's
last_seam : (age : ℕ) (xs : List Owned) (x : Owned) (ys : List Owned) → (x.0 == age) ≡ true → list_any (of_age age) ys ≡ false → without_last age (xs ++ x ∷ ys) ≡ xs ++ ys
last_seam age [] x ys h n = λ i. if h i && not (n i) then ys else x ∷ without_last age ys
last_seam age (z ∷ xs) x ys h n =
    let among : list_any (of_age age) (xs ++ x ∷ ys) ≡ true = list_any-append (of_age age) xs (x ∷ ys) ∙ (λ i. list_any (of_age age) xs || (h i || list_any (of_age age) ys)) ∙ or_true (list_any (of_age age) xs) in
    (λ i. if (z.0 == age) && not (among i) then xs ++ x ∷ ys else z ∷ without_last age (xs ++ x ∷ ys))
    ∙ (λ i. if and-false (z.0 == age) i then xs ++ x ∷ ys else z ∷ without_last age (xs ++ x ∷ ys))
    ∙ ap (λ zs. z ∷ zs) (last_seam age xs x ys h n)

none_last : (age : ℕ) (xs : List Owned) → list_any (of_age age) xs ≡ false → without_last age xs ≡ xs
none_last age [] n = refl
none_last age (x ∷ xs) n = by (x.0 == age) (list_any (of_age age) xs) n (none_last age xs)
  where
    by : (b c : Bool) → (b || c) ≡ false → (c ≡ false → without_last age xs ≡ xs) → (if b && not c then xs else x ∷ without_last age xs) ≡ x ∷ xs
    by true c n ih = absurd cc
    by false c n ih = ap (λ zs. x ∷ zs) (ih n)

last_past : (age k : ℕ) (ls : List code.Lock) (zs : List Owned) → (k == age) ≡ false → without_last age (owned_by k ls ++ zs) ≡ owned_by k ls ++ without_last age zs
last_past age k [] zs h = refl
last_past age k (l ∷ ls) zs h =
    (λ i. if h i && not (list_any (of_age age) (owned_by k ls ++ zs)) then owned_by k ls ++ zs else (k, lock_of l) ∷ without_last age (owned_by k ls ++ zs))
    ∙ ap (λ ys. (k, lock_of l) ∷ ys) (last_past age k ls zs h)

not_owned : (age k : ℕ) (ls : List code.Lock) → (k == age) ≡ false → list_any (of_age age) (owned_by k ls) ≡ false
not_owned age k [] h = refl
not_owned age k (l ∷ ls) h = λ i. h i || not_owned age k ls h i

none_above : (age : ℕ) (es : Entries) → AllByRecursion (λ k. nat_cmp age k ≡ Less) (keys_of es) → list_any (of_age age) (listed es) ≡ false
none_above age [] h = refl
none_above age (e ∷ es) h = list_any-append (of_age age) (owned_by e.0 (e.1).items) (listed es) ∙ (λ i. not_owned age e.0 (e.1).items (less_apart age e.0 h.0) i || none_above age es h.1 i)

-- who is not there has none
pub absent_none : (age : ℕ) (es : Entries) → lookup (is_at (nat_cmp age)) es ≡ None → list_any (of_age age) (listed es) ≡ false
absent_none age [] n = refl
absent_none age (e ∷ es) n = list_any-append (of_age age) (owned_by e.0 (e.1).items) (listed es) ∙ by (is_eq (nat_cmp age e.0)) refl n (absent_none age es)
  where
    by : (b : Bool) → is_eq (nat_cmp age e.0) ≡ b → cond b (Some e.1) (lookup (is_at (nat_cmp age)) es) ≡ None → (lookup (is_at (nat_cmp age)) es ≡ None → list_any (of_age age) (listed es) ≡ false)
        → (list_any (of_age age) (owned_by e.0 (e.1).items) || list_any (of_age age) (listed es)) ≡ false
    by true t m ih = absurd cc
    by false t m ih = λ i. not_owned age e.0 (e.1).items (apart_is age e.0 t) i || ih m i

pub absent_last : (age : ℕ) (es : Entries) → lookup (is_at (nat_cmp age)) es ≡ None → without_last age (listed es) ≡ listed es
absent_last age es n = none_last age (listed es) (absent_none age es n)

nil_of : {A : Type 0} (xs : List A) → length xs ≡ 0 → xs ≡ []
nil_of [] h = refl
nil_of (x ∷ xs) h = absurd (omega (arith, h))

empty_none : (age : ℕ) (v : Vec code.Lock) (es : Entries) → IsStrictlySortedBy nat_cmp (keys_of es) → lookup (is_at (nat_cmp age)) es ≡ Some v → v.items ≡ [] → list_any (of_age age) (listed es) ≡ false
unfolding IsStrictlySortedBy
empty_none age v [] s n is = absurd cc
empty_none age v (e ∷ es) s n is = list_any-append (of_age age) (owned_by e.0 (e.1).items) (listed es) ∙ by (is_eq (nat_cmp age e.0)) refl n (λ m. empty_none age v es s.1 m is)
  where
    by : (b : Bool) → is_eq (nat_cmp age e.0) ≡ b → cond b (Some e.1) (lookup (is_at (nat_cmp age)) es) ≡ Some v → (lookup (is_at (nat_cmp age)) es ≡ Some v → list_any (of_age age) (listed es) ≡ false)
        → (list_any (of_age age) (owned_by e.0 (e.1).items) || list_any (of_age age) (listed es)) ≡ false
    by true t m ih =
        let same : e.1 ≡ v = cc in
        let above = subst (λ (a : ℕ). AllByRecursion (λ k. nat_cmp a k ≡ Less) (keys_of es)) (sym (tied_is age e.0 t)) s.0 in
        (λ i. ap (λ (u : Vec code.Lock). list_any (of_age age) (owned_by e.0 u.items)) same i || none_above age es above i)
        ∙ ap (λ ls. list_any (of_age age) (owned_by e.0 ls) || false) is
    by false t m ih = λ i. not_owned age e.0 (e.1).items (apart_is age e.0 t) i || ih m i

-- whose list is empty has none
pub empty_last : (age : ℕ) (v : Vec code.Lock) (es : Entries) → IsStrictlySortedBy nat_cmp (keys_of es) → lookup (is_at (nat_cmp age)) es ≡ Some v → length v.items ≡ 0 → without_last age (listed es) ≡ listed es
empty_last age v es s n h = none_last age (listed es) (empty_none age v es s n (nil_of v.items h))

-- one lock less, where its owner has one
pub listed_less : (age : ℕ) (l : code.Lock) (v w : Vec code.Lock) (es : Entries) → IsStrictlySortedBy nat_cmp (keys_of es) → lookup (is_at (nat_cmp age)) es ≡ Some v → v.items ≡ w.items ++ l ∷ []
    → listed (set_value (is_at (nat_cmp age)) es w) ≡ without_last age (listed es)
unfolding IsStrictlySortedBy
listed_less age l v w [] s n is = absurd cc
listed_less age l v w (e ∷ es) s n is = by (is_eq (nat_cmp age e.0)) refl n (λ m. listed_less age l v w es s.1 m is)
  where
    by : (b : Bool) → is_eq (nat_cmp age e.0) ≡ b → cond b (Some e.1) (lookup (is_at (nat_cmp age)) es) ≡ Some v
        → (lookup (is_at (nat_cmp age)) es ≡ Some v → listed (set_value (is_at (nat_cmp age)) es w) ≡ without_last age (listed es))
        → listed (cond b ((e.0, w) ∷ es) (e ∷ set_value (is_at (nat_cmp age)) es w)) ≡ without_last age (listed (e ∷ es))
    by true t m ih =
        let same : e.1 ≡ v = cc in
        let items = ap (λ (u : Vec code.Lock). u.items) same ∙ is in
        let age_is = tied_is age e.0 t in
        let above = subst (λ (a : ℕ). AllByRecursion (λ k. nat_cmp a k ≡ Less) (keys_of es)) (sym age_is) s.0 in
        sym (ap (λ ls. without_last age (owned_by e.0 ls ++ listed es)) items
        ∙ ap (λ zs. without_last age (zs ++ listed es)) (owned_more e.0 w.items l)
        ∙ ap (without_last age) (append_assoc (owned_by e.0 w.items) ((e.0, lock_of l) ∷ []) (listed es))
        ∙ last_seam age (owned_by e.0 w.items) (e.0, lock_of l) (listed es) (ap (λ k. k == age) (sym age_is) ∙ itself age) (none_above age es above))
    by false t m ih = ap (λ zs. owned_by e.0 (e.1).items ++ zs) (ih m) ∙ sym (last_past age e.0 (e.1).items (listed es) (apart_is age e.0 t))

-- a lock that is placed is its owner's last
pub placed_undone : (age : ℕ) (l : code.Lock) (v : Vec code.Lock) (es : Entries) → IsStrictlySortedBy nat_cmp (keys_of es) → lookup (is_at (nat_cmp age)) es ≡ Some v → without_last age (placed (age, lock_of l) (listed es)) ≡ listed es
unfolding IsStrictlySortedBy
placed_undone age l v [] s n = absurd cc
placed_undone age l v (e ∷ es) s n = by (is_eq (nat_cmp age e.0)) refl n (λ m. placed_undone age l v es s.1 m)
  where
    by : (b : Bool) → is_eq (nat_cmp age e.0) ≡ b → cond b (Some e.1) (lookup (is_at (nat_cmp age)) es) ≡ Some v
        → (lookup (is_at (nat_cmp age)) es ≡ Some v → without_last age (placed (age, lock_of l) (listed es)) ≡ listed es)
        → without_last age (placed (age, lock_of l) (listed (e ∷ es))) ≡ listed (e ∷ es)
    by true t m ih =
        let age_is = tied_is age e.0 t in
        let above = subst (λ (a : ℕ). AllByRecursion (λ k. nat_cmp a k ≡ Less) (keys_of es)) (sym age_is) s.0 in
        ap (without_last age) (ap (λ (a : ℕ). placed (a, lock_of l) (listed (e ∷ es))) age_is
        ∙ placed_past (e.0, lock_of l) e.0 (e.1).items (listed es) (not_itself e.0)
        ∙ ap (λ zs. owned_by e.0 (e.1).items ++ zs) (placed_first (e.0, lock_of l) es s.0))
        ∙ last_seam age (owned_by e.0 (e.1).items) (e.0, lock_of l) (listed es) (ap (λ k. k == age) (sym age_is) ∙ itself age) (none_above age es above)
    by false t m ih =
        ap (without_last age) (placed_past (age, lock_of l) e.0 (e.1).items (listed es) (found_later e.0 age v es m s.0))
        ∙ last_past age e.0 (e.1).items (placed (age, lock_of l) (listed es)) (apart_is age e.0 t)
        ∙ ap (λ zs. owned_by e.0 (e.1).items ++ zs) (ih m)

-- ---- the index

bytes_true : (a b : List ℕ) → bytes_eq a b ≡ true → a ≡ b
bytes_true a b h = (bytes_eq-Decides a b).0 h

part_true : (a b : Part) → same_part a b ≡ true → a ≡ b
part_true All All h = refl
part_true All (Key k) h = absurd cc
part_true (Key j) All h = absurd cc
part_true (Key j) (Key k) h = ap Key (same_true j k h)

mode_true : (a b : Bool) → same_mode a b ≡ true → a ≡ b
mode_true true true h = refl
mode_true true false h = absurd cc
mode_true false true h = absurd cc
mode_true false false h = refl

lock_true : (l m : Lock) → same_lock l m ≡ true → l ≡ m
lock_true l m h =
    let p = and_parts (bytes_eq l.table m.table) (same_part l.part m.part && same_mode l.write m.write) h in
    let q = and_parts (same_part l.part m.part) (same_mode l.write m.write) p.1 in
    λ i. record { table = bytes_true l.table m.table p.0 i; part = part_true l.part m.part q.0 i; write = mode_true l.write m.write q.1 i }

-- another equal lock of its owner stands for it
again : (p : Owned → Bool) (age : ℕ) (l : code.Lock) (ls : List code.Lock) → list_any (λ k. same_lock (lock_of l) (lock_of k)) ls ≡ true → (list_any p (owned_by age ls) || p (age, lock_of l)) ≡ list_any p (owned_by age ls)
again p age l [] h = absurd cc
again p age l (k ∷ ls) h = by (same_lock (lock_of l) (lock_of k)) refl h (again p age l ls)
  where
    twice : (a b : Bool) → ((a || b) || a) ≡ (a || b)
    twice true b = refl
    twice false b = or_false b

    assoc : (a b c : Bool) → ((a || b) || c) ≡ (a || (b || c))
    assoc true b c = refl
    assoc false b c = refl

    by : (b : Bool) → same_lock (lock_of l) (lock_of k) ≡ b → (b || list_any (λ k. same_lock (lock_of l) (lock_of k)) ls) ≡ true
        → (list_any (λ k. same_lock (lock_of l) (lock_of k)) ls ≡ true → (list_any p (owned_by age ls) || p (age, lock_of l)) ≡ list_any p (owned_by age ls))
        → ((p (age, lock_of k) || list_any p (owned_by age ls)) || p (age, lock_of l)) ≡ (p (age, lock_of k) || list_any p (owned_by age ls))
    by true t h ih = ap (λ m. (p (age, lock_of k) || list_any p (owned_by age ls)) || p (age, m)) (lock_true (lock_of l) (lock_of k) t) ∙ twice (p (age, lock_of k)) (list_any p (owned_by age ls))
    by false t h ih = assoc (p (age, lock_of k)) (list_any p (owned_by age ls)) (p (age, lock_of l)) ∙ (λ i. p (age, lock_of k) || ih h i)

-- no other lock of its owner goes with it
own_stays : (p : Owned → Bool) (age : ℕ) (l : code.Lock) (ls : List code.Lock) → list_any (λ k. same_lock (lock_of l) (lock_of k)) ls ≡ false
    → list_any (λ x. p x && not (is_of age (l ∷ []) x)) (owned_by age ls) ≡ list_any p (owned_by age ls)
own_stays p age l [] h = refl
own_stays p age l (k ∷ ls) h = by (same_lock (lock_of l) (lock_of k)) refl (list_any (λ k. same_lock (lock_of l) (lock_of k)) ls) h (own_stays p age l ls)
  where
    stands_is : holds_at age (lock_of l) (age, lock_of k) ≡ same_lock (lock_of l) (lock_of k)
    stands_is = λ i. bytes_eq l.table k.table && (same_part (lock_of l).part (lock_of k).part && (itself age i && same_mode (lock_of l).write (lock_of k).write))

    by : (b : Bool) → same_lock (lock_of l) (lock_of k) ≡ b → (c : Bool) → (b || c) ≡ false
        → (c ≡ false → list_any (λ x. p x && not (is_of age (l ∷ []) x)) (owned_by age ls) ≡ list_any p (owned_by age ls))
        → ((p (age, lock_of k) && not (is_of age (l ∷ []) (age, lock_of k))) || list_any (λ x. p x && not (is_of age (l ∷ []) x)) (owned_by age ls)) ≡ (p (age, lock_of k) || list_any p (owned_by age ls))
    by true t c h ih = absurd cc
    by false t c h ih = λ i. (ap (λ b. p (age, lock_of k) && not (b || false)) (stands_is ∙ t) ∙ and-true (p (age, lock_of k))) i || ih h i

-- what is left once its mark is gone
less_dropped : (p : Owned → Bool) (age : ℕ) (l : code.Lock) (v w : Vec code.Lock) (es : Entries) → IsStrictlySortedBy nat_cmp (keys_of es) → lookup (is_at (nat_cmp age)) es ≡ Some v → v.items ≡ w.items ++ l ∷ []
    → list_any (λ k. same_lock (lock_of l) (lock_of k)) w.items ≡ false
    → list_any (λ x. p x && not (is_of age (l ∷ []) x)) (listed es) ≡ list_any p (listed (set_value (is_at (nat_cmp age)) es w))
unfolding IsStrictlySortedBy
less_dropped p age l v w [] s n is alone = absurd cc
less_dropped p age l v w (e ∷ es) s n is alone = by (is_eq (nat_cmp age e.0)) refl n (λ m. less_dropped p age l v w es s.1 m is alone)
  where
    q : Owned → Bool
    q x = p x && not (is_of age (l ∷ []) x)

    by : (b : Bool) → is_eq (nat_cmp age e.0) ≡ b → cond b (Some e.1) (lookup (is_at (nat_cmp age)) es) ≡ Some v
        → (lookup (is_at (nat_cmp age)) es ≡ Some v → list_any q (listed es) ≡ list_any p (listed (set_value (is_at (nat_cmp age)) es w)))
        → list_any q (listed (e ∷ es)) ≡ list_any p (listed (cond b ((e.0, w) ∷ es) (e ∷ set_value (is_at (nat_cmp age)) es w)))
    by true t m ih =
        let same : e.1 ≡ v = cc in
        let items = ap (λ (u : Vec code.Lock). u.items) same ∙ is in
        let age_is = tied_is age e.0 t in
        let above = subst (λ (a : ℕ). AllByRecursion (λ k. nat_cmp a k ≡ Less) (keys_of es)) (sym age_is) s.0 in
        let gone : q (age, lock_of l) ≡ false = ap (λ b. p (age, lock_of l) && not (b || false)) (stands_itself age l) ∙ and-false (p (age, lock_of l)) in
        list_any-append q (owned_by e.0 (e.1).items) (listed es)
        ∙ (λ i. (ap (λ (ls : List code.Lock). list_any q (owned_by e.0 ls)) items
        ∙ ap (λ (a : ℕ). list_any q (owned_by a (w.items ++ l ∷ []))) (sym age_is)
        ∙ ap (list_any q) (owned_more age w.items l)
        ∙ list_any-append q (owned_by age w.items) ((age, lock_of l) ∷ [])
        ∙ (λ j. own_stays p age l w.items alone j || (gone j || false))
        ∙ or_false (list_any p (owned_by age w.items))
        ∙ ap (λ (a : ℕ). list_any p (owned_by a w.items)) age_is) i
        || all_kept p age (l ∷ []) es above i)
        ∙ sym (list_any-append p (owned_by e.0 w.items) (listed es))
    by false t m ih =
        list_any-append q (owned_by e.0 (e.1).items) (listed es)
        ∙ (λ i. others_kept p age e.0 (l ∷ []) (e.1).items (apart_is age e.0 t) i || ih m i)
        ∙ sym (list_any-append p (owned_by e.0 (e.1).items) (listed (set_value (is_at (nat_cmp age)) es w)))

-- what is left where an equal lock keeps its mark
less_kept : (p : Owned → Bool) (age : ℕ) (l : code.Lock) (v w : Vec code.Lock) (es : Entries) → lookup (is_at (nat_cmp age)) es ≡ Some v → v.items ≡ w.items ++ l ∷ []
    → list_any (λ k. same_lock (lock_of l) (lock_of k)) w.items ≡ true
    → list_any p (listed es) ≡ list_any p (listed (set_value (is_at (nat_cmp age)) es w))
less_kept p age l v w [] n is more = absurd cc
less_kept p age l v w (e ∷ es) n is more = by (is_eq (nat_cmp age e.0)) refl n (λ m. less_kept p age l v w es m is more)
  where
    by : (b : Bool) → is_eq (nat_cmp age e.0) ≡ b → cond b (Some e.1) (lookup (is_at (nat_cmp age)) es) ≡ Some v
        → (lookup (is_at (nat_cmp age)) es ≡ Some v → list_any p (listed es) ≡ list_any p (listed (set_value (is_at (nat_cmp age)) es w)))
        → list_any p (listed (e ∷ es)) ≡ list_any p (listed (cond b ((e.0, w) ∷ es) (e ∷ set_value (is_at (nat_cmp age)) es w)))
    by true t m ih =
        let same : e.1 ≡ v = cc in
        let items = ap (λ (u : Vec code.Lock). u.items) same ∙ is in
        list_any-append p (owned_by e.0 (e.1).items) (listed es)
        ∙ (λ i. (ap (λ (ls : List code.Lock). list_any p (owned_by e.0 ls)) items
        ∙ ap (list_any p) (owned_more e.0 w.items l)
        ∙ list_any-append p (owned_by e.0 w.items) ((e.0, lock_of l) ∷ [])
        ∙ (λ j. list_any p (owned_by e.0 w.items) || or_false (p (e.0, lock_of l)) j)
        ∙ again p e.0 l w.items more) i || list_any p (listed es))
        ∙ sym (list_any-append p (owned_by e.0 w.items) (listed es))
    by false t m ih =
        list_any-append p (owned_by e.0 (e.1).items) (listed es) ∙ (λ i. list_any p (owned_by e.0 (e.1).items) || ih m i)
        ∙ sym (list_any-append p (owned_by e.0 (e.1).items) (listed (set_value (is_at (nat_cmp age)) es w)))

-- the index after a mark that went, and after one that stays
pub still_marked : (age : ℕ) (l : code.Lock) (v w : Vec code.Lock) (es : Entries) (index after : List Owned) → IsStrictlySortedBy nat_cmp (keys_of es) → lookup (is_at (nat_cmp age)) es ≡ Some v → v.items ≡ w.items ++ l ∷ []
    → SameMembers (listed es) index → list_any (λ k. same_lock (lock_of l) (lock_of k)) w.items ≡ false → Drops (holds_at age (lock_of l)) index after
    → SameMembers (listed (set_value (is_at (nat_cmp age)) es w)) after
still_marked age l v w es index after s found is same alone gone = λ p.
    gone p ∙ same (λ x. p x && not (holds_at age (lock_of l) x))
    ∙ any_same (λ x. p x && not (holds_at age (lock_of l) x)) (λ x. p x && not (is_of age (l ∷ []) x)) (listed es) (λ x. ap (λ b. p x && not b) (sym (or_false (holds_at age (lock_of l) x))))
    ∙ less_dropped p age l v w es s found is alone

pub marked_again : (age : ℕ) (l : code.Lock) (v w : Vec code.Lock) (es : Entries) (index : List Owned) → lookup (is_at (nat_cmp age)) es ≡ Some v → v.items ≡ w.items ++ l ∷ []
    → SameMembers (listed es) index → list_any (λ k. same_lock (lock_of l) (lock_of k)) w.items ≡ true → SameMembers (listed (set_value (is_at (nat_cmp age)) es w)) index
marked_again age l v w es index found is same more = λ p. same p ∙ less_kept p age l v w es found is more
