-- The owners' lists as one: what a lock more, and an owner less, make of it.
use Rattle.std.proofs.Common.{◌≡◌, ℕ, List, [], ◌∷◌, ◌++◌, Bool, true, false, ◌||◌, ◌&&◌, not, cond, refl, sym, ap, ◌∙◌, subst, Option, Some, None, Ordering, Less, Equal, Greater, arith, nat_cmp, append_assoc, append-nil}
use Rattle.std.specs.Prelude.{◌==◌, filter, nat_lt, if◌then◌else◌}
use Rattle.std.specs.Global.{Vec}
use Rattle.std.specs.List.{list_any, AllByRecursion}
use Rattle.std.specs.List.Sorted.{IsStrictlySortedBy}
use Rattle.std.specs.Ordering.{match_ordering, is_eq}
use Rattle.std.specs.BTreeMap.{is_at, insert_entry}
use Rattle.std.specs.Map.{keys_of, lookup, set_value, remove_entry}
use Rattle.std.specs.Str.{bytes_eq}
use Rattle.std.proofs.lemmas.Bool.Decides.{nat_tests}
use Rattle.std.proofs.lemmas.List.Folds.{list_any-append}
use Rattle.std.proofs.Math.Bool.{and-false, and-true}
use Rattle.tab_term.specs.Same.{bytes_equiv, same_equiv}
use Rattle.tab_model.specs.declared.data.Lock as code
use Rattle.tab_model.specs.Locks.{Part, All, Key}
use Rattle.tab_model.specs.Ages.{Owned, without}
use Rattle.tab_locks.specs.Plain.{lock_of}
use Rattle.tab_locks.specs.Spots.{same_part, same_mode, holds_at}
use Rattle.tab_locks.specs.Placed.{placed, owned_by, listed, is_of}
use Rattle.std.specs.Cmp.{nat_cmp_total}
use Rattle.std.specs.Option.{unwrap_or}
use Rattle.std.proofs.lemmas.Map.Steps.{set_value_same}
use Rattle.tab_locks.proofs.PutEntry.{put_found}
use Rattle.tab_locks.proofs.Passing.{or_swap, any_never}
use Rattle.tab_model.proofs.SessionLists.{itself}

abbrev pub Entries : Type 0
Entries = List (ℕ × Vec code.Lock)

-- ---- ages

equal_is : (a b : ℕ) → nat_cmp a b ≡ Equal → a ≡ b
equal_is a b h = grind (arith, nat_tests)

pub tied_is : (a b : ℕ) → is_eq (nat_cmp a b) ≡ true → a ≡ b
tied_is a b h = grind (arith, nat_tests)

pub apart_is : (a b : ℕ) → is_eq (nat_cmp a b) ≡ false → (b == a) ≡ false
apart_is a b h = grind (arith, nat_tests)

less_is : (a b : ℕ) → nat_cmp a b ≡ Less → nat_lt a b ≡ true
less_is a b h = grind (arith, nat_tests)

pub less_apart : (a b : ℕ) → nat_cmp a b ≡ Less → (b == a) ≡ false
less_apart a b h = grind (arith, nat_tests)

not_less : (a b : ℕ) → nat_cmp a b ≡ Less → nat_lt b a ≡ false
not_less a b h = grind (arith, nat_tests)

pub not_itself : (a : ℕ) → nat_lt a a ≡ false
not_itself a = grind (arith, nat_tests)

-- ---- one lock more

pub any_placed : (p : Owned → Bool) (x : Owned) (ys : List Owned) → list_any p (placed x ys) ≡ (p x || list_any p ys)
any_placed p x [] = refl
any_placed p x (y ∷ ys) = by (nat_lt x.0 y.0) (any_placed p x ys)
  where
    by : (b : Bool) → list_any p (placed x ys) ≡ (p x || list_any p ys) → list_any p (if b then x ∷ y ∷ ys else y ∷ placed x ys) ≡ (p x || list_any p (y ∷ ys))
    by true ih = refl
    by false ih = (λ i. p y || ih i) ∙ or_swap (p y) (p x) (list_any p ys)

pub placed_past : (x : Owned) (age : ℕ) (ls : List code.Lock) (ys : List Owned) → nat_lt x.0 age ≡ false → placed x (owned_by age ls ++ ys) ≡ owned_by age ls ++ placed x ys
placed_past x age [] ys h = refl
placed_past x age (l ∷ ls) ys h =
    (λ i. if h i then x ∷ (age, lock_of l) ∷ (owned_by age ls ++ ys) else (age, lock_of l) ∷ placed x (owned_by age ls ++ ys))
    ∙ ap (λ zs. (age, lock_of l) ∷ zs) (placed_past x age ls ys h)

pub placed_first : (x : Owned) (es : Entries) → AllByRecursion (λ k. nat_cmp x.0 k ≡ Less) (keys_of es) → placed x (listed es) ≡ x ∷ listed es
placed_first x [] h = refl
placed_first x (e ∷ es) h = by (e.1).items (placed_first x es h.1)
  where
    by : (ls : List code.Lock) → placed x (listed es) ≡ x ∷ listed es → placed x (owned_by e.0 ls ++ listed es) ≡ x ∷ (owned_by e.0 ls ++ listed es)
    by [] ih = ih
    by (l ∷ ls) ih = λ i. if less_is x.0 e.0 h.0 i then x ∷ (e.0, lock_of l) ∷ (owned_by e.0 ls ++ listed es) else (e.0, lock_of l) ∷ placed x (owned_by e.0 ls ++ listed es)

pub owned_more : (age : ℕ) (ls : List code.Lock) (l : code.Lock) → owned_by age (ls ++ l ∷ []) ≡ owned_by age ls ++ (age, lock_of l) ∷ []
owned_more age [] l = refl
owned_more age (k ∷ ls) l = ap (λ zs. (age, lock_of k) ∷ zs) (owned_more age ls l)

-- a key that is found later is not below the first
pub found_later : (k age : ℕ) (v : Vec code.Lock) (es : Entries) → lookup (is_at (nat_cmp age)) es ≡ Some v → AllByRecursion (λ j. nat_cmp k j ≡ Less) (keys_of es) → nat_lt age k ≡ false
found_later k age v [] l h = absurd cc
found_later k age v (e ∷ es) l h = by (is_eq (nat_cmp age e.0)) refl l (λ n. found_later k age v es n h.1)
  where
    by : (b : Bool) → is_eq (nat_cmp age e.0) ≡ b → cond b (Some e.1) (lookup (is_at (nat_cmp age)) es) ≡ Some v → (lookup (is_at (nat_cmp age)) es ≡ Some v → nat_lt age k ≡ false) → nat_lt age k ≡ false
    by true t n ih = ap (λ a. nat_lt a k) (tied_is age e.0 t) ∙ not_less k e.0 h.0
    by false t n ih = ih n

pub listed_more : (age : ℕ) (l : code.Lock) (v w : Vec code.Lock) (es : Entries) → IsStrictlySortedBy nat_cmp (keys_of es) → lookup (is_at (nat_cmp age)) es ≡ Some v → w.items ≡ v.items ++ l ∷ []
    → listed (set_value (is_at (nat_cmp age)) es w) ≡ placed (age, lock_of l) (listed es)
unfolding IsStrictlySortedBy
listed_more age l v w [] s n is = absurd cc
listed_more age l v w (e ∷ es) s n is = by (is_eq (nat_cmp age e.0)) refl n (λ m. listed_more age l v w es s.1 m is)
  where
    by : (b : Bool) → is_eq (nat_cmp age e.0) ≡ b → cond b (Some e.1) (lookup (is_at (nat_cmp age)) es) ≡ Some v
        → (lookup (is_at (nat_cmp age)) es ≡ Some v → listed (set_value (is_at (nat_cmp age)) es w) ≡ placed (age, lock_of l) (listed es))
        → listed (cond b ((e.0, w) ∷ es) (e ∷ set_value (is_at (nat_cmp age)) es w)) ≡ placed (age, lock_of l) (listed (e ∷ es))
    by true t m ih =
        let same : v ≡ e.1 = cc in
        let age_is = tied_is age e.0 t in
        let items = is ∙ ap (λ (u : Vec code.Lock). u.items ++ l ∷ []) same in
        ap (λ ls. owned_by e.0 ls ++ listed es) items
        ∙ ap (λ zs. zs ++ listed es) (owned_more e.0 (e.1).items l)
        ∙ append_assoc (owned_by e.0 (e.1).items) ((e.0, lock_of l) ∷ []) (listed es)
        ∙ ap (λ zs. owned_by e.0 (e.1).items ++ zs) (sym (placed_first (e.0, lock_of l) es s.0))
        ∙ sym (placed_past (e.0, lock_of l) e.0 (e.1).items (listed es) (not_itself e.0))
        ∙ ap (λ (a : ℕ). placed (a, lock_of l) (listed (e ∷ es))) (sym age_is)
    by false t m ih = ap (λ zs. owned_by e.0 (e.1).items ++ zs) (ih m) ∙ sym (placed_past (age, lock_of l) e.0 (e.1).items (listed es) (found_later e.0 age v es m s.0))

pub listed_opened : (age : ℕ) (v : Vec code.Lock) (es : Entries) → lookup (is_at (nat_cmp age)) es ≡ None → v.items ≡ [] → listed (insert_entry nat_cmp es age v) ≡ listed es
listed_opened age v [] n is = ap (λ ls. owned_by age ls ++ []) is
listed_opened age v (e ∷ es) n is = by (nat_cmp age e.0) n (λ m. listed_opened age v es m is)
  where
    by : (o : Ordering) → cond (is_eq o) (Some e.1) (lookup (is_at (nat_cmp age)) es) ≡ None → (lookup (is_at (nat_cmp age)) es ≡ None → listed (insert_entry nat_cmp es age v) ≡ listed es)
        → listed (match_ordering o ((age, v) ∷ e ∷ es) ((e.0, v) ∷ es) (e ∷ insert_entry nat_cmp es age v)) ≡ listed (e ∷ es)
    by Less m ih = ap (λ ls. owned_by age ls ++ listed (e ∷ es)) is
    by Equal m ih = absurd cc
    by Greater m ih = ap (λ zs. owned_by e.0 (e.1).items ++ zs) (ih m)

-- an owner's own list, or an empty one, put at its age
pub listed_open : (age : ℕ) (empty v : Vec code.Lock) (es : Entries) → IsStrictlySortedBy nat_cmp (keys_of es) → empty.items ≡ [] → v ≡ unwrap_or (lookup (is_at (nat_cmp age)) es) empty → listed (insert_entry nat_cmp es age v) ≡ listed es
listed_open age empty v es s bare is = by (lookup (is_at (nat_cmp age)) es) refl is
  where
    by : (o : Option (Vec code.Lock)) → lookup (is_at (nat_cmp age)) es ≡ o → v ≡ unwrap_or o empty → listed (insert_entry nat_cmp es age v) ≡ listed es
    by None l t = listed_opened age v es l (ap (λ (u : Vec code.Lock). u.items) t ∙ bare)
    by (Some u) l t = ap listed (put_found nat_cmp nat_cmp_total age u v es s l ∙ set_value_same (is_at (nat_cmp age)) es v (l ∙ ap Some (sym t)))

-- ---- an owner less

without_own : (age k : ℕ) (ls : List code.Lock) (ys : List Owned) → (k == age) ≡ true → without age (owned_by k ls ++ ys) ≡ without age ys
without_own age k [] ys h = refl
without_own age k (l ∷ ls) ys h = (λ i. if not (h i) then (k, lock_of l) ∷ without age (owned_by k ls ++ ys) else without age (owned_by k ls ++ ys)) ∙ without_own age k ls ys h

without_other : (age k : ℕ) (ls : List code.Lock) (ys : List Owned) → (k == age) ≡ false → without age (owned_by k ls ++ ys) ≡ owned_by k ls ++ without age ys
without_other age k [] ys h = refl
without_other age k (l ∷ ls) ys h =
    (λ i. if not (h i) then (k, lock_of l) ∷ without age (owned_by k ls ++ ys) else without age (owned_by k ls ++ ys)) ∙ ap (λ zs. (k, lock_of l) ∷ zs) (without_other age k ls ys h)

without_none : (age : ℕ) (es : Entries) → AllByRecursion (λ k. nat_cmp age k ≡ Less) (keys_of es) → without age (listed es) ≡ listed es
without_none age [] h = refl
without_none age (e ∷ es) h = without_other age e.0 (e.1).items (listed es) (less_apart age e.0 h.0) ∙ ap (λ zs. owned_by e.0 (e.1).items ++ zs) (without_none age es h.1)

pub listed_without : (age : ℕ) (es : Entries) → IsStrictlySortedBy nat_cmp (keys_of es) → listed (remove_entry (is_at (nat_cmp age)) es) ≡ without age (listed es)
unfolding IsStrictlySortedBy
listed_without age [] s = refl
listed_without age (e ∷ es) s = by (is_eq (nat_cmp age e.0)) refl (listed_without age es s.1)
  where
    by : (b : Bool) → is_eq (nat_cmp age e.0) ≡ b → listed (remove_entry (is_at (nat_cmp age)) es) ≡ without age (listed es)
        → listed (cond b es (e ∷ remove_entry (is_at (nat_cmp age)) es)) ≡ without age (listed (e ∷ es))
    by true t ih =
        let age_is = tied_is age e.0 t in
        sym (without_own age e.0 (e.1).items (listed es) (ap (λ k. k == age) (sym age_is) ∙ itself age)
        ∙ ap (λ a. without a (listed es)) age_is ∙ without_none e.0 es s.0)
    by false t ih = ap (λ zs. owned_by e.0 (e.1).items ++ zs) ih ∙ sym (without_other age e.0 (e.1).items (listed es) (apart_is age e.0 t))

-- ---- the locks of one owner

own_only : (age k : ℕ) (ls : List code.Lock) (ys : List Owned) → (k == age) ≡ true → filter (λ (x : Owned). x.0 == age) (owned_by k ls ++ ys) ≡ owned_by k ls ++ filter (λ (x : Owned). x.0 == age) ys
own_only age k [] ys h = refl
own_only age k (l ∷ ls) ys h =
    (λ i. if h i then (k, lock_of l) ∷ filter (λ (x : Owned). x.0 == age) (owned_by k ls ++ ys) else filter (λ (x : Owned). x.0 == age) (owned_by k ls ++ ys))
    ∙ ap (λ zs. (k, lock_of l) ∷ zs) (own_only age k ls ys h)

own_none : (age k : ℕ) (ls : List code.Lock) (ys : List Owned) → (k == age) ≡ false → filter (λ (x : Owned). x.0 == age) (owned_by k ls ++ ys) ≡ filter (λ (x : Owned). x.0 == age) ys
own_none age k [] ys h = refl
own_none age k (l ∷ ls) ys h =
    (λ i. if h i then (k, lock_of l) ∷ filter (λ (x : Owned). x.0 == age) (owned_by k ls ++ ys) else filter (λ (x : Owned). x.0 == age) (owned_by k ls ++ ys))
    ∙ own_none age k ls ys h

none_own : (age : ℕ) (es : Entries) → AllByRecursion (λ k. nat_cmp age k ≡ Less) (keys_of es) → filter (λ (x : Owned). x.0 == age) (listed es) ≡ []
none_own age [] h = refl
none_own age (e ∷ es) h = own_none age e.0 (e.1).items (listed es) (less_apart age e.0 h.0) ∙ none_own age es h.1

-- the locks in an owner's list, where there is one
abbrev pub locks_at : Option (Vec code.Lock) → List code.Lock
locks_at None = []
locks_at (Some v) = v.items

pub listed_own : (age : ℕ) (es : Entries) → IsStrictlySortedBy nat_cmp (keys_of es) → filter (λ (x : Owned). x.0 == age) (listed es) ≡ owned_by age (locks_at (lookup (is_at (nat_cmp age)) es))
unfolding IsStrictlySortedBy
listed_own age [] s = refl
listed_own age (e ∷ es) s = by (is_eq (nat_cmp age e.0)) refl (listed_own age es s.1)
  where
    by : (b : Bool) → is_eq (nat_cmp age e.0) ≡ b → filter (λ (x : Owned). x.0 == age) (listed es) ≡ owned_by age (locks_at (lookup (is_at (nat_cmp age)) es))
        → filter (λ (x : Owned). x.0 == age) (listed (e ∷ es)) ≡ owned_by age (locks_at (cond b (Some e.1) (lookup (is_at (nat_cmp age)) es)))
    by true t ih =
        let age_is = tied_is age e.0 t in
        let later = subst (λ (a : ℕ). AllByRecursion (λ k. nat_cmp a k ≡ Less) (keys_of es)) (sym age_is) s.0 in
        own_only age e.0 (e.1).items (listed es) (ap (λ k. k == age) (sym age_is) ∙ itself age)
        ∙ ap (λ zs. owned_by e.0 (e.1).items ++ zs) (none_own age es later)
        ∙ append-nil (owned_by e.0 (e.1).items)
        ∙ ap (λ (a : ℕ). owned_by a (e.1).items) (sym age_is)
    by false t ih = own_none age e.0 (e.1).items (listed es) (apart_is age e.0 t) ∙ ih

same_part_itself : (part : Part) → same_part part part ≡ true
same_part_itself All = refl
same_part_itself (Key k) = same_equiv.refl k

same_mode_itself : (b : Bool) → same_mode b b ≡ true
same_mode_itself true = refl
same_mode_itself false = refl

pub stands_itself : (age : ℕ) (l : code.Lock) → holds_at age (lock_of l) (age, lock_of l) ≡ true
stands_itself age l = (λ i. bytes_equiv.refl l.table i && (same_part_itself (lock_of l).part i && (itself age i && same_mode_itself (lock_of l).write i)))

-- an owner's locks are all on the places of its locks
own_gone : (p : Owned → Bool) (age : ℕ) (first ls : List code.Lock) → list_any (λ x. p x && not (is_of age (first ++ ls) x)) (owned_by age ls) ≡ false
own_gone p age first [] = refl
own_gone p age first (l ∷ ls) =
    let x : Owned = (age, lock_of l) in
    let here : is_of age (first ++ l ∷ ls) x ≡ true = list_any-append (λ k. holds_at age (lock_of k) x) first (l ∷ ls) ∙ (λ i. is_of age first x || (stands_itself age l i || is_of age ls x)) ∙ or_true (is_of age first x) in
    let rest = ap (λ ks. list_any (λ y. p y && not (is_of age ks y)) (owned_by age ls)) (sym (append_assoc first (l ∷ []) ls)) ∙ own_gone p age (first ++ l ∷ []) ls in
    λ i. (ap (λ b. p x && not b) here ∙ and-false (p x)) i || rest i
  where
    or_true : (b : Bool) → (b || true) ≡ true
    or_true true = refl
    or_true false = refl

-- no other owner's are
other_kept : (age : ℕ) (locks : List code.Lock) (x : Owned) → (x.0 == age) ≡ false → is_of age locks x ≡ false
other_kept age locks x h = any_never (λ l. holds_at age (lock_of l) x) locks
    (λ l. (λ i. bytes_eq l.table (x.1).table && (same_part (lock_of l).part (x.1).part && (h i && same_mode (lock_of l).write (x.1).write))) ∙ ap (λ b. bytes_eq l.table (x.1).table && b) (and-false (same_part (lock_of l).part (x.1).part)) ∙ and-false (bytes_eq l.table (x.1).table))

pub others_kept : (p : Owned → Bool) (age k : ℕ) (locks ls : List code.Lock) → (k == age) ≡ false → list_any (λ x. p x && not (is_of age locks x)) (owned_by k ls) ≡ list_any p (owned_by k ls)
others_kept p age k locks [] h = refl
others_kept p age k locks (l ∷ ls) h =
    let x : Owned = (k, lock_of l) in
    λ i. (ap (λ b. p x && not b) (other_kept age locks x h) ∙ and-true (p x)) i || others_kept p age k locks ls h i

pub all_kept : (p : Owned → Bool) (age : ℕ) (locks : List code.Lock) (es : Entries) → AllByRecursion (λ k. nat_cmp age k ≡ Less) (keys_of es) → list_any (λ x. p x && not (is_of age locks x)) (listed es) ≡ list_any p (listed es)
all_kept p age locks [] h = refl
all_kept p age locks (e ∷ es) h =
    list_any-append (λ x. p x && not (is_of age locks x)) (owned_by e.0 (e.1).items) (listed es)
    ∙ (λ i. others_kept p age e.0 locks (e.1).items (less_apart age e.0 h.0) i || all_kept p age locks es h.1 i)
    ∙ sym (list_any-append p (owned_by e.0 (e.1).items) (listed es))

pub released : (p : Owned → Bool) (age : ℕ) (v : Vec code.Lock) (es : Entries) → IsStrictlySortedBy nat_cmp (keys_of es) → lookup (is_at (nat_cmp age)) es ≡ Some v
    → list_any (λ x. p x && not (is_of age v.items x)) (listed es) ≡ list_any p (listed (remove_entry (is_at (nat_cmp age)) es))
unfolding IsStrictlySortedBy
released p age v [] s n = refl
released p age v (e ∷ es) s n = by (is_eq (nat_cmp age e.0)) refl n (λ m. released p age v es s.1 m)
  where
    by : (b : Bool) → is_eq (nat_cmp age e.0) ≡ b → cond b (Some e.1) (lookup (is_at (nat_cmp age)) es) ≡ Some v
        → (lookup (is_at (nat_cmp age)) es ≡ Some v → list_any (λ x. p x && not (is_of age v.items x)) (listed es) ≡ list_any p (listed (remove_entry (is_at (nat_cmp age)) es)))
        → list_any (λ x. p x && not (is_of age v.items x)) (listed (e ∷ es)) ≡ list_any p (listed (cond b es (e ∷ remove_entry (is_at (nat_cmp age)) es)))
    by true t m ih =
        let same : e.1 ≡ v = cc in
        let age_is = tied_is age e.0 t in
        let later = subst (λ (a : ℕ). AllByRecursion (λ k. nat_cmp a k ≡ Less) (keys_of es)) (sym age_is) s.0 in
        list_any-append (λ x. p x && not (is_of age v.items x)) (owned_by e.0 (e.1).items) (listed es)
        ∙ (λ i. (ap (λ (ls : List code.Lock). list_any (λ x. p x && not (is_of age v.items x)) (owned_by e.0 ls)) (ap (λ (u : Vec code.Lock). u.items) same)
        ∙ ap (λ (a : ℕ). list_any (λ x. p x && not (is_of age v.items x)) (owned_by a v.items)) (sym age_is)
        ∙ own_gone p age [] v.items) i
        || all_kept p age v.items es later i)
    by false t m ih =
        list_any-append (λ x. p x && not (is_of age v.items x)) (owned_by e.0 (e.1).items) (listed es)
        ∙ (λ i. others_kept p age e.0 v.items (e.1).items (apart_is age e.0 t) i || ih m i)
        ∙ sym (list_any-append p (owned_by e.0 (e.1).items) (listed (remove_entry (is_at (nat_cmp age)) es)))

pub listed_same : (age : ℕ) (v w : Vec code.Lock) (es : Entries) → lookup (is_at (nat_cmp age)) es ≡ Some v → w.items ≡ v.items → listed (set_value (is_at (nat_cmp age)) es w) ≡ listed es
listed_same age v w [] n is = refl
listed_same age v w (e ∷ es) n is = by (is_eq (nat_cmp age e.0)) n (λ m. listed_same age v w es m is)
  where
    by : (b : Bool) → cond b (Some e.1) (lookup (is_at (nat_cmp age)) es) ≡ Some v → (lookup (is_at (nat_cmp age)) es ≡ Some v → listed (set_value (is_at (nat_cmp age)) es w) ≡ listed es)
        → listed (cond b ((e.0, w) ∷ es) (e ∷ set_value (is_at (nat_cmp age)) es w)) ≡ listed (e ∷ es)
    by true m ih = let same : v ≡ e.1 = cc in ap (λ ls. owned_by e.0 ls ++ listed es) (is ∙ ap (λ (u : Vec code.Lock). u.items) same)
    by false m ih = ap (λ zs. owned_by e.0 (e.1).items ++ zs) (ih m)
