-- What is at a key after each change, and that canonical lists with the same cells are equal.
use Rattle.std.proofs.Common.{◌≡◌, [], ◌∷◌, ◌++◌, Bool, true, false, ◌||◌, not, refl, sym, ap, ◌∙◌, append-nil}
use Rattle.std.specs.Prelude.{if◌then◌else◌}
use Rattle.std.specs.List.{filter, list_any, list_all}
use Rattle.std.proofs.lemmas.Bool.{false≢true, and_from, and_parts, or_right}
use Rattle.tab_term.specs.Data.{PlainTerm}
use Rattle.tab_term.specs.Same.{same, same-Decides}
use Rattle.tab_model.specs.Names.{less}
use Rattle.tab_model.specs.Tables.{Rows, key, has_key, at, delete, insert, put_bag, put, follows, is_ordered, SameTable, whole_onto, whole}
use Rattle.tab_model.specs.declared.data.Kind.TheVariants.{Set, Bag}
use Rattle.tab_model.proofs.Order.{less-asym, less-trans, less-irrefl, less-linear}

pub same_true : (a b : PlainTerm) → same a b ≡ true → a ≡ b
same_true a b h = (same-Decides a b).0 h

pub same_refl : (a : PlainTerm) → same a a ≡ true
same_refl a = (same-Decides a a).1 refl

-- where less holds, the keys differ
less_other : (a b : PlainTerm) → less a b ≡ true → same b a ≡ false
less_other a b h = by_case (same b a) refl
  where
    by_case : (s : Bool) → same b a ≡ s → s ≡ false
    by_case false e = refl
    by_case true e = absurd (false≢true (less-irrefl a (ap (less a) (sym (same_true b a e)) ∙ h)))

-- a key less than that of x is none of a record that follows x
none_after : (k : PlainTerm) (x y : PlainTerm) → less k (key x) ≡ true → follows x y ≡ true → has_key k y ≡ false
none_after k x y h f = by_case (same (key x) (key y)) refl f
  where
    by_case : (s : Bool) → same (key x) (key y) ≡ s → (s || less (key x) (key y)) ≡ true → has_key k y ≡ false
    by_case true e g = less_other k (key y) (ap (less k) (sym (same_true (key x) (key y) e)) ∙ h)
    by_case false e g = less_other k (key y) (less-trans k (key x) (key y) h g)

at_none : (k x : PlainTerm) (rows : Rows) → less k (key x) ≡ true → list_all (follows x) rows ≡ true → at rows k ≡ []
at_none k x [] h f = refl
at_none k x (y ∷ rows) h f =
    let p = and_parts (follows x y) (list_all (follows x) rows) f in
    ap (λ b. if b then y ∷ at rows k else at rows k) (none_after k x y h p.0) ∙ at_none k x rows h p.1

-- before a greater key, a record of key k is alone
at_front : (r x : PlainTerm) (rows : Rows) (k : PlainTerm) → less (key r) (key x) ≡ true → list_all (follows x) rows ≡ true → (b : Bool) → has_key k r ≡ b →
    (if b then r ∷ at (x ∷ rows) k else at (x ∷ rows) k) ≡ at (x ∷ rows) k ++ (if b then r ∷ [] else [])
at_front r x rows k h f false e = sym (append-nil (at (x ∷ rows) k))
at_front r x rows k h f true e =
    let gone : at (x ∷ rows) k ≡ [] = ap (λ j. at (x ∷ rows) j) (sym (same_true (key r) k e)) ∙ ap (λ b. if b then x ∷ at rows (key r) else at rows (key r)) (less_other (key r) (key x) h) ∙ at_none (key r) x rows h f in
    ap (λ xs. r ∷ xs) gone ∙ sym (ap (λ xs. xs ++ r ∷ []) gone)

at_step : (x : PlainTerm) (a b c : Rows) (s : Bool) → a ≡ b ++ c → (if s then x ∷ a else a) ≡ (if s then x ∷ b else b) ++ c
at_step x a b c true h = ap (λ xs. x ∷ xs) h
at_step x a b c false h = h

pub at-insert : (r : PlainTerm) (rows : Rows) (k : PlainTerm) → is_ordered rows ≡ true → at (insert r rows) k ≡ at rows k ++ (if has_key k r then r ∷ [] else [])
at-insert r [] k o = by_case (has_key k r)
  where
    by_case : (b : Bool) → (if b then r ∷ [] else []) ≡ (if b then r ∷ [] else [])
    by_case b = refl
at-insert r (x ∷ rows) k o = by_case (at-insert r rows k (and_parts (list_all (follows x) rows) (is_ordered rows) o).1) (less (key r) (key x)) refl
  where
    by_case : at (insert r rows) k ≡ at rows k ++ (if has_key k r then r ∷ [] else []) → (b : Bool) → less (key r) (key x) ≡ b → at (if b then r ∷ x ∷ rows else x ∷ insert r rows) k ≡ at (x ∷ rows) k ++ (if has_key k r then r ∷ [] else [])
    by_case ih true e = at_front r x rows k e (and_parts (list_all (follows x) rows) (is_ordered rows) o).0 (has_key k r) refl
    by_case ih false e = at_step x (at (insert r rows) k) (at rows k) (if has_key k r then r ∷ [] else []) (has_key k x) ih

all_filter : (p q : PlainTerm → Bool) (rows : Rows) → list_all p rows ≡ true → list_all p (filter q rows) ≡ true
all_filter p q [] h = refl
all_filter p q (x ∷ rows) h = by_case (all_filter p q rows (and_parts (p x) (list_all p rows) h).1) (q x)
  where
    by_case : list_all p (filter q rows) ≡ true → (b : Bool) → list_all p (if b then x ∷ filter q rows else filter q rows) ≡ true
    by_case ih true = and_from (p x) (list_all p (filter q rows)) (and_parts (p x) (list_all p rows) h).0 ih
    by_case ih false = ih

-- what is filtered keeps its order: deletions
pub ordered-filter : (q : PlainTerm → Bool) (rows : Rows) → is_ordered rows ≡ true → is_ordered (filter q rows) ≡ true
ordered-filter q [] h = refl
ordered-filter q (x ∷ rows) h = by_case (ordered-filter q rows (and_parts (list_all (follows x) rows) (is_ordered rows) h).1) (q x)
  where
    by_case : is_ordered (filter q rows) ≡ true → (b : Bool) → is_ordered (if b then x ∷ filter q rows else filter q rows) ≡ true
    by_case ih true = and_from (list_all (follows x) (filter q rows)) (is_ordered (filter q rows)) (all_filter (follows x) q rows (and_parts (list_all (follows x) rows) (is_ordered rows) h).0) ih
    by_case ih false = ih

none_if : (b : Bool) (xs : Rows) → xs ≡ [] → xs ≡ (if b then [] else xs)
none_if true xs h = h
none_if false xs h = refl

-- what deletion leaves at a key
pub at-del : (rows : Rows) (k q : PlainTerm) → at (delete rows k) q ≡ (if same k q then [] else at rows q)
at-del [] k q = none_if (same k q) [] refl
at-del (x ∷ rows) k q = by_case (at-del rows k q) (has_key k x) refl (same k q) refl (has_key q x) refl
  where
    by_case : at (delete rows k) q ≡ (if same k q then [] else at rows q) → (a : Bool) → has_key k x ≡ a → (b : Bool) → same k q ≡ b → (c : Bool) → has_key q x ≡ c →
        at (if not a then x ∷ delete rows k else delete rows k) q ≡ (if b then [] else (if c then x ∷ at rows q else at rows q))
    by_case ih true d true e c f = ih ∙ ap (λ b. if b then [] else at rows q) e
    by_case ih true d false e true f = absurd (false≢true (sym e ∙ ap (λ j. same j q) (sym (same_true (key x) k d)) ∙ f))
    by_case ih true d false e false f = ih ∙ ap (λ b. if b then [] else at rows q) e
    by_case ih false d true e true f = absurd (false≢true (sym d ∙ ap (same (key x)) (same_true k q e) ∙ f))
    by_case ih false d true e false f = ap (λ b. if b then x ∷ at (delete rows k) q else at (delete rows k) q) f ∙ ih ∙ ap (λ b. if b then [] else at rows q) e
    by_case ih false d false e true f = ap (λ b. if b then x ∷ at (delete rows k) q else at (delete rows k) q) f ∙ ap (λ xs. x ∷ xs) (ih ∙ ap (λ b. if b then [] else at rows q) e)
    by_case ih false d false e false f = ap (λ b. if b then x ∷ at (delete rows k) q else at (delete rows k) q) f ∙ ih ∙ ap (λ b. if b then [] else at rows q) e

-- what stands at a key after a write of a set
pub at-put-set : (rows : Rows) (r k : PlainTerm) → is_ordered rows ≡ true → at (put Set rows r) k ≡ (if same (key r) k then r ∷ [] else at rows k)
at-put-set rows r k o = at-insert r (delete rows (key r)) k (ordered-filter (λ x. not (has_key (key r) x)) rows o) ∙ ap (λ xs. xs ++ (if has_key k r then r ∷ [] else [])) (at-del rows (key r) k) ∙ by_case (same (key r) k)
  where
    by_case : (b : Bool) → (if b then [] else at rows k) ++ (if b then r ∷ [] else []) ≡ (if b then r ∷ [] else at rows k)
    by_case true = refl
    by_case false = append-nil (at rows k)

-- and of a bag
pub at-put-bag : (rows : Rows) (r k : PlainTerm) → is_ordered rows ≡ true → at (put Bag rows r) k ≡ (if list_any (same r) rows then at rows k else at rows k ++ (if same (key r) k then r ∷ [] else []))
at-put-bag rows r k o = by_case (list_any (same r) rows)
  where
    by_case : (b : Bool) → at (put_bag rows r b) k ≡ (if b then at rows k else at rows k ++ (if same (key r) k then r ∷ [] else []))
    by_case true = refl
    by_case false = at-insert r rows k o

all_insert : (p : PlainTerm → Bool) (r : PlainTerm) (rows : Rows) → p r ≡ true → list_all p rows ≡ true → list_all p (insert r rows) ≡ true
all_insert p r [] h f = and_from (p r) true h refl
all_insert p r (x ∷ rows) h f = by_case (all_insert p r rows h (and_parts (p x) (list_all p rows) f).1) (less (key r) (key x))
  where
    by_case : list_all p (insert r rows) ≡ true → (b : Bool) → list_all p (if b then r ∷ x ∷ rows else x ∷ insert r rows) ≡ true
    by_case ih true = and_from (p r) (list_all p (x ∷ rows)) h f
    by_case ih false = and_from (p x) (list_all p (insert r rows)) (and_parts (p x) (list_all p rows) f).0 ih

follows_on : (r x y : PlainTerm) → less (key r) (key x) ≡ true → follows x y ≡ true → follows r y ≡ true
follows_on r x y h f = by_case (same (key x) (key y)) refl f
  where
    by_case : (s : Bool) → same (key x) (key y) ≡ s → (s || less (key x) (key y)) ≡ true → follows r y ≡ true
    by_case true e g = or_right (same (key r) (key y)) (less (key r) (key y)) (ap (less (key r)) (sym (same_true (key x) (key y) e)) ∙ h)
    by_case false e g = or_right (same (key r) (key y)) (less (key r) (key y)) (less-trans (key r) (key x) (key y) h g)

all_follow : (r x : PlainTerm) (rows : Rows) → less (key r) (key x) ≡ true → list_all (follows x) rows ≡ true → list_all (follows r) rows ≡ true
all_follow r x [] h f = refl
all_follow r x (y ∷ rows) h f =
    let p = and_parts (follows x y) (list_all (follows x) rows) f in
    and_from (follows r y) (list_all (follows r) rows) (follows_on r x y h p.0) (all_follow r x rows h p.1)

pub ordered-insert : (r : PlainTerm) (rows : Rows) → is_ordered rows ≡ true → is_ordered (insert r rows) ≡ true
ordered-insert r [] o = refl
ordered-insert r (x ∷ rows) o = by_case (ordered-insert r rows (and_parts (list_all (follows x) rows) (is_ordered rows) o).1) (less (key r) (key x)) refl
  where
    by_case : is_ordered (insert r rows) ≡ true → (b : Bool) → less (key r) (key x) ≡ b → is_ordered (if b then r ∷ x ∷ rows else x ∷ insert r rows) ≡ true
    by_case ih true e =
        and_from (list_all (follows r) (x ∷ rows)) (is_ordered (x ∷ rows))
        (and_from (follows r x) (list_all (follows r) rows) (or_right (same (key r) (key x)) (less (key r) (key x)) e) (all_follow r x rows e (and_parts (list_all (follows x) rows) (is_ordered rows) o).0)) o
    by_case ih false e = and_from (list_all (follows x) (insert r rows)) (is_ordered (insert r rows)) (all_insert (follows x) r rows (less-linear (key r) (key x) e) (and_parts (list_all (follows x) rows) (is_ordered rows) o).0) ih

-- the canonical list has the same cells
pub ordered-whole : (rows done : Rows) → is_ordered done ≡ true → is_ordered (whole_onto rows done) ≡ true
ordered-whole [] done o = o
ordered-whole (r ∷ rows) done o = ordered-whole rows (insert r done) (ordered-insert r done o)

join_if : (b : Bool) (r : PlainTerm) (xs ys : Rows) → (xs ++ (if b then r ∷ [] else [])) ++ ys ≡ xs ++ (if b then r ∷ ys else ys)
join_if b r [] ys = by_case b
  where
    by_case : (b : Bool) → (if b then r ∷ [] else []) ++ ys ≡ (if b then r ∷ ys else ys)
    by_case true = refl
    by_case false = refl
join_if b r (x ∷ xs) ys = ap (λ zs. x ∷ zs) (join_if b r xs ys)

at_whole : (rows done : Rows) (k : PlainTerm) → is_ordered done ≡ true → at (whole_onto rows done) k ≡ at done k ++ at rows k
at_whole [] done k o = sym (append-nil (at done k))
at_whole (r ∷ rows) done k o = at_whole rows (insert r done) k (ordered-insert r done o) ∙ ap (λ xs. xs ++ at rows k) (at-insert r done k o) ∙ join_if (has_key k r) r (at done k) (at rows k)

pub at-whole : (rows : Rows) (k : PlainTerm) → at (whole rows) k ≡ at rows k
at-whole rows k = at_whole rows [] k refl

-- heads of lists with the same cells
abbrev head_or : PlainTerm → Rows → PlainTerm
head_or x [] = x
head_or x (y ∷ ys) = y

abbrev tail_of : Rows → Rows
tail_of [] = []
tail_of (y ∷ ys) = ys

cons_nil : (x : PlainTerm) (xs : Rows) → [] ≡ x ∷ xs → false ≡ true
cons_nil x xs h = absurd cc

at_own : (x : PlainTerm) (rows : Rows) → at (x ∷ rows) (key x) ≡ x ∷ at rows (key x)
at_own x rows = ap (λ b. if b then x ∷ at rows (key x) else at rows (key x)) (same_refl (key x))

-- a key at which something stands is not before the first
later : (k y : PlainTerm) (ys : Rows) (x : PlainTerm) (xs : Rows) → list_all (follows y) ys ≡ true → at ys k ≡ x ∷ xs → (same (key y) k || less (key y) k) ≡ true
later k y [] x xs f h = absurd (false≢true (cons_nil x xs h))
later k y (z ∷ ys) x xs f h = by_case (later k y ys x xs (and_parts (follows y z) (list_all (follows y) ys) f).1) (has_key k z) refl
  where
    by_case : (at ys k ≡ x ∷ xs → (same (key y) k || less (key y) k) ≡ true) → (b : Bool) → has_key k z ≡ b → (same (key y) k || less (key y) k) ≡ true
    by_case ih true e = ap (λ j. same (key y) j || less (key y) j) (sym (same_true (key z) k e)) ∙ (and_parts (follows y z) (list_all (follows y) ys) f).0
    by_case ih false e = ih (sym (ap (λ b. if b then z ∷ at ys k else at ys k) e) ∙ h)

first_or_later : (k y : PlainTerm) (ys : Rows) (x : PlainTerm) (xs : Rows) → list_all (follows y) ys ≡ true → at (y ∷ ys) k ≡ x ∷ xs → (same (key y) k || less (key y) k) ≡ true
first_or_later k y ys x xs f h = by_case (has_key k y) refl
  where
    by_case : (b : Bool) → has_key k y ≡ b → (same (key y) k || less (key y) k) ≡ true
    by_case true e = ap (λ b. b || less (key y) k) e
    by_case false e = later k y ys x xs f (sym (ap (λ b. if b then y ∷ at ys k else at ys k) e) ∙ h)

or_not : (a b : Bool) → (a || b) ≡ true → b ≡ false → a ≡ true
or_not true b h k = refl
or_not false b h k = absurd (false≢true (sym k ∙ h))

first_key : (x : PlainTerm) (xs : Rows) (y : PlainTerm) (ys : Rows) → list_all (follows x) xs ≡ true → list_all (follows y) ys ≡ true → ((k : PlainTerm) → at (x ∷ xs) k ≡ at (y ∷ ys) k) → key x ≡ key y
first_key x xs y ys f g h = same_true (key x) (key y) (or_not (same (key x) (key y)) (less (key x) (key y)) (first_or_later (key y) x xs y (at ys (key y)) f (h (key y) ∙ at_own y ys)) by_case_less)
  where
    there : (same (key y) (key x) || less (key y) (key x)) ≡ true
    there = first_or_later (key x) y ys x (at xs (key x)) g (sym (h (key x)) ∙ at_own x xs)

    by_case : (b : Bool) → less (key x) (key y) ≡ b → (s : Bool) → same (key y) (key x) ≡ s → b ≡ false
    by_case false e s d = refl
    by_case true e true d = absurd (false≢true (sym (less_other (key x) (key y) e) ∙ d))
    by_case true e false d = absurd (false≢true (sym (less-asym (key x) (key y) e) ∙ ap (λ b. b || less (key y) (key x)) (sym d) ∙ there))

    by_case_less : less (key x) (key y) ≡ false
    by_case_less = by_case (less (key x) (key y)) refl (same (key y) (key x)) refl

-- canonical lists with the same cells are equal
pub same_lists : (xs ys : Rows) → is_ordered xs ≡ true → is_ordered ys ≡ true → SameTable xs ys → xs ≡ ys
same_lists [] [] o p h = refl
same_lists [] (y ∷ ys) o p h = absurd (false≢true (cons_nil y (at ys (key y)) (h (key y) ∙ at_own y ys)))
same_lists (x ∷ xs) [] o p h = absurd (false≢true (cons_nil x (at xs (key x)) (sym (h (key x)) ∙ at_own x xs)))
same_lists (x ∷ xs) (y ∷ ys) o p h = λ i. heads i ∷ same_lists xs ys os.1 ps.1 tails i
  where
    os : (list_all (follows x) xs ≡ true) × (is_ordered xs ≡ true)
    os = and_parts (list_all (follows x) xs) (is_ordered xs) o

    ps : (list_all (follows y) ys ≡ true) × (is_ordered ys ≡ true)
    ps = and_parts (list_all (follows y) ys) (is_ordered ys) p

    keys_same : key x ≡ key y
    keys_same = first_key x xs y ys os.0 ps.0 h

    both : x ∷ at xs (key x) ≡ y ∷ at ys (key x)
    both = sym (at_own x xs) ∙ h (key x) ∙ ap (λ b. if b then y ∷ at ys (key x) else at ys (key x)) (ap (same (key y)) keys_same ∙ same_refl (key y))

    heads : x ≡ y
    heads = ap (head_or x) both

    at_key : (q : PlainTerm) (b : Bool) → same (key x) q ≡ b → at xs q ≡ at ys q
    at_key q true e = ap (at xs) (sym (same_true (key x) q e)) ∙ ap tail_of both ∙ ap (at ys) (same_true (key x) q e)
    at_key q false e =
        ap (λ b. if b then x ∷ at xs q else at xs q) (sym e) ∙ h q ∙ ap (λ b. if b then y ∷ at ys q else at ys q) (ap (λ k. same k q) (sym keys_same) ∙ e)

    tails : SameTable xs ys
    tails q = at_key q (same (key x) q) refl
