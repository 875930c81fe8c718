-- What stands at each key of records kept by key, and after a change.
use Rattle.std.proofs.Common.{◌≡◌, List, [], ◌∷◌, ◌++◌, Bool, true, false, ◌&&◌, ◌||◌, refl, sym, ap, ap₂, ◌∙◌, subst, Option, Some, None, Ordering, Less, Equal, Greater, append-nil, nat_cmp}
use Rattle.std.specs.Prelude.{if◌then◌else◌, MatchOption}
use Rattle.std.specs.Option.{option_copied, option_map}
use denote.Ref.{Bor}
use Rattle.std.specs.List.{filter, list_all, list_any}
use Rattle.std.specs.Ordering.{match_ordering, is_lt}
use Rattle.std.specs.Cmp.Lexicographic.{slice_cmp}
use Rattle.std.proofs.lemmas.Bool.{false≢true, and_from, and_parts, or_right}
use Rattle.std.proofs.lemmas.Cmp.{on_total, nat_list_cmp_total}
use Rattle.std.proofs.lemmas.List.Elements.{filter-append}
use Rattle.tab_term.specs.declared.term.Term.{Term}
use Rattle.tab_term.specs.View.{term}
use Rattle.tab_term.specs.Canon.{canon}
use Rattle.tab_term.specs.Data.{PlainTerm, PlainTerms}
pub use Rattle.tab_lists.proofs.ListsLemmas.{plain-list}
use Rattle.tab_term.specs.OrderLaws.{canon_same}
use Rattle.tab_term.specs.Same.{same, same-Decides}
use Rattle.tab_map.specs.Entries.{lookup, insert_entry, remove_entry, AllAbove, Ascends}
use Rattle.tab_map.proofs.AscendsLemmas.{ascends_insert, ascends_remove}
use Rattle.tab_model.specs.Names.{less, plain_terms, terms_list}
use Rattle.tab_model.specs.Tables.{Rows, key, has_key, at, put, delete, delete_object, insert, apply, follows, is_ordered}
use Rattle.tab_model.specs.Operations.{key_of_change}
use Rattle.tab_model.specs.Shapes.{term_value}
use Rattle.tab_model.specs.declared.data.Kind.{Kind}
use Rattle.tab_model.specs.declared.data.Kind.TheVariants.{Set, Bag}
use Rattle.tab_model.specs.declared.data.Change.TheVariants as change
use Rattle.tab_model.specs.declared.data.Change.{Change}
use Rattle.tab_model.proofs.TableLaws.{same_true, same_refl, same_lists}
use Rattle.tab_model.proofs.ChangeLaws.{at-apply, ordered-apply, none_left, at_end, any_at}
use Rattle.tab_rows.specs.Joined.{Entry, joined, IsKeyed, AllKeyed, IsInOrder, followed_by}
use Rattle.tab_records.proofs.LookUps.{lookup_above, lookup_insert, lookup_remove}
use Rattle.tab_model.proofs.ShapeLaws.{term_held}
use Rattle.tab_term.specs.Order.{term_cmp}
use Rattle.tab_term.proofs.Total.{term_total}

pub filter_all : (p : PlainTerm → Bool) (xs : Rows) → list_all (λ x. p x) xs ≡ true → filter p xs ≡ xs
filter_all p [] h = refl
filter_all p (x ∷ xs) h = let q = and_parts (p x) (list_all p xs) h in ap (λ b. if b then x ∷ filter p xs else filter p xs) q.0 ∙ ap (λ ys. x ∷ ys) (filter_all p xs q.1)

-- records of one key, seen at another
at_other : (k q : PlainTerm) (xs : Rows) → same k q ≡ false → list_all (has_key k) xs ≡ true → at xs q ≡ []
at_other k q [] d h = refl
at_other k q (x ∷ xs) d h =
    let p = and_parts (has_key k x) (list_all (has_key k) xs) h in
    ap (λ b. if b then x ∷ at xs q else at xs q) (ap (λ j. same j q) (same_true (key x) k p.0) ∙ d) ∙ at_other k q xs d p.1

at_same : (k q : PlainTerm) (xs : Rows) → same k q ≡ true → list_all (has_key k) xs ≡ true → at xs q ≡ xs
at_same k q xs e h = ap (λ j. at xs j) (sym (same_true k q e)) ∙ filter_all (has_key k) xs h

-- two keys, compared
less_is : (a b : Term) → term_cmp a b ≡ Less → less (term a) (term b) ≡ true
less_is a b h = ap is_lt h

equal_same : (a b : Term) → term_cmp a b ≡ Equal → same (term a) (term b) ≡ true
equal_same a b h = (same-Decides (term a) (term b)).1 (canon_same (term a) (term b) h)

pub unequal : (a b : Term) → (term_cmp a b ≡ Equal → ⊥) → same (term a) (term b) ≡ false
unequal a b n = cases (same (term a) (term b)) refl
  where
    itself : (t : PlainTerm) → slice_cmp nat_cmp (canon t) (canon t) ≡ Equal
    itself t = Rattle.std.proofs.lemmas.Cmp.tied_itself nat_list_cmp_total (canon t)

    cases : (c : Bool) → same (term a) (term b) ≡ c → c ≡ false
    cases false e = refl
    cases true e = absurd (n (ap (λ t. slice_cmp nat_cmp (canon (term a)) (canon t)) (sym (same_true (term a) (term b) e)) ∙ itself (term a)))

unequal_from : (a b : Term) (c : Ordering) → term_cmp a b ≡ c → (c ≡ Equal → ⊥) → same (term b) (term a) ≡ false
unequal_from a b c h n = cases (same (term b) (term a)) refl
  where
    cases : (d : Bool) → same (term b) (term a) ≡ d → d ≡ false
    cases false e = refl
    cases true e = absurd (false≢true (sym (unequal a b (λ g. n (sym h ∙ g))) ∙ ap (same (term a)) (same_true (term b) (term a) e) ∙ same_refl (term a)))

-- nothing stands at a key below all
at_above : (q : Term) (es : List Entry) → AllAbove term_cmp q es → AllKeyed es → at (joined es) (term q) ≡ []
at_above q [] a k = refl
at_above q (e ∷ es) a k =
    filter-append (has_key (term q)) (terms_list e.1) (joined es)
    ∙ ap₂ (λ xs ys. xs ++ ys) (at_other (term e.0) (term q) (terms_list e.1) (unequal_from q e.0 Less a.0 (λ h. cc)) k.0.keyed) (at_above q es a.1 k.1)

abbrev pub found_in : Option PlainTerms → Rows
found_in None = []
found_in (Some ts) = terms_list ts

-- what stands at a key is what a look-up finds there
pub at-joined : (es : List Entry) (q : Term) → Ascends term_cmp es → AllKeyed es → at (joined es) (term q) ≡ found_in (lookup term_cmp q es)
at-joined [] q s k = refl
at-joined (e ∷ es) q s k = filter-append (has_key (term q)) (terms_list e.1) (joined es) ∙ cases (at-joined es q s.1 k.1) (term_cmp q e.0) refl
  where
    cases : at (joined es) (term q) ≡ found_in (lookup term_cmp q es) → (c : Ordering) → term_cmp q e.0 ≡ c → at (terms_list e.1) (term q) ++ at (joined es) (term q) ≡ found_in (match_ordering c None (Some e.1) (lookup term_cmp q es))
    cases ih Less h = ap₂ (λ xs ys. xs ++ ys) (at_other (term e.0) (term q) (terms_list e.1) (unequal_from q e.0 Less h (λ g. cc)) k.0.keyed)
        (at_above q es (Rattle.tab_records.proofs.LookUps.below_all term_total q e.0 es h s.0) k.1)
    cases ih Equal h = ap₂ (λ xs ys. xs ++ ys) (at_same (term e.0) (term q) (terms_list e.1) (ap (same (term e.0)) (same_true (term q) (term e.0) (equal_same q e.0 h)) ∙ same_refl (term e.0)) k.0.keyed)
        (at_above q es (Rattle.tab_records.proofs.LookUps.at_all term_total q e.0 es h s.0) k.1) ∙ append-nil (terms_list e.1)
    cases ih Greater h = ap₂ (λ xs ys. xs ++ ys) (at_other (term e.0) (term q) (terms_list e.1) (unequal_from q e.0 Greater h (λ g. cc)) k.0.keyed) ih

-- ---- they stand in canonical order

all_append : (p : PlainTerm → Bool) (xs ys : Rows) → list_all p xs ≡ true → list_all p ys ≡ true → list_all p (xs ++ ys) ≡ true
all_append p [] ys h k = k
all_append p (x ∷ xs) ys h k = let q = and_parts (p x) (list_all p xs) h in and_from (p x) (list_all p (xs ++ ys)) q.0 (all_append p xs ys q.1 k)

follows_same : (k : PlainTerm) (x : PlainTerm) (ys : Rows) → has_key k x ≡ true → list_all (has_key k) ys ≡ true → list_all (follows x) ys ≡ true
follows_same k x [] h a = refl
follows_same k x (y ∷ ys) h a =
    let p = and_parts (has_key k y) (list_all (has_key k) ys) a in
    and_from (follows x y) (list_all (follows x) ys)
    (ap₂ (λ i j. same i j || less i j) (same_true (key x) k h) (same_true (key y) k p.0) ∙ ap (λ b. b || less k k) (same_refl k))
    (follows_same k x ys h p.1)

follows_part : (k j : Term) (x : PlainTerm) (ys : Rows) → term_cmp k j ≡ Less → has_key (term k) x ≡ true → list_all (has_key (term j)) ys ≡ true → list_all (follows x) ys ≡ true
follows_part k j x [] h e a = refl
follows_part k j x (y ∷ ys) h e a =
    let p = and_parts (has_key (term j) y) (list_all (has_key (term j)) ys) a in
    and_from (follows x y) (list_all (follows x) ys)
    (ap₂ (λ u v. same u v || less u v) (same_true (key x) (term k) e) (same_true (key y) (term j) p.0) ∙ or_right (same (term k) (term j)) (less (term k) (term j)) (less_is k j h))
    (follows_part k j x ys h e p.1)

follows_above : (k : Term) (x : PlainTerm) (es : List Entry) → has_key (term k) x ≡ true → AllAbove term_cmp k es → AllKeyed es → list_all (follows x) (joined es) ≡ true
follows_above k x [] e a d = refl
follows_above k x (y ∷ es) e a d = all_append (follows x) (terms_list y.1) (joined es) (follows_part k y.0 x (terms_list y.1) a.0 e d.0.keyed) (follows_above k x es e a.1 d.1)

ordered_part : (k : Term) (xs : Rows) (es : List Entry) → list_all (has_key (term k)) xs ≡ true → AllAbove term_cmp k es → AllKeyed es → is_ordered (joined es) ≡ true → is_ordered (xs ++ joined es) ≡ true
ordered_part k [] es h a d o = o
ordered_part k (x ∷ xs) es h a d o =
    let p = and_parts (has_key (term k) x) (list_all (has_key (term k)) xs) h in
    and_from (list_all (follows x) (xs ++ joined es)) (is_ordered (xs ++ joined es))
    (all_append (follows x) xs (joined es) (follows_same (term k) x xs p.0 p.1) (follows_above k x es p.0 a d))
    (ordered_part k xs es p.1 a d o)

pub ordered-joined : (es : List Entry) → Ascends term_cmp es → AllKeyed es → is_ordered (joined es) ≡ true
ordered-joined [] s k = refl
ordered-joined (e ∷ es) s k = ordered_part e.0 (terms_list e.1) es k.0.keyed s.0 k.1 (ordered-joined es s.1 k.1)

-- ---- a change

pub keyed_insert : (x : Entry) (es : List Entry) → IsKeyed x → AllKeyed es → AllKeyed (insert_entry term_cmp x es)
keyed_insert x [] h k = (h, tt)
keyed_insert x (e ∷ es) h k = cases (keyed_insert x es h k.1) (term_cmp x.0 e.0)
  where
    cases : AllKeyed (insert_entry term_cmp x es) → (c : Ordering) → AllKeyed (match_ordering c (x ∷ e ∷ es) (x ∷ es) (e ∷ insert_entry term_cmp x es))
    cases ih Less = (h, k)
    cases ih Equal = (h, k.1)
    cases ih Greater = (k.0, ih)

pub keyed_remove : (x : Term) (es : List Entry) → AllKeyed es → AllKeyed (remove_entry term_cmp x es)
keyed_remove x [] k = tt
keyed_remove x (e ∷ es) k = cases (keyed_remove x es k.1) (term_cmp x e.0)
  where
    cases : AllKeyed (remove_entry term_cmp x es) → (c : Ordering) → AllKeyed (match_ordering c (e ∷ es) es (e ∷ remove_entry term_cmp x es))
    cases ih Less = k
    cases ih Equal = k.1
    cases ih Greater = (k.0, ih)

-- lists kept by key that find the same at each key are those of a change
by_cells : (kind : Kind) (es fs : List Entry) (c : Change) (k : Term) → key_of_change c ≡ term k → Ascends term_cmp es → AllKeyed es → Ascends term_cmp fs → AllKeyed fs
    → ((q : Term) → found_in (lookup term_cmp q fs) ≡ found_in (match_ordering (term_cmp q k) (lookup term_cmp q es) (Some (plain_terms (apply kind (found_in (lookup term_cmp k es)) c))) (lookup term_cmp q es)))
    → joined fs ≡ apply kind (joined es) c
by_cells kind es fs c k kc s a t b f = same_lists (joined fs) (apply kind (joined es) c) (ordered-joined fs t b) (ordered-apply kind (joined es) c (ordered-joined es s a)) cells
  where
    round : (xs : Rows) → terms_list (plain_terms xs) ≡ xs
    round [] = refl
    round (x ∷ xs) = ap (λ ys. x ∷ ys) (round xs)

    at_held : (q : Term) (c' : Ordering) → term_cmp q k ≡ c' → found_in (match_ordering c' (lookup term_cmp q es) (Some (plain_terms (apply kind (found_in (lookup term_cmp k es)) c))) (lookup term_cmp q es))
        ≡ (if same (key_of_change c) (term q) then apply kind (at (joined es) (term q)) c else at (joined es) (term q))
    at_held q Less h = sym (at-joined es q s a) ∙ ap (λ z. if z then apply kind (at (joined es) (term q)) c else at (joined es) (term q)) (sym (ap (λ j. same j (term q)) kc ∙ unequal_from q k Less h (λ g. cc)))
    at_held q Equal h =
        let one : term q ≡ term k = same_true (term q) (term k) (equal_same q k h) in
        round (apply kind (found_in (lookup term_cmp k es)) c)
        ∙ ap (λ z. apply kind z c) (sym (at-joined es k s a) ∙ ap (λ j. at (joined es) j) (sym one))
        ∙ ap (λ z. if z then apply kind (at (joined es) (term q)) c else at (joined es) (term q)) (sym (ap₂ (λ i j. same i j) kc one ∙ same_refl (term k)))
    at_held q Greater h = sym (at-joined es q s a) ∙ ap (λ z. if z then apply kind (at (joined es) (term q)) c else at (joined es) (term q)) (sym (ap (λ j. same j (term q)) kc ∙ unequal_from q k Greater h (λ g. cc)))

    cells_at : (q : Term) → at (joined fs) (term q) ≡ at (apply kind (joined es) c) (term q)
    cells_at q = at-joined fs q t b ∙ f q ∙ at_held q (term_cmp q k) refl ∙ sym (at-apply kind (joined es) c (term q) (ordered-joined es s a))

    cells : (q : PlainTerm) → at (joined fs) q ≡ at (apply kind (joined es) c) q
    cells q = subst (λ (j : PlainTerm). at (joined fs) j ≡ at (apply kind (joined es) c) j) (term_held q) (cells_at (term_value q))

-- a change that leaves records at its key
pub joined-insert : (kind : Kind) (es : List Entry) (c : Change) (k : Term) (ts : PlainTerms) → key_of_change c ≡ term k → Ascends term_cmp es → AllKeyed es
    → terms_list ts ≡ apply kind (found_in (lookup term_cmp k es)) c → IsKeyed (k, ts)
    → joined (insert_entry term_cmp (k, ts) es) ≡ apply kind (joined es) c
joined-insert kind es c k ts kc s a is keyed =
    by_cells kind es (insert_entry term_cmp (k, ts) es) c k kc s a (ascends_insert term_total (k, ts) es s) (keyed_insert (k, ts) es keyed a)
    (λ q. ap found_in (lookup_insert term_total (k, ts) es q s) ∙ inside q (term_cmp q k))
  where
    round : (xs : Rows) → terms_list (plain_terms xs) ≡ xs
    round [] = refl
    round (x ∷ xs) = ap (λ ys. x ∷ ys) (round xs)

    inside : (q : Term) (c' : Ordering) → found_in (match_ordering c' (lookup term_cmp q es) (Some ts) (lookup term_cmp q es)) ≡ found_in (match_ordering c' (lookup term_cmp q es) (Some (plain_terms (apply kind (found_in (lookup term_cmp k es)) c))) (lookup term_cmp q es))
    inside q Less = refl
    inside q Equal = is ∙ sym (round (apply kind (found_in (lookup term_cmp k es)) c))
    inside q Greater = refl

-- a change that leaves none
pub joined-remove : (kind : Kind) (es : List Entry) (c : Change) (k : Term) → key_of_change c ≡ term k → Ascends term_cmp es → AllKeyed es
    → apply kind (found_in (lookup term_cmp k es)) c ≡ []
    → joined (remove_entry term_cmp k es) ≡ apply kind (joined es) c
joined-remove kind es c k kc s a is =
    by_cells kind es (remove_entry term_cmp k es) c k kc s a (ascends_remove term_cmp k es s) (keyed_remove k es a)
    (λ q. ap found_in (lookup_remove term_total k es q s) ∙ inside q (term_cmp q k))
  where
    inside : (q : Term) (c' : Ordering) → found_in (match_ordering c' (lookup term_cmp q es) None (lookup term_cmp q es)) ≡ found_in (match_ordering c' (lookup term_cmp q es) (Some (plain_terms (apply kind (found_in (lookup term_cmp k es)) c))) (lookup term_cmp q es))
    inside q Less = refl
    inside q Equal = sym (ap (λ z. terms_list (plain_terms z)) is)
    inside q Greater = refl

-- ---- what the functions meet

pub at_found : (es : List Entry) (q : Term) (ts : PlainTerms) → IsInOrder es → Some ts ≡ lookup term_cmp q es → ts ≡ plain_terms (at (joined es) (term q))
at_found es q ts o h = sym (plain-list ts) ∙ ap plain_terms (ap found_in h ∙ sym (at-joined es q o.ascends o.keyed))

pub at_entry : (es : List Entry) (q : Term) (o : Option (Bor Entry)) → IsInOrder es → option_map (λ e. e.1) (option_copied o) ≡ lookup term_cmp q es
    → MatchOption o (at (joined es) (term q) ≡ []) (λ e. e.now.1 ≡ plain_terms (at (joined es) (term q)))
at_entry es q None o h = at-joined es q o.ascends o.keyed ∙ ap found_in (sym h)
at_entry es q (Some e) o h = at_found es q e.now.1 o h

pub order_insert : (k : Term) (ts : PlainTerms) (es : List Entry) → IsInOrder es → IsKeyed (k, ts) → IsInOrder (insert_entry term_cmp (k, ts) es)
order_insert k ts es o h = record { ascends = ascends_insert term_total (k, ts) es o.ascends; keyed = keyed_insert (k, ts) es h o.keyed }

pub order_remove : (k : Term) (es : List Entry) → IsInOrder es → IsInOrder (remove_entry term_cmp k es)
order_remove k es o = record { ascends = ascends_remove term_cmp k es o.ascends; keyed = keyed_remove k es o.keyed }

-- what a write leaves: the map in order, and as its list what the write makes of the list before
pub record Writes (kind : Kind) (es fs : List Entry) (r : Term) : Type 0 where
  pub order : IsInOrder fs
  pub list : joined fs ≡ put kind (joined es) (term r)

row_keyed : (k r : Term) → key (term r) ≡ term k → list_all (has_key (term k)) (term r ∷ []) ≡ true
row_keyed k r kr = ap (λ b. b && true) (ap (λ j. same j (term k)) kr ∙ same_refl (term k))

-- a set's write
pub put_set : (es : List Entry) (k r : Term) (ts : PlainTerms) → term k ≡ key (term r) → IsInOrder es → terms_list ts ≡ term r ∷ [] → Writes Set es (insert_entry term_cmp (k, ts) es) r
put_set es k r ts rk o is = record {
  order = order_insert k ts es o keyed;
  list = joined-insert Set es (change.Write r) k ts (sym rk) o.ascends o.keyed
      (is ∙ ap (insert (term r)) (sym (ap₂ (λ xs j. delete xs j) (sym (at-joined es k o.ascends o.keyed)) (sym rk) ∙ none_left (joined es) (term k)))) keyed;
}
  where
    keyed : IsKeyed (k, ts)
    keyed = record { keyed = ap (list_all (has_key (term k))) is ∙ row_keyed k r (sym rk); filled = λ e. let h : term r ∷ [] ≡ [] = sym is ∙ e in cc }

-- a bag's write of a record that is there
pub put_there : (es : List Entry) (k r : Term) (ts : PlainTerms) → term k ≡ key (term r) → IsInOrder es → ts ≡ plain_terms (at (joined es) (term k)) → true ≡ list_any (same (term r)) (terms_list ts)
    → joined es ≡ put Bag (joined es) (term r)
put_there es k r ts rk o is there = ap (λ b. Rattle.tab_model.specs.Tables.put_bag (joined es) (term r) b)
    (sym (any_at (term r) (joined es) ∙ ap (λ j. list_any (same (term r)) (at (joined es) j)) (sym rk) ∙ ap (list_any (same (term r))) (sym (round (at (joined es) (term k)))) ∙ ap (λ z. list_any (same (term r)) (terms_list z)) (sym is) ∙ sym there))
  where
    round : (xs : Rows) → terms_list (plain_terms xs) ≡ xs
    round [] = refl
    round (x ∷ xs) = ap (λ ys. x ∷ ys) (round xs)

pub found_keyed : (es : List Entry) (k : Term) → IsInOrder es → list_all (has_key (term k)) (found_in (lookup term_cmp k es)) ≡ true
found_keyed es k o = ap (list_all (has_key (term k))) (sym (at-joined es k o.ascends o.keyed)) ∙ all_filter (joined es)
  where
    cases : (x : PlainTerm) (rows : Rows) → list_all (has_key (term k)) (at rows (term k)) ≡ true → (b : Bool) → has_key (term k) x ≡ b → list_all (has_key (term k)) (if b then x ∷ at rows (term k) else at rows (term k)) ≡ true
    cases x rows ih true e = and_from (has_key (term k) x) (list_all (has_key (term k)) (at rows (term k))) e ih
    cases x rows ih false e = ih

    all_filter : (rows : Rows) → list_all (has_key (term k)) (at rows (term k)) ≡ true
    all_filter [] = refl
    all_filter (x ∷ rows) = cases x rows (all_filter rows) (has_key (term k) x) refl

listed : (xs : Rows) → terms_list (plain_terms xs) ≡ xs
listed [] = refl
listed (x ∷ xs) = ap (λ ys. x ∷ ys) (listed xs)

-- what stands at a key, with one more
pub followed : (ts : PlainTerms) (x : PlainTerm) → terms_list (followed_by ts x) ≡ terms_list ts ++ x ∷ []
followed ts x = listed (terms_list ts ++ x ∷ [])

-- a bag's write of another record
pub put_new : (es : List Entry) (k r : Term) (ts us : PlainTerms) → term k ≡ key (term r) → IsInOrder es → ts ≡ plain_terms (at (joined es) (term k)) → false ≡ list_any (same (term r)) (terms_list ts)
    → terms_list us ≡ terms_list ts ++ term r ∷ [] → Writes Bag es (insert_entry term_cmp (k, us) es) r
put_new es k r ts us rk o before absent is = record {
  order = order_insert k us es o keyed;
  list = joined-insert Bag es (change.Write r) k us (sym rk) o.ascends o.keyed
      (whole ∙ sym (ap (λ b. Rattle.tab_model.specs.Tables.put_bag (found_in (lookup term_cmp k es)) (term r) b) (ap (list_any (same (term r))) (sym found) ∙ sym absent) ∙ ended)) keyed;
}
  where
    round : (xs : Rows) → terms_list (plain_terms xs) ≡ xs
    round [] = refl
    round (x ∷ xs) = ap (λ ys. x ∷ ys) (round xs)

    found : terms_list ts ≡ found_in (lookup term_cmp k es)
    found = ap terms_list before ∙ round (at (joined es) (term k)) ∙ at-joined es k o.ascends o.keyed

    whole : terms_list us ≡ found_in (lookup term_cmp k es) ++ term r ∷ []
    whole = is ∙ ap (λ xs. xs ++ term r ∷ []) found

    not_nil : (xs : Rows) → xs ++ term r ∷ [] ≡ [] → ⊥
    not_nil [] e = cc
    not_nil (x ∷ xs) e = cc

    keyed : IsKeyed (k, us)
    keyed = record {
      keyed = ap (list_all (has_key (term k))) whole ∙ all_append (has_key (term k)) (found_in (lookup term_cmp k es)) (term r ∷ []) (found_keyed es k o) (row_keyed k r (sym rk));
      filled = λ e. not_nil (found_in (lookup term_cmp k es)) (sym whole ∙ e);
    }

    ended : insert (term r) (found_in (lookup term_cmp k es)) ≡ found_in (lookup term_cmp k es) ++ term r ∷ []
    ended = subst (λ (xs : Rows). insert (term r) xs ≡ xs ++ term r ∷ []) (ap (λ j. at (joined es) j) (sym rk) ∙ at-joined es k o.ascends o.keyed) (at_end (joined es) (term r))

-- a bag's first record of its key
pub put_first : (es : List Entry) (k r : Term) (us : PlainTerms) → term k ≡ key (term r) → IsInOrder es → at (joined es) (term k) ≡ [] → terms_list us ≡ term r ∷ [] → Writes Bag es (insert_entry term_cmp (k, us) es) r
put_first es k r us rk o absent is = put_new es k r Rattle.tab_term.specs.Data.none us rk o (sym (ap plain_terms absent)) refl is

-- a deletion
pub deleted : (kind : Kind) (es : List Entry) (k : Term) → IsInOrder es → joined (remove_entry term_cmp k es) ≡ delete (joined es) (term k)
deleted kind es k o = joined-remove kind es (change.Delete [] k) k refl o.ascends o.keyed (ap (λ xs. delete xs (term k)) (sym (at-joined es k o.ascends o.keyed)) ∙ none_left (joined es) (term k))

-- ---- a record that is taken out

-- the map in order, and its list
pub record Leaves (fs : List Entry) (rows : Rows) : Type 0 where
  pub order : IsInOrder fs
  pub list : joined fs ≡ rows

filter_keyed : (k : PlainTerm) (p : PlainTerm → Bool) (xs : Rows) → list_all (has_key k) xs ≡ true → list_all (has_key k) (filter p xs) ≡ true
filter_keyed k p [] h = refl
filter_keyed k p (x ∷ xs) h =
    let q = and_parts (has_key k x) (list_all (has_key k) xs) h in
    cases (filter_keyed k p xs q.1) q.0 (p x)
  where
    cases : list_all (has_key k) (filter p xs) ≡ true → has_key k x ≡ true → (b : Bool) → list_all (has_key k) (if b then x ∷ filter p xs else filter p xs) ≡ true
    cases ih here true = and_from (has_key k x) (list_all (has_key k) (filter p xs)) here ih
    cases ih here false = ih

found_at : (es : List Entry) (k : Term) (ts : PlainTerms) → IsInOrder es → ts ≡ plain_terms (at (joined es) (term k)) → terms_list ts ≡ found_in (lookup term_cmp k es)
found_at es k ts o is = ap terms_list is ∙ round (at (joined es) (term k)) ∙ at-joined es k o.ascends o.keyed
  where
    round : (xs : Rows) → terms_list (plain_terms xs) ≡ xs
    round [] = refl
    round (x ∷ xs) = ap (λ ys. x ∷ ys) (round xs)

-- others of its key are left
pub object_taken : (es : List Entry) (k r : Term) (ts us : PlainTerms) → term k ≡ key (term r) → IsInOrder es → ts ≡ plain_terms (at (joined es) (term k)) → terms_list us ≡ delete_object (terms_list ts) (term r) → (terms_list us ≡ [] → ⊥)
    → Leaves (insert_entry term_cmp (k, us) es) (delete_object (joined es) (term r))
object_taken es k r ts us rk o before is some =
    let left = is ∙ ap (λ xs. delete_object xs (term r)) (found_at es k ts o before) in
    let keyed : IsKeyed (k, us) = record { keyed = ap (list_all (has_key (term k))) left ∙ filter_keyed (term k) _ (found_in (lookup term_cmp k es)) (found_keyed es k o); filled = some } in
    record { order = order_insert k us es o keyed; list = joined-insert Bag es (change.DeleteObject r) k us (sym rk) o.ascends o.keyed left keyed }

-- it was the last of its key
pub last_taken : (es : List Entry) (k r : Term) (ts us : PlainTerms) → term k ≡ key (term r) → IsInOrder es → ts ≡ plain_terms (at (joined es) (term k)) → terms_list us ≡ delete_object (terms_list ts) (term r) → terms_list us ≡ []
    → Leaves (remove_entry term_cmp k es) (delete_object (joined es) (term r))
last_taken es k r ts us rk o before is none =
    record { order = order_remove k es o; list = joined-remove Bag es (change.DeleteObject r) k (sym rk) o.ascends o.keyed (ap (λ xs. delete_object xs (term r)) (sym (found_at es k ts o before)) ∙ sym is ∙ none) }
