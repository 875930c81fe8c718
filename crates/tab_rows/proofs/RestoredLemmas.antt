-- Records that are put back: a change that is undone, and what the map of the records makes of it.
use Rattle.std.proofs.Common.{◌≡◌, List, [], ◌∷◌, ◌++◌, Bool, true, false, not, ◌||◌, refl, sym, ap, ap₂, ◌∙◌, subst, Less, Equal, Greater, Ordering, append_assoc}
use Rattle.std.specs.Prelude.{◌≢◌, if◌then◌else◌, Option, None, Some, IfSome, Result, Ok, Err, IfOk, OnOk}
use Rattle.std.specs.List.{filter, list_all, list_any}
use Rattle.std.specs.Option.{option_map}
use Rattle.std.specs.Ordering.{match_ordering, is_lt, ordering_reverse}
use Rattle.std.specs.Cmp.{IsTotalOrder}
use Rattle.std.proofs.lemmas.Bool.{false≢true, and_parts}
use Rattle.std.proofs.lemmas.List.Elements.{filter-append}
use Rattle.tab_term.specs.declared.term.Term.{Term}
use Rattle.tab_term.specs.View.{term}
use Rattle.tab_term.specs.Data.{PlainTerm, PlainTerms}
use Rattle.tab_term.specs.Same.{same}
use Rattle.tab_term.specs.Order.{term_cmp}
use Rattle.tab_term.proofs.Total.{term_total}
use Rattle.tab_map.specs.Entries.{lookup, insert_entry, AllAbove, Ascends}
use Rattle.tab_records.proofs.LookUps.{below_all, at_all}
use Rattle.tab_model.specs.Names.{less, terms_list}
use Rattle.tab_model.specs.Tables.{Rows, key, has_key, at, put_bag, delete, insert, apply, follows, is_ordered}
use Rattle.tab_model.specs.Operations.{key_of_change}
use Rattle.tab_model.specs.declared.data.Kind.{Kind}
use Rattle.tab_model.specs.declared.data.Kind.TheVariants.{Set, Bag}
use Rattle.tab_model.specs.declared.data.Change.{Change}
use Rattle.tab_model.specs.declared.data.Change.TheVariants as change
use Rattle.tab_model.proofs.Order.{less-asym, less-trans, less-irrefl, less-linear}
use Rattle.tab_model.proofs.TableLaws.{same_true, same_refl, at-del, ordered-filter}
use Rattle.tab_rows.specs.Joined.{Entry, joined, AllKeyed, IsInOrder}
use Rattle.tab_rows.specs.Restored.{restored, records_of, HasRecordsOf}
use Rattle.tab_rows.specs.Former as Former
use Rattle.tab_rows.specs.Former.{AtKey, all_put_back}
use Rattle.tab_rows.proofs.Cells.{found_in, found_keyed, at-joined, ordered-joined}

-- ---- the records of other keys, after a change

taken_out : (g d : PlainTerm → Bool) → ((x : PlainTerm) → d x ≡ true → g (key x) ≡ false) → (rows : Rows) → filter (λ x. g (key x)) (filter (λ x. not (d x)) rows) ≡ filter (λ x. g (key x)) rows
taken_out g d h [] = refl
taken_out g d h (x ∷ rows) = cases (taken_out g d h rows) (d x) refl
  where
    cases : filter (λ y. g (key y)) (filter (λ y. not (d y)) rows) ≡ filter (λ y. g (key y)) rows → (b : Bool) → d x ≡ b
        → filter (λ y. g (key y)) (if not b then x ∷ filter (λ y. not (d y)) rows else filter (λ y. not (d y)) rows) ≡ (if g (key x) then x ∷ filter (λ y. g (key y)) rows else filter (λ y. g (key y)) rows)
    cases ih true e = ih ∙ sym (ap (λ b. if b then x ∷ filter (λ y. g (key y)) rows else filter (λ y. g (key y)) rows) (h x e))
    cases ih false e = ap (λ ys. if g (key x) then x ∷ ys else ys) ih

put_in : (g : PlainTerm → Bool) (r : PlainTerm) → g (key r) ≡ false → (rows : Rows) → filter (λ x. g (key x)) (insert r rows) ≡ filter (λ x. g (key x)) rows
put_in g r h [] = ap (λ b. if b then r ∷ [] else []) h
put_in g r h (x ∷ rows) = cases (put_in g r h rows) (less (key r) (key x))
  where
    cases : filter (λ y. g (key y)) (insert r rows) ≡ filter (λ y. g (key y)) rows → (b : Bool)
        → filter (λ y. g (key y)) (if b then r ∷ x ∷ rows else x ∷ insert r rows) ≡ filter (λ y. g (key y)) (x ∷ rows)
    cases ih true = ap (λ b. if b then r ∷ filter (λ y. g (key y)) (x ∷ rows) else filter (λ y. g (key y)) (x ∷ rows)) h
    cases ih false = ap (λ ys. if g (key x) then x ∷ ys else ys) ih

others_stay : (g : PlainTerm → Bool) (kind : Kind) (rows : Rows) (c : Change) → g (key_of_change c) ≡ false → filter (λ x. g (key x)) (apply kind rows c) ≡ filter (λ x. g (key x)) rows
others_stay g Set rows (change.Write r) h =
    put_in g (term r) h (delete rows (key (term r)))
    ∙ taken_out g (has_key (key (term r))) (λ x e. ap g (same_true (key x) (key (term r)) e) ∙ h) rows
others_stay g Bag rows (change.Write r) h = by_case (list_any (same (term r)) rows)
  where
    by_case : (b : Bool) → filter (λ x. g (key x)) (put_bag rows (term r) b) ≡ filter (λ x. g (key x)) rows
    by_case true = refl
    by_case false = put_in g (term r) h rows
others_stay g kind rows (change.Delete t k) h = taken_out g (has_key (term k)) (λ x e. ap g (same_true (key x) (term k) e) ∙ h) rows
others_stay g kind rows (change.DeleteObject r) h = taken_out g (same (term r)) (λ x e. ap (λ y. g (key y)) (sym (same_true (term r) x e)) ∙ h) rows

not_less : (k : PlainTerm) → less k k ≡ false
not_less k = cases (less k k) refl
  where
    cases : (b : Bool) → less k k ≡ b → b ≡ false
    cases false e = refl
    cases true e = absurd (false≢true (less-irrefl k e))

-- ---- records are those of lesser keys, those of the key, and those of greater keys

after_none : (k x y : PlainTerm) → less (key x) k ≡ false → follows x y ≡ true → less (key y) k ≡ false
after_none k x y h f = cases (less (key y) k) refl (same (key x) (key y)) refl
  where
    cases : (a : Bool) → less (key y) k ≡ a → (b : Bool) → same (key x) (key y) ≡ b → a ≡ false
    cases false e b d = refl
    cases true e true d = absurd (false≢true (sym h ∙ ap (λ j. less j k) (same_true (key x) (key y) d) ∙ e))
    cases true e false d = absurd (false≢true (sym h ∙ less-trans (key x) (key y) k (ap (λ b. b || less (key x) (key y)) (sym d) ∙ f) e))

none_lesser : (k x : PlainTerm) (rows : Rows) → less (key x) k ≡ false → list_all (follows x) rows ≡ true → filter (λ r. less (key r) k) rows ≡ []
none_lesser k x [] h a = refl
none_lesser k x (y ∷ rows) h a =
    let p = and_parts (follows x y) (list_all (follows x) rows) a in
    ap (λ b. if b then y ∷ filter (λ r. less (key r) k) rows else filter (λ r. less (key r) k) rows) (after_none k x y h p.0) ∙ none_lesser k x rows h p.1

apart : (a b : PlainTerm) → less a b ≡ true → same a b ≡ false
apart a b h = cases (same a b) refl
  where
    cases : (c : Bool) → same a b ≡ c → c ≡ false
    cases false e = refl
    cases true e = absurd (false≢true (less-irrefl b (ap (λ j. less j b) (sym (same_true a b e)) ∙ h)))

apart_back : (a b : PlainTerm) → less b a ≡ true → same a b ≡ false
apart_back a b h = cases (same a b) refl
  where
    cases : (c : Bool) → same a b ≡ c → c ≡ false
    cases false e = refl
    cases true e = absurd (false≢true (less-irrefl b (ap (less b) (sym (same_true a b e)) ∙ h)))

after_greater : (k x y : PlainTerm) → less k (key x) ≡ true → follows x y ≡ true → same (key y) k ≡ false
after_greater k x y h f = cases (same (key x) (key y)) refl
  where
    cases : (b : Bool) → same (key x) (key y) ≡ b → same (key y) k ≡ false
    cases true d = apart_back (key y) k (ap (less k) (sym (same_true (key x) (key y) d)) ∙ h)
    cases false d = apart_back (key y) k (less-trans k (key x) (key y) h (ap (λ b. b || less (key x) (key y)) (sym d) ∙ f))

none_of_key : (k x : PlainTerm) (rows : Rows) → less k (key x) ≡ true → list_all (follows x) rows ≡ true → at rows k ≡ []
none_of_key k x [] h a = refl
none_of_key k x (y ∷ rows) h a =
    let p = and_parts (follows x y) (list_all (follows x) rows) a in
    ap (λ b. if b then y ∷ at rows k else at rows k) (after_greater k x y h p.0) ∙ none_of_key k x rows h p.1

-- the three parts of records, of which the first record is in one
first_in : (x k : PlainTerm) (rows : Rows) (a b c : Bool) → less (key x) k ≡ a → same (key x) k ≡ b → less k (key x) ≡ c
    → restored (x ∷ rows) k (at (x ∷ rows) k) ≡ (if a then x ∷ filter (λ r. less (key r) k) rows else filter (λ r. less (key r) k) rows) ++ (if b then x ∷ at rows k else at rows k) ++ (if c then x ∷ filter (λ r. less k (key r)) rows else filter (λ r. less k (key r)) rows)
first_in x k rows a b c e f g =
    ap (λ z. (if z then x ∷ filter (λ r. less (key r) k) rows else filter (λ r. less (key r) k) rows) ++ at (x ∷ rows) k ++ filter (λ r. less k (key r)) (x ∷ rows)) e
    ∙ ap (λ z. (if a then x ∷ filter (λ r. less (key r) k) rows else filter (λ r. less (key r) k) rows) ++ (if z then x ∷ at rows k else at rows k) ++ filter (λ r. less k (key r)) (x ∷ rows)) f
    ∙ ap (λ z. (if a then x ∷ filter (λ r. less (key r) k) rows else filter (λ r. less (key r) k) rows) ++ (if b then x ∷ at rows k else at rows k) ++ (if z then x ∷ filter (λ r. less k (key r)) rows else filter (λ r. less k (key r)) rows)) g

pub parts : (rows : Rows) (k : PlainTerm) → is_ordered rows ≡ true → restored rows k (at rows k) ≡ rows
parts [] k o = refl
parts (x ∷ rows) k o =
    let q = and_parts (list_all (follows x) rows) (is_ordered rows) o in
    cases q.0 (parts rows k q.1) (less (key x) k) refl (same (key x) k) refl
  where
    cases : list_all (follows x) rows ≡ true → restored rows k (at rows k) ≡ rows → (a : Bool) → less (key x) k ≡ a → (b : Bool) → same (key x) k ≡ b → restored (x ∷ rows) k (at (x ∷ rows) k) ≡ x ∷ rows
    cases h ih true e b f = first_in x k rows true false false e (apart (key x) k e) (less-asym (key x) k e) ∙ ap (λ ys. x ∷ ys) ih
    cases h ih false e true f =
        first_in x k rows false true false e f (ap (less k) (same_true (key x) k f) ∙ not_less k)
        ∙ ap (λ ys. ys ++ x ∷ at rows k ++ filter (λ r. less k (key r)) rows) (none_lesser k x rows e h)
        ∙ ap (λ ys. x ∷ ys) (ap (λ ys. ys ++ at rows k ++ filter (λ r. less k (key r)) rows) (sym (none_lesser k x rows e h)) ∙ ih)
    cases h ih false e false f =
        let greater : less k (key x) ≡ true = greater_of e f in
        first_in x k rows false false true e f greater
        ∙ ap₂ (λ ys zs. ys ++ zs ++ x ∷ filter (λ r. less k (key r)) rows) (none_lesser k x rows e h) (none_of_key k x rows greater h)
        ∙ ap (λ ys. x ∷ ys) (ap₂ (λ ys zs. ys ++ zs ++ filter (λ r. less k (key r)) rows) (sym (none_lesser k x rows e h)) (sym (none_of_key k x rows greater h)) ∙ ih)
      where
        other_way : (b : Bool) → same k (key x) ≡ b → same (key x) k ≡ false → b ≡ false
        other_way false d f = refl
        other_way true d f = absurd (false≢true (sym f ∙ ap (λ j. same j k) (sym (same_true k (key x) d)) ∙ same_refl k))

        greater_of : less (key x) k ≡ false → same (key x) k ≡ false → less k (key x) ≡ true
        greater_of e f = ap (λ b. b || less k (key x)) (sym (other_way (same k (key x)) refl f)) ∙ less-linear (key x) k e

-- the former records of a change's key, put back, undo it
pub undoes : (kind : Kind) (rows : Rows) (c : Change) → is_ordered rows ≡ true → restored (apply kind rows c) (key_of_change c) (at rows (key_of_change c)) ≡ rows
undoes kind rows c o =
    let k = key_of_change c in
    ap₂ (λ xs ys. xs ++ at rows k ++ ys) (others_stay (λ j. less j k) kind rows c (not_less k)) (others_stay (less k) kind rows c (not_less k))
    ∙ parts rows k o

-- no records put back are a deletion
pub none_restored : (rows : Rows) (k : PlainTerm) → is_ordered rows ≡ true → restored rows k [] ≡ delete rows k
none_restored rows k o =
    let stay = λ (g : PlainTerm → Bool) (h : g k ≡ false). taken_out g (has_key k) (λ x e. ap g (same_true (key x) k e) ∙ h) rows in
    ap₂ (λ xs ys. xs ++ [] ++ ys) (sym (stay (λ j. less j k) (not_less k))) (sym (stay (less k) (not_less k)))
    ∙ ap (λ zs. filter (λ r. less (key r) k) (delete rows k) ++ zs ++ filter (λ r. less k (key r)) (delete rows k)) (sym (at-del rows k k ∙ ap (λ b. if b then [] else at rows k) (same_refl k)))
    ∙ parts (delete rows k) k (ordered-filter (λ x. not (has_key k x)) rows o)

-- ---- records by key

kept_part : (g : PlainTerm → Bool) (k : PlainTerm) (xs : Rows) → list_all (has_key k) xs ≡ true → g k ≡ true → filter (λ r. g (key r)) xs ≡ xs
kept_part g k [] h t = refl
kept_part g k (x ∷ xs) h t =
    let p = and_parts (has_key k x) (list_all (has_key k) xs) h in
    ap (λ b. if b then x ∷ filter (λ r. g (key r)) xs else filter (λ r. g (key r)) xs) (ap g (same_true (key x) k p.0) ∙ t) ∙ ap (λ ys. x ∷ ys) (kept_part g k xs p.1 t)

gone_part : (g : PlainTerm → Bool) (k : PlainTerm) (xs : Rows) → list_all (has_key k) xs ≡ true → g k ≡ false → filter (λ r. g (key r)) xs ≡ []
gone_part g k [] h t = refl
gone_part g k (x ∷ xs) h t =
    let p = and_parts (has_key k x) (list_all (has_key k) xs) h in
    ap (λ b. if b then x ∷ filter (λ r. g (key r)) xs else filter (λ r. g (key r)) xs) (ap g (same_true (key x) k p.0) ∙ t) ∙ gone_part g k xs p.1 t

greater_kept : (k : Term) (es : List Entry) → AllAbove term_cmp k es → AllKeyed es → filter (λ r. less (term k) (key r)) (joined es) ≡ joined es
greater_kept k [] a d = refl
greater_kept k (e ∷ es) a d =
    filter-append (λ r. less (term k) (key r)) (terms_list e.1) (joined es)
    ∙ ap₂ (λ xs ys. xs ++ ys) (kept_part (less (term k)) (term e.0) (terms_list e.1) d.0.keyed (ap is_lt a.0)) (greater_kept k es a.1 d.1)

lesser_gone : (k : Term) (es : List Entry) → AllAbove term_cmp k es → AllKeyed es → filter (λ r. less (key r) (term k)) (joined es) ≡ []
lesser_gone k [] a d = refl
lesser_gone k (e ∷ es) a d =
    filter-append (λ r. less (key r) (term k)) (terms_list e.1) (joined es)
    ∙ ap₂ (λ xs ys. xs ++ ys) (gone_part (λ j. less j (term k)) (term e.0) (terms_list e.1) d.0.keyed (less-asym (term k) (term e.0) (ap is_lt a.0))) (lesser_gone k es a.1 d.1)

pub put_back : (k : Term) (ts : PlainTerms) (es : List Entry) → Ascends term_cmp es → AllKeyed es → joined (insert_entry term_cmp (k, ts) es) ≡ restored (joined es) (term k) (terms_list ts)
put_back k ts [] s d = refl
put_back k ts (e ∷ es) s d = cases (put_back k ts es s.1 d.1) (term_cmp k e.0) refl
  where
    halves : (xs ys : Rows) → filter (λ r. less (key r) (term k)) (joined (e ∷ es)) ≡ xs → filter (λ r. less (term k) (key r)) (joined (e ∷ es)) ≡ ys → xs ++ terms_list ts ++ ys ≡ restored (joined (e ∷ es)) (term k) (terms_list ts)
    halves xs ys f g = sym (ap₂ (λ us vs. us ++ terms_list ts ++ vs) f g)

    cases : joined (insert_entry term_cmp (k, ts) es) ≡ restored (joined es) (term k) (terms_list ts) → (c : Ordering) → term_cmp k e.0 ≡ c
        → joined (match_ordering c ((k, ts) ∷ e ∷ es) ((k, ts) ∷ es) (e ∷ insert_entry term_cmp (k, ts) es)) ≡ restored (joined (e ∷ es)) (term k) (terms_list ts)
    cases ih Less h =
        let above = below_all term_total k e.0 es h s.0 in
        halves [] (joined (e ∷ es)) (lesser_gone k (e ∷ es) (h, above) d) (greater_kept k (e ∷ es) (h, above) d)
    cases ih Equal h =
        let above = at_all term_total k e.0 es h s.0 in
        halves [] (joined es)
        (filter-append (λ r. less (key r) (term k)) (terms_list e.1) (joined es)
        ∙ ap₂ (λ xs ys. xs ++ ys) (gone_part (λ j. less j (term k)) (term e.0) (terms_list e.1) d.0.keyed (ap is_lt (IsTotalOrder.antisymm term_total e.0 k ∙ ap ordering_reverse h))) (lesser_gone k es above d.1))
        (filter-append (λ r. less (term k) (key r)) (terms_list e.1) (joined es)
        ∙ ap₂ (λ xs ys. xs ++ ys) (gone_part (less (term k)) (term e.0) (terms_list e.1) d.0.keyed (ap is_lt h)) (greater_kept k es above d.1))
    cases ih Greater h =
        ap (λ xs. terms_list e.1 ++ xs) ih
        ∙ sym (append_assoc (terms_list e.1) (filter (λ r. less (key r) (term k)) (joined es) ++ terms_list ts) (filter (λ r. less (term k) (key r)) (joined es)))
        ∙ ap (λ xs. xs ++ filter (λ r. less (term k) (key r)) (joined es)) (sym (append_assoc (terms_list e.1) (filter (λ r. less (key r) (term k)) (joined es)) (terms_list ts)))
        ∙ halves (terms_list e.1 ++ filter (λ r. less (key r) (term k)) (joined es)) (filter (λ r. less (term k) (key r)) (joined es))
        (filter-append (λ r. less (key r) (term k)) (terms_list e.1) (joined es)
        ∙ ap (λ xs. xs ++ filter (λ r. less (key r) (term k)) (joined es)) (kept_part (λ j. less j (term k)) (term e.0) (terms_list e.1) d.0.keyed (ap is_lt (IsTotalOrder.antisymm term_total e.0 k ∙ ap ordering_reverse h))))
        (filter-append (λ r. less (term k) (key r)) (terms_list e.1) (joined es)
        ∙ ap (λ xs. xs ++ filter (λ r. less (term k) (key r)) (joined es)) (gone_part (less (term k)) (term e.0) (terms_list e.1) d.0.keyed (ap is_lt h)))

-- ---- an entry that is found

found_filled : (es : List Entry) (k : Term) → AllKeyed es → IfSome (lookup term_cmp k es) (λ ts. terms_list ts ≢ [])
found_filled [] k d = tt
found_filled (e ∷ es) k d = cases (found_filled es k d.1) (term_cmp k e.0)
  where
    cases : IfSome (lookup term_cmp k es) (λ ts. terms_list ts ≢ []) → (c : Ordering) → IfSome (match_ordering c None (Some e.1) (lookup term_cmp k es)) (λ ts. terms_list ts ≢ [])
    cases ih Less = tt
    cases ih Equal = d.0.filled
    cases ih Greater = ih

-- the former records of a key, as a search of the map found them
pub former_keyed : (es : List Entry) (k : Term) (o : Option Entry) → IsInOrder es → option_map (λ e. e.1) o ≡ lookup term_cmp k es → IfSome o (HasRecordsOf (term k))
former_keyed es k None order found = tt
former_keyed es k (Some e) order found = record {
  keyed = ap (λ (x : Option PlainTerms). list_all (has_key (term k)) (found_in x)) found ∙ found_keyed es k order;
  filled = subst (λ (x : Option PlainTerms). IfSome x (λ ts. terms_list ts ≢ [])) (sym found) (found_filled es k order.keyed);
}

pub former_records : (es : List Entry) (k : Term) (o : Option Entry) → IsInOrder es → option_map (λ e. e.1) o ≡ lookup term_cmp k es → records_of o ≡ at (joined es) (term k)
former_records es k None order found = ap found_in found ∙ sym (at-joined es k order.ascends order.keyed)
former_records es k (Some e) order found = ap found_in found ∙ sym (at-joined es k order.ascends order.keyed)

-- at an equal key
pub keyed_at : (j k : PlainTerm) (o : Option Entry) → j ≡ k → IfSome o (HasRecordsOf j) → IfSome o (HasRecordsOf k)
keyed_at j k o e h = subst (λ q. IfSome o (HasRecordsOf q)) e h

-- a change is undone by the former records of its key
pub undone_by : (es : List Entry) (rows new : Kind × Rows) (c : Change) (s : AtKey) → IsInOrder es → joined es ≡ rows.1 → new ≡ (rows.0, apply rows.0 rows.1 c) → s ≡ (key_of_change c, at rows.1 (key_of_change c))
    → Former.put_back new s ≡ rows
undone_by es rows new c s o view made kept =
    ap₂ Former.put_back made kept ∙ ap (λ (xs : Rows). (rows.0, xs)) (undoes rows.0 rows.1 c (ap is_ordered (sym view) ∙ ordered-joined es o.ascends o.keyed))

-- and where it may be refused
pub undone_if : {E : Type 0} (es : List Entry) (rows new : Kind × Rows) (c : Change) (r : Result AtKey E) → IsInOrder es → joined es ≡ rows.1 → OnOk r (new ≡ (rows.0, apply rows.0 rows.1 c))
    → IfOk r (λ s. s ≡ (key_of_change c, at rows.1 (key_of_change c))) → IfOk r (λ s. Former.put_back new s ≡ rows)
undone_if es rows new c (Ok s) o view made kept = undone_by es rows new c s o view made kept
undone_if es rows new c (Err e) o view made kept = tt

-- what was kept last is put back first
pub last_first : (rows : Kind × Rows) (ss : List AtKey) (s : AtKey) → all_put_back rows (ss ++ s ∷ []) ≡ all_put_back (Former.put_back rows s) ss
last_first rows [] s = refl
last_first rows (x ∷ ss) s = ap (λ v. Former.put_back v x) (last_first rows ss s)

-- what is taken from the end is put back
pub popped : (rows new : Kind × Rows) (all left : List AtKey) (s : AtKey) → all ≡ left ++ s ∷ [] → new ≡ Former.put_back rows s → all_put_back new left ≡ all_put_back rows all
popped rows new all left s items made = ap (λ v. all_put_back v left) made ∙ sym (last_first rows left s) ∙ ap (all_put_back rows) (sym items)
