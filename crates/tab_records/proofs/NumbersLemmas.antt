-- Records by numbers: one more behind them, and one less among them.
use Rattle.std.proofs.Common.{◌≡◌, ◌<◌, ◌≤◌, ◌+◌, ◌-◌, subst, ℕ, suc, List, [], ◌∷◌, ◌++◌, length, length-append, Bool, true, false, not, ◌||◌, refl, sym, ap, ◌∙◌, Ordering, Less, Equal, Greater, arith}
use Rattle.std.specs.Prelude.{◌≢◌, if◌then◌else◌, Option, Some, None, MatchOption, slice_get, is_some}
use Rattle.std.specs.Cmp.{IsEquivalence, nat_cmp_is, ranked}
use Rattle.std.specs.Cmp.Lexicographic.{slice_cmp}
use Rattle.std.specs.List.{filter, list_any}
use Rattle.std.specs.Ordering.{nat_cmp, match_ordering}
use Rattle.std.proofs.lemmas.Bool.{false≢true}
use Rattle.std.proofs.lemmas.Cmp.{tied_itself, nat_list_cmp_total}
use denote.Ref.{Bor}
use Rattle.tab_term.specs.declared.term.Term.{Term}
use Rattle.tab_term.specs.View.{term}
use Rattle.tab_term.specs.Canon.{canon}
use Rattle.tab_term.specs.Data.{PlainTerm, PlainTerms, none, one_more, count, plain_terms, terms_list}
use Rattle.tab_term.specs.Order.{term_cmp}
use Rattle.tab_term.specs.OrderLaws.{canon_same}
use Rattle.tab_term.specs.Same.{same, same-Decides, same_equiv}
use Rattle.tab_term.proofs.Total.{term_total}
use Rattle.tab_map.specs.Entries.{lookup, insert_entry, remove_entry, AllAbove, Ascends}
use Rattle.tab_map.proofs.AscendsLemmas.{ascends_insert, ascends_remove}
use Rattle.tab_records.specs.Numbers.{Entry, records_in, number_of, AllBelow, AreApart, IsNumbered}
use Rattle.tab_records.specs.Forms.{first_of}
use Rattle.tab_records.proofs.LookUps.{lookup_insert, lookup_remove}

pub list-plain : (ts : List PlainTerm) → terms_list (plain_terms ts) ≡ ts
list-plain [] = refl
list-plain (t ∷ ts) = ap (λ us. t ∷ us) (list-plain ts)

pub count-plain : (ts : List PlainTerm) → count (plain_terms ts) ≡ length ts
count-plain [] = refl
count-plain (t ∷ ts) = ap suc (count-plain ts)

pub length-in : (es : List Entry) → length (records_in es) ≡ length es
length-in [] = refl
length-in (e ∷ es) = ap suc (length-in es)

in-append : (xs ys : List Entry) → records_in (xs ++ ys) ≡ records_in xs ++ records_in ys
in-append [] ys = refl
in-append (x ∷ xs) ys = ap (λ z. term x.1.0 ∷ z) (in-append xs ys)

-- ---- equal terms, and terms that the order calls equal

same_is : (a b : PlainTerm) → same a b ≡ true → a ≡ b
same_is a b h = (same-Decides a b).0 h

same_sym : (a b : PlainTerm) → same a b ≡ same b a
same_sym = IsEquivalence.symm same_equiv

compared : (q k : Term) → {X : Type 0} → (x y : X) → match_ordering (term_cmp q k) y x y ≡ (if same (term q) (term k) then x else y)
compared q k x y = cases (term_cmp q k) refl
  where
    itself : (t : PlainTerm) → slice_cmp nat_cmp (canon t) (canon t) ≡ Equal
    itself t = tied_itself nat_list_cmp_total (canon t)

    unlike : (b : Ordering) → term_cmp q k ≡ b → (b ≡ Equal → ⊥) → (c : Bool) → same (term q) (term k) ≡ c → false ≡ c
    unlike b h n false e = refl
    unlike b h n true e = absurd (n (sym h ∙ ap (λ t. slice_cmp nat_cmp (canon (term q)) (canon t)) (sym (same_is (term q) (term k) e)) ∙ itself (term q)))

    cases : (b : Ordering) → term_cmp q k ≡ b → match_ordering (term_cmp q k) y x y ≡ (if same (term q) (term k) then x else y)
    cases Less h = ap (λ b. match_ordering b y x y) h ∙ ap (λ c. if c then x else y) (unlike Less h (λ g. cc) (same (term q) (term k)) refl)
    cases Equal h = ap (λ b. match_ordering b y x y) h ∙ ap (λ c. if c then x else y) (sym ((same-Decides (term q) (term k)).1 (canon_same (term q) (term k) h)))
    cases Greater h = ap (λ b. match_ordering b y x y) h ∙ ap (λ c. if c then x else y) (unlike Greater h (λ g. cc) (same (term q) (term k)) refl)

-- ---- a record's number

pub is_found : (row : PlainTerm) (es : List Entry) → is_some (number_of row es) ≡ list_any (same row) (records_in es)
is_found row [] = refl
is_found row (e ∷ es) = cases (is_found row es) (same row (term e.1.0))
  where
    cases : is_some (number_of row es) ≡ list_any (same row) (records_in es) → (b : Bool) → is_some (if b then Some e.0 else number_of row es) ≡ (b || list_any (same row) (records_in es))
    cases ih true = refl
    cases ih false = ih

none_found : (row : PlainTerm) (es : List Entry) → list_any (same row) (records_in es) ≡ false → number_of row es ≡ None
none_found row es h = cases (number_of row es) (is_found row es ∙ h)
  where
    cases : (o : Option ℕ) → is_some o ≡ false → o ≡ None
    cases None e = refl
    cases (Some n) e = absurd (false≢true (sym e))

-- ---- one more

above : (a b : ℕ) → b < a → nat_cmp a b ≡ Greater
above a b h = sym (nat_cmp_is a b Greater h)

module _ (next : ℕ) (t : Term) where
  abbrev pub x : Entry
  x = (next, (t, next))

  insert_last : (es : List Entry) → AllBelow next es → insert_entry nat_cmp x es ≡ es ++ x ∷ []
  insert_last [] b = refl
  insert_last (e ∷ es) b =
      ap (λ c. match_ordering c (x ∷ e ∷ es) (x ∷ es) (e ∷ insert_entry nat_cmp x es)) (above next e.0 b.0) ∙ ap (λ z. e ∷ z) (insert_last es b.1)

  pub push_in : (es : List Entry) → AllBelow next es → records_in (insert_entry nat_cmp x es) ≡ records_in es ++ term t ∷ []
  push_in es b = ap records_in (insert_last es b) ∙ in-append es (x ∷ [])

  below_more : (es : List Entry) → AllBelow next es → AllBelow (next + 1) (es ++ x ∷ [])
  below_more [] b = (omega arith, tt)
  below_more (e ∷ es) b = (omega (arith, b.0), below_more es b.1)

  all_above_more : (k : ℕ) (es : List Entry) → AllAbove nat_cmp k es → k < next → AllAbove nat_cmp k (es ++ x ∷ [])
  all_above_more k [] a h = (sym (nat_cmp_is k next Less h), tt)
  all_above_more k (e ∷ es) a h = (a.0, all_above_more k es a.1 h)

  ascends_more : (es : List Entry) → Ascends nat_cmp es → AllBelow next es → Ascends nat_cmp (es ++ x ∷ [])
  ascends_more [] s b = (tt, tt)
  ascends_more (e ∷ es) s b = (all_above_more e.0 es s.0 b.0, ascends_more es s.1 b.1)

  any_more : (p : PlainTerm → Bool) (es : List Entry) → list_any p (records_in es) ≡ false → p (term t) ≡ false → list_any p (records_in (es ++ x ∷ [])) ≡ false
  any_more p [] h k = ap (λ b. b || false) k
  any_more p (e ∷ es) h k = cases (p (term e.1.0)) (any_more p es) h
    where
      cases : (b : Bool) → (list_any p (records_in es) ≡ false → p (term t) ≡ false → list_any p (records_in (es ++ x ∷ [])) ≡ false) → (b || list_any p (records_in es)) ≡ false → (b || list_any p (records_in (es ++ x ∷ []))) ≡ false
      cases true ih g = absurd (false≢true (sym g))
      cases false ih g = ih g k

  apart_more : (es : List Entry) → AreApart es → list_any (same (term t)) (records_in es) ≡ false → AreApart (es ++ x ∷ [])
  apart_more [] a h = (refl, tt)
  apart_more (e ∷ es) a h = cases (apart_more es a.1) (same (term t) (term e.1.0)) refl h
    where
      cases : (list_any (same (term t)) (records_in es) ≡ false → AreApart (es ++ x ∷ [])) → (b : Bool) → same (term t) (term e.1.0) ≡ b → (b || list_any (same (term t)) (records_in es)) ≡ false → AreApart ((e ∷ es) ++ x ∷ [])
      cases ih true e' g = absurd (false≢true (sym g))
      cases ih false e' g = (any_more (same (term e.1.0)) es a.0 (same_sym (term e.1.0) (term t) ∙ e'), ih g)

  found_more : (q : PlainTerm) (es : List Entry) → list_any (same (term t)) (records_in es) ≡ false → (if same q (term t) then Some next else number_of q es) ≡ number_of q (es ++ x ∷ [])
  found_more q [] h = refl
  found_more q (e ∷ es) h = cases (same q (term e.1.0)) refl (same q (term t)) refl (found_more q es)
    where
      other : (b : Bool) → same (term t) (term e.1.0) ≡ b → (b || list_any (same (term t)) (records_in es)) ≡ false → (b ≡ false) × (list_any (same (term t)) (records_in es) ≡ false)
      other true e' g = absurd (false≢true (sym g))
      other false e' g = (refl, g)

      cases : (b : Bool) → same q (term e.1.0) ≡ b → (c : Bool) → same q (term t) ≡ c
          → (list_any (same (term t)) (records_in es) ≡ false → (if same q (term t) then Some next else number_of q es) ≡ number_of q (es ++ x ∷ []))
          → (if same q (term t) then Some next else (if same q (term e.1.0) then Some e.0 else number_of q es)) ≡ (if same q (term e.1.0) then Some e.0 else number_of q (es ++ x ∷ []))
      cases true e' true g ih =
          absurd (false≢true (sym (other (same (term t) (term e.1.0)) refl h).0 ∙ ap (λ y. same y (term e.1.0)) (sym (same_is q (term t) g)) ∙ e'))
      cases true e' false g ih = ap (λ c. if c then Some next else (if same q (term e.1.0) then Some e.0 else number_of q es)) g ∙ ap (λ b. if b then Some e.0 else number_of q es) e' ∙ ap (λ b. if b then Some e.0 else number_of q (es ++ x ∷ [])) (sym e')
      cases false e' c g ih =
          ap (λ b. if same q (term t) then Some next else (if b then Some e.0 else number_of q es)) e'
          ∙ ih (other (same (term t) (term e.1.0)) refl h).1 ∙ ap (λ b. if b then Some e.0 else number_of q (es ++ x ∷ [])) (sym e')

  pub push_numbered : (es es' : List Entry) (ns ns' : List (Term × ℕ)) (before next' after : ℕ) → IsNumbered es ns next before → list_any (same (term t)) (records_in es) ≡ false
      → es' ≡ insert_entry nat_cmp x es → ns' ≡ insert_entry term_cmp (t, next) ns → next' ≡ next + 1 → after ≡ before + 1 → IsNumbered es' ns' next' after
  push_numbered es es' ns ns' before next' after c h e n p a =
      let is : es' ≡ es ++ x ∷ [] = e ∙ insert_last es c.below in
      record {
        ascends = rw is (ascends_more es c.ascends c.below);
        sorted = rw n (ascends_insert term_total (t, next) ns c.sorted);
        apart = rw is (apart_more es c.apart h);
        below = rw p (rw is (below_more es c.below));
        counted = omega (arith, a, c.counted, ap length is, length-append es (x ∷ []));
        found = λ q.
            ap (lookup term_cmp q) n ∙ lookup_insert term_total (t, next) ns q c.sorted ∙ compared q t (Some next) (lookup term_cmp q ns)
            ∙ ap (λ o. if same (term q) (term t) then Some next else o) (c.found q) ∙ found_more (term q) es h ∙ ap (number_of (term q)) (sym is);
      }

-- ---- one less

-- the records but those that are equal to this one
abbrev pub others : PlainTerm → List PlainTerm → List PlainTerm
others row ts = filter (λ x. not (same row x)) ts

others-append : (row : PlainTerm) (xs ys : List PlainTerm) → others row (xs ++ ys) ≡ others row xs ++ others row ys
others-append row [] ys = refl
others-append row (x ∷ xs) ys = cases (others-append row xs ys) (same row x)
  where
    cases : others row (xs ++ ys) ≡ others row xs ++ others row ys → (b : Bool) → (if not b then x ∷ others row (xs ++ ys) else others row (xs ++ ys)) ≡ (if not b then x ∷ others row xs else others row xs) ++ others row ys
    cases ih true = ih
    cases ih false = ap (λ zs. x ∷ zs) ih

none_same : (row : PlainTerm) (ts : List PlainTerm) → list_any (same row) ts ≡ false → others row ts ≡ ts
none_same row [] h = refl
none_same row (t ∷ ts) h = cases (none_same row ts) (same row t) h
  where
    cases : (list_any (same row) ts ≡ false → others row ts ≡ ts) → (b : Bool) → (b || list_any (same row) ts) ≡ false → (if not b then t ∷ others row ts else others row ts) ≡ t ∷ ts
    cases ih true g = absurd (false≢true (sym g))
    cases ih false g = ap (λ zs. t ∷ zs) (ih g)

pub none_missing : (row : PlainTerm) (es : List Entry) → is_some (number_of row es) ≡ false → others row (records_in es) ≡ records_in es
none_missing row es h = none_same row (records_in es) (sym (is_found row es) ∙ h)

-- where a record of a number stands
record HasPlace (row : PlainTerm) (n : ℕ) (es : List Entry) : Type 0 where
  before : List Entry
  entry : Entry
  after : List Entry
  is : es ≡ before ++ entry ∷ after
  number : entry.0 ≡ n
  equal : same row (term entry.1.0) ≡ true
  none : list_any (same row) (records_in before) ≡ false

abbrev number_in : Option ℕ → ℕ
number_in None = 0
number_in (Some n) = n

place_of : (row : PlainTerm) (n : ℕ) (es : List Entry) → number_of row es ≡ Some n → HasPlace row n es
place_of row n [] h = absurd (false≢true (ap is_some h))
place_of row n (e ∷ es) h = cases (place_of row n es) (same row (term e.1.0)) refl h
  where
    cases : (number_of row es ≡ Some n → HasPlace row n es) → (b : Bool) → same row (term e.1.0) ≡ b → (if b then Some e.0 else number_of row es) ≡ Some n → HasPlace row n (e ∷ es)
    cases ih true e' g = record { before = []; entry = e; after = es; is = refl; number = ap number_in g; equal = e'; none = refl }
    cases ih false e' g =
        let p = ih g in
        record { before = e ∷ p.before; entry = p.entry; after = p.after; is = ap (λ xs. e ∷ xs) p.is; number = p.number; equal = p.equal; none = ap (λ b. b || list_any (same row) (records_in p.before)) e' ∙ p.none }

remove_at : (q : List Entry) (e : Entry) (rest : List Entry) → Ascends nat_cmp (q ++ e ∷ rest) → remove_entry nat_cmp e.0 (q ++ e ∷ rest) ≡ q ++ rest
remove_at [] e rest s = ap (λ c. match_ordering c (e ∷ rest) rest (e ∷ remove_entry nat_cmp e.0 rest)) (sym (nat_cmp_is e.0 e.0 Equal refl))
remove_at (x ∷ q) e rest s =
    ap (λ c. match_ordering c (x ∷ q ++ e ∷ rest) (q ++ e ∷ rest) (x ∷ remove_entry nat_cmp e.0 (q ++ e ∷ rest))) (above e.0 x.0 (first_below q s.0))
    ∙ ap (λ z. x ∷ z) (remove_at q e rest s.1)
  where
    first_below : (q : List Entry) → AllAbove nat_cmp x.0 (q ++ e ∷ rest) → x.0 < e.0
    first_below [] a = ranked x.0 e.0 Less (sym a.0)
    first_below (y ∷ q) a = first_below q a.1

below_less : (next : ℕ) (q : List Entry) (e : Entry) (rest : List Entry) → AllBelow next (q ++ e ∷ rest) → AllBelow next (q ++ rest)
below_less next [] e rest b = b.1
below_less next (x ∷ q) e rest b = (b.0, below_less next q e rest b.1)

any_less : (p : PlainTerm → Bool) (q : List Entry) (e : Entry) (rest : List Entry) → list_any p (records_in (q ++ e ∷ rest)) ≡ false → list_any p (records_in (q ++ rest)) ≡ false
any_less p [] e rest h = cases (p (term e.1.0)) h
  where
    cases : (b : Bool) → (b || list_any p (records_in rest)) ≡ false → list_any p (records_in rest) ≡ false
    cases true g = absurd (false≢true (sym g))
    cases false g = g
any_less p (x ∷ q) e rest h = cases (any_less p q e rest) (p (term x.1.0)) h
  where
    cases : (list_any p (records_in (q ++ e ∷ rest)) ≡ false → list_any p (records_in (q ++ rest)) ≡ false) → (b : Bool) → (b || list_any p (records_in (q ++ e ∷ rest))) ≡ false → (b || list_any p (records_in (q ++ rest))) ≡ false
    cases ih true g = absurd (false≢true (sym g))
    cases ih false g = ih g

above_less : (k : ℕ) (q : List Entry) (e : Entry) (rest : List Entry) → AllAbove nat_cmp k (q ++ e ∷ rest) → AllAbove nat_cmp k (q ++ rest)
above_less k [] e rest a = a.1
above_less k (x ∷ q) e rest a = (a.0, above_less k q e rest a.1)

ascends_less : (q : List Entry) (e : Entry) (rest : List Entry) → Ascends nat_cmp (q ++ e ∷ rest) → Ascends nat_cmp (q ++ rest)
ascends_less [] e rest s = s.1
ascends_less (x ∷ q) e rest s = (above_less x.0 q e rest s.0, ascends_less q e rest s.1)

apart_less : (q : List Entry) (e : Entry) (rest : List Entry) → AreApart (q ++ e ∷ rest) → AreApart (q ++ rest)
apart_less [] e rest a = a.1
apart_less (x ∷ q) e rest a = (any_less (same (term x.1.0)) q e rest a.0, apart_less q e rest a.1)

apart_at : (q : List Entry) (e : Entry) (rest : List Entry) → AreApart (q ++ e ∷ rest) → list_any (same (term e.1.0)) (records_in rest) ≡ false
apart_at [] e rest a = a.0
apart_at (x ∷ q) e rest a = apart_at q e rest a.1

none_both : (p : PlainTerm → Bool) (q rest : List Entry) → list_any p (records_in q) ≡ false → list_any p (records_in rest) ≡ false → list_any p (records_in (q ++ rest)) ≡ false
none_both p [] rest h k = k
none_both p (x ∷ q) rest h k = cases (none_both p q rest) (p (term x.1.0)) h
  where
    cases : (list_any p (records_in q) ≡ false → list_any p (records_in rest) ≡ false → list_any p (records_in (q ++ rest)) ≡ false) → (b : Bool) → (b || list_any p (records_in q)) ≡ false → (b || list_any p (records_in (q ++ rest))) ≡ false
    cases ih true g = absurd (false≢true (sym g))
    cases ih false g = ih g k

number_less : (x : PlainTerm) (q : List Entry) (e : Entry) (rest : List Entry) → same x (term e.1.0) ≡ false → number_of x (q ++ e ∷ rest) ≡ number_of x (q ++ rest)
number_less x [] e rest h = ap (λ b. if b then Some e.0 else number_of x rest) h
number_less x (y ∷ q) e rest h = ap (λ o. if same x (term y.1.0) then Some y.0 else o) (number_less x q e rest h)

module _ (row : Term) (n : ℕ) (es es' : List Entry) (s : Ascends nat_cmp es) (a : AreApart es) (h : number_of (term row) es ≡ Some n) (r : es' ≡ remove_entry nat_cmp n es) where
  place : HasPlace (term row) n es
  place = place_of (term row) n es h

  left_is : es' ≡ place.before ++ place.after
  left_is =
      let p = place in
      r ∙ ap (λ k. remove_entry nat_cmp k es) (sym p.number) ∙ ap (remove_entry nat_cmp p.entry.0) p.is ∙ remove_at p.before p.entry p.after (subst (Ascends nat_cmp) p.is s)

  none_after : list_any (same (term row)) (records_in place.after) ≡ false
  none_after =
      let p = place in
      ap (λ t. list_any (same t) (records_in p.after)) (same_is (term row) (term p.entry.1.0) p.equal) ∙ apart_at p.before p.entry p.after (subst AreApart p.is a)

  pub others_in : records_in es' ≡ others (term row) (records_in es)
  others_in =
      let p = place in
      ap records_in left_is ∙ in-append p.before p.after
      ∙ ap (λ xs. xs ++ records_in p.after) (sym (none_same (term row) (records_in p.before) p.none))
      ∙ ap (λ xs. others (term row) (records_in p.before) ++ xs) (sym (none_same (term row) (records_in p.after) none_after))
      ∙ ap (λ b. others (term row) (records_in p.before) ++ (if not b then term p.entry.1.0 ∷ others (term row) (records_in p.after) else others (term row) (records_in p.after))) (sym p.equal)
      ∙ sym (others-append (term row) (records_in p.before) (records_in (p.entry ∷ p.after)))
      ∙ ap (others (term row)) (sym (in-append p.before (p.entry ∷ p.after))) ∙ ap (λ xs. others (term row) (records_in xs)) (sym p.is)

  found_less : (q : PlainTerm) → (if same q (term row) then None else number_of q es) ≡ number_of q es'
  found_less q = cases (same q (term row)) refl
    where
      cases : (b : Bool) → same q (term row) ≡ b → (if same q (term row) then None else number_of q es) ≡ number_of q es'
      cases true e' =
          let p = place in
          ap (λ b. if b then None else number_of q es) e'
          ∙ sym (none_found q (p.before ++ p.after) (ap (λ t. list_any (same t) (records_in (p.before ++ p.after))) (same_is q (term row) e') ∙ none_both (same (term row)) p.before p.after p.none none_after))
          ∙ ap (number_of q) (sym left_is)
      cases false e' =
          let p = place in
          ap (λ b. if b then None else number_of q es) e' ∙ ap (number_of q) p.is
          ∙ number_less q p.before p.entry p.after (ap (same q) (sym (same_is (term row) (term p.entry.1.0) p.equal)) ∙ e')
          ∙ ap (number_of q) (sym left_is)

  pub less_numbered : (ns ns' : List (Term × ℕ)) (next before : ℕ) → IsNumbered es ns next before → ns' ≡ remove_entry term_cmp row ns → IsNumbered es' ns' next (before - 1)
  less_numbered ns ns' next before c m =
      let p = place in
      record {
        ascends = subst (Ascends nat_cmp) (sym left_is) (ascends_less p.before p.entry p.after (subst (Ascends nat_cmp) p.is c.ascends));
        sorted = subst (Ascends term_cmp) (sym m) (ascends_remove term_cmp row ns c.sorted);
        apart = subst AreApart (sym left_is) (apart_less p.before p.entry p.after (subst AreApart p.is c.apart));
        below = subst (AllBelow next) (sym left_is) (below_less next p.before p.entry p.after (subst (AllBelow next) p.is c.below));
        counted = omega (arith, c.counted, ap length p.is, ap length left_is, length-append p.before (p.entry ∷ p.after), length-append p.before p.after);
        found = λ q.
            ap (lookup term_cmp q) m ∙ lookup_remove term_total row ns q c.sorted ∙ compared q row None (lookup term_cmp q ns)
            ∙ ap (λ o. if same (term q) (term row) then None else o) (c.found q) ∙ found_less (term q);
      }

  pub one_at_least : (ns : List (Term × ℕ)) (next before : ℕ) → IsNumbered es ns next before → 1 ≤ before
  one_at_least ns next before c = let p = place in omega (arith, c.counted, ap length p.is, length-append p.before (p.entry ∷ p.after))

-- ---- the first

pub first_in : (es : List Entry) (e : Entry) → Some e ≡ slice_get es 0 → first_of (plain_terms (records_in es)) ≡ term e.1.0 ∷ []
first_in [] e h = absurd (false≢true (ap is_some (sym h)))
first_in (y ∷ es) e h = ap first_or (sym h)
  where
    first_or : Option Entry → List PlainTerm
    first_or None = []
    first_or (Some z) = term z.1.0 ∷ []

pub none_in : (es : List Entry) → None ≡ slice_get es 0 → records_in es ≡ []
none_in [] h = refl
none_in (y ∷ es) h = absurd (false≢true (ap is_some h))

-- ---- one alone

-- where one record is counted, it is the first
pub single_in : (es : List Entry) (e : Entry) → length (records_in es) ≡ 1 → Some e ≡ slice_get es 0 → records_in es ≡ term e.1.0 ∷ []
single_in [] e n h = absurd (false≢true (ap is_some (sym h)))
single_in (y ∷ []) e n h = ap all_of (sym h)
  where
    all_of : Option Entry → List PlainTerm
    all_of None = []
    all_of (Some z) = term z.1.0 ∷ []
single_in (y ∷ z ∷ es) e n h = absurd (omega (arith, n))

-- where one record is counted, there is a first
pub single_there : (es : List Entry) → length (records_in es) ≡ 1 → None ≡ slice_get es 0 → ⊥
single_there [] n h = omega (arith, n)
single_there (y ∷ es) n h = false≢true (ap is_some h)

pub single_plain : (ts : List PlainTerm) (all : PlainTerms) (r : Option (Bor Term)) → plain_terms ts ≡ all
    → MatchOption r (length ts ≢ 1) (λ row. ts ≡ term row.now ∷ []) → MatchOption r (count all ≢ 1) (λ row. all ≡ one_more (term row.now) none)
single_plain ts all None e h = λ n. h (sym (count-plain ts) ∙ ap count e ∙ n)
single_plain ts all (Some row) e h = sym e ∙ ap plain_terms h
