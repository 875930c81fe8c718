-- What entries that are made of pairs, one after the other, have.
use Rattle.std.proofs.Common.{◌≡◌, ℕ, ◌+◌, ◌-◌, ◌<◌, List, [], ◌∷◌, ◌++◌, length, take, get_or, set, Bool, true, false, ◌&&◌, ◌||◌, Some, None, Ordering, Less, Equal, Greater, refl, sym, ap, ap₂, ◌∙◌, subst, map, append_assoc, arith, add-sub_cancel, suc}
use Rattle.std.specs.Prelude.{if◌then◌else◌}
use Rattle.std.specs.Cmp.{IsEquivalence, IsTotalOrder}
use Rattle.std.specs.List.{list_any}
use Rattle.std.specs.List.Sorted.{IsPermutation, IsSortedBy}
use Rattle.std.specs.Ordering.{match_ordering, is_lt, is_eq}
use Rattle.std.proofs.lemmas.Bool.{false≢true}
use Rattle.std.proofs.lemmas.Cmp.{tied_itself, on_total, nat_list_cmp_total}
use Rattle.std.proofs.lemmas.List.{map_push, same_from_push, get_or_default, set_split, set-get_or, drop_all}
use Rattle.std.proofs.lemmas.List.Folds.{list_any_more}
use Rattle.std.proofs.lemmas.List.Sorted.{list_any-IsPermutation}
use Rattle.tab_term.specs.declared.term.Term.{Term}
use Rattle.tab_term.specs.Canon.{canon}
use Rattle.tab_term.specs.Data.{PlainTerm}
use Rattle.tab_term.specs.Order.{bytes_cmp, term_cmp}
use Rattle.tab_term.specs.OrderLaws.{matches_same}
use Rattle.tab_term.specs.Same.{same, same_equiv}
use Rattle.tab_term.specs.View.{term}
use Rattle.tab_term.proofs.Total.{term_total}
use Rattle.tab_map.specs.Entries.{lookup, insert_entry, Ascends}
use Rattle.tab_map.specs.KeyList.{contains_key, insert_key, KeysAscend}
use Rattle.tab_map.proofs.AscendsLemmas.{ascends_insert, insert_later, lookup_later, not_empty}
use Rattle.tab_model.specs.Tables.{Rows, key, at}
use Rattle.tab_model.specs.WholeTables.{element}
use Rattle.tab_index.specs.IndexOf.{Entry, keys_in, has_pair, has_value, is_pair, IsIndexOf, IsWith}
use Rattle.tab_index.specs.Pairs.{Pair, pair_of, value_cmp, are_paired, HasPairs, EndsWith, EndsUpTo, IsNext}
use Rattle.tab_index.proofs.IndexOfLemmas.{one_term, keys_ascend_insert, with_new, with_old}

pub value_total : IsTotalOrder value_cmp
value_total = on_total (λ (q : Pair). canon q.0) nat_list_cmp_total

same_sym : (a b : PlainTerm) → same a b ≡ same b a
same_sym = IsEquivalence.symm same_equiv

-- ---- pairs and records

or_comm : (a b : Bool) → (a || b) ≡ (b || a)
or_comm true true = refl
or_comm true false = refl
or_comm false true = refl
or_comm false false = refl

any_of_rows : (p : ℕ) (rows : Rows) (x k : PlainTerm) → are_paired (map (pair_of p) rows) x k ≡ list_any (has_value p x) (at rows k)
any_of_rows p [] x k = refl
any_of_rows p (r ∷ rows) x k =
    ap₂ (λ a b. (a && b) || are_paired (map (pair_of p) rows) x k) (same_sym x (element p r)) (same_sym k (key r))
    ∙ ap (λ b. (same (element p r) x && same (key r) k) || b) (any_of_rows p rows x k) ∙ cases (same (key r) k)
  where
    with_it : (a : Bool) → ((a && true) || list_any (has_value p x) (at rows k)) ≡ (a || list_any (has_value p x) (at rows k))
    with_it true = refl
    with_it false = refl

    without : (a : Bool) → ((a && false) || list_any (has_value p x) (at rows k)) ≡ list_any (has_value p x) (at rows k)
    without true = refl
    without false = refl

    cases : (b : Bool) → ((same (element p r) x && b) || list_any (has_value p x) (at rows k)) ≡ list_any (has_value p x) (if b then r ∷ at rows k else at rows k)
    cases true = with_it (same (element p r) x)
    cases false = without (same (element p r) x)

-- entries that have the pairs of records, in any order, are an index of those
pub index_of_pairs : (p : ℕ) (rows : Rows) (qs rs : List Pair) (es : List Entry) → qs ≡ map (pair_of p) rows → IsPermutation qs rs → HasPairs rs es → IsIndexOf rows p es
index_of_pairs p rows qs rs es are moved has = record {
  pairs = λ v k. has.pairs v k ∙ sym (list_any-IsPermutation (λ q. same (term v) q.0 && same (term k) q.1) qs rs moved)
      ∙ ap (λ z. are_paired z (term v) (term k)) are ∙ any_of_rows p rows (term v) (term k);
  filled = has.filled;
}

pub pairs_more : (p : ℕ) (old was new : List Pair) (before : Rows) (r : PlainTerm) (q : Pair) → was ≡ old ++ map (pair_of p) before → q ≡ pair_of p r → new ≡ was ++ q ∷ [] → new ≡ old ++ map (pair_of p) (before ++ r ∷ [])
pairs_more p old was new before r q done is pushed =
    pushed ∙ ap₂ (λ z y. z ++ y ∷ []) done is ∙ append_assoc old (map (pair_of p) before) (pair_of p r ∷ []) ∙ ap (λ z. old ++ z) (sym (map_push (pair_of p) before r))

-- ---- a pair more

pub no_pairs : (qs : List Pair) → HasPairs (take 0 qs) []
no_pairs qs = record {
  pairs = λ v k. refl;
  filled = λ v e. cc;
}

pub one_more_pair : (qs : List Pair) (i : ℕ) (q : Pair) (es fs : List Entry) → i < length qs → q ≡ get_or qs i q → HasPairs (take i qs) es → IsWith es fs q.0 q.1 → HasPairs (take (i + 1) qs) fs
one_more_pair qs i q es fs within is has w = record {
  pairs = λ v k. w.pairs v k ∙ ap (λ b. is_pair q.0 q.1 v k || b) (has.pairs v k) ∙ or_comm (is_pair q.0 q.1 v k) (are_paired (take i qs) (term v) (term k))
      ∙ ap (λ r. are_paired (take i qs) (term v) (term k) || is_pair r.0 r.1 v k) is
      ∙ sym (list_any_more (λ r. same (term v) r.0 && same (term k) r.1) qs i q within);
  filled = w.filled has.filled;
}

-- ---- the last entry

never : (o : Ordering) → o ≡ Greater → o ≡ Less → ⊥
never o g l = cc

not_below : (o : Ordering) → o ≡ Equal → o ≡ Less → ⊥
not_below o e l = cc

ends_at : (before : List Entry) (v : Term) (ks : List Term) → KeysAscend term_cmp ks → EndsWith (before ++ (v, ks) ∷ []) (λ y. y ≡ term v)
ends_at before v ks t front e is =
    let last = (same_from_push before front (v, ks) e is).1 in
    (ap (λ z. term z.0) (sym last), subst (λ z. KeysAscend term_cmp z.1) last t)

-- it has one key more
pub last_grows : (before : List Entry) (v : Term) (ks : List Term) (k : Term) → Ascends term_cmp (before ++ (v, ks) ∷ []) → KeysAscend term_cmp ks
    → IsNext (before ++ (v, ks) ∷ []) (before ++ (v, insert_key term_cmp k ks) ∷ []) (term v, term k)
last_grows before v ks k s t = record {
  with_pair = subst (λ fs. IsWith es fs (term v) (term k)) is (with_new es v k ks s t found);
  ascends = subst (Ascends term_cmp) is (ascends_insert term_total (v, more) es s);
  last = ends_at before v more (keys_ascend_insert k ks t);
}
  where
    es : List Entry
    es = before ++ (v, ks) ∷ []

    more : List Term
    more = insert_key term_cmp k ks

    tied : term_cmp v v ≡ Equal
    tied = tied_itself term_total v

    is : insert_entry term_cmp (v, insert_key term_cmp k ks) (before ++ (v, ks) ∷ []) ≡ before ++ (v, insert_key term_cmp k ks) ∷ []
    is = insert_later term_total (v, insert_key term_cmp k ks) (v, ks) before [] s (not_below (term_cmp v v) tied)
        ∙ ap (λ o. before ++ match_ordering o ((v, insert_key term_cmp k ks) ∷ (v, ks) ∷ []) ((v, insert_key term_cmp k ks) ∷ []) ((v, ks) ∷ (v, insert_key term_cmp k ks) ∷ [])) tied

    found : ks ≡ keys_in (lookup term_cmp v (before ++ (v, ks) ∷ []))
    found = sym (ap keys_in (lookup_later term_total v (v, ks) before [] s (not_below (term_cmp v v) tied) ∙ ap (λ o. match_ordering o None (Some ks) None) tied))

-- a value that is not below the last one, and isn't it, is above it
after_last : (o : Ordering) → is_lt o ≡ false → is_eq o ≡ false → o ≡ Greater
after_last Less h e = absurd (false≢true (sym h))
after_last Equal h e = absurd (false≢true (sym e))
after_last Greater h e = refl

-- a value's first key, after entries of other values
first_key : (es : List Entry) (v : Term) (k : Term) → Ascends term_cmp es → insert_entry term_cmp (v, k ∷ []) es ≡ es ++ (v, k ∷ []) ∷ [] → lookup term_cmp v es ≡ None → IsNext es (es ++ (v, k ∷ []) ∷ []) (term v, term k)
first_key es v k s is none = record {
  with_pair = subst (λ fs. IsWith es fs (term v) (term k)) is (with_new es v k [] s tt (sym (ap keys_in none)));
  ascends = subst (Ascends term_cmp) is (ascends_insert term_total (v, k ∷ []) es s);
  last = ends_at es v (k ∷ []) (tt, tt);
}

pub first_entry : (v k : Term) → IsNext [] ((v, k ∷ []) ∷ []) (term v, term k)
first_entry v k = first_key [] v k tt refl refl

above_last : (before : List Entry) (e : Entry) (v : Term) → EndsUpTo (before ++ e ∷ []) (term v) → same (term e.0) (term v) ≡ false → term_cmp v e.0 ≡ Greater
above_last before e v up other = after_last (term_cmp v e.0) (up.last before e refl).0 (sym (matches_same (term v) (term e.0)) ∙ same_sym (term v) (term e.0) ∙ other)

-- no entry has it
not_there : (before : List Entry) (e : Entry) (v : Term) → EndsUpTo (before ++ e ∷ []) (term v) → same (term e.0) (term v) ≡ false → lookup term_cmp v (before ++ e ∷ []) ≡ None
not_there before e v up other =
    let above = above_last before e v up other in
    lookup_later term_total v e before [] up.ascends (never (term_cmp v e.0) above) ∙ ap (λ o. match_ordering o None (Some e.1) None) above

pub entry_after : (before : List Entry) (e : Entry) (v k : Term) → EndsUpTo (before ++ e ∷ []) (term v) → same (term e.0) (term v) ≡ false
    → IsNext (before ++ e ∷ []) ((before ++ e ∷ []) ++ (v, k ∷ []) ∷ []) (term v, term k)
entry_after before e v k up other = first_key (before ++ e ∷ []) v k up.ascends
    (insert_later term_total (v, k ∷ []) e before [] up.ascends (never (term_cmp v e.0) above)
    ∙ ap (λ o. before ++ match_ordering o ((v, k ∷ []) ∷ e ∷ []) ((v, k ∷ []) ∷ []) (e ∷ (v, k ∷ []) ∷ [])) above
    ∙ sym (append_assoc before (e ∷ []) ((v, k ∷ []) ∷ [])))
    (not_there before e v up other)
  where
    above : term_cmp v e.0 ≡ Greater
    above = above_last before e v up other

-- ---- the last of a list

module _ {X : Type 0} where
  -- what comes before it, whatever is written at its place
  last_split : (xs : List X) (n : ℕ) (x : X) → n ≡ length xs → 0 < length xs → x ≡ get_or xs (n - 1) x → (before : List X) × (xs ≡ before ++ x ∷ []) × ((y : X) → set xs (n - 1) y ≡ before ++ y ∷ [])
  last_split xs n x long some is = (take (n - 1) xs, sym (ap (set xs (n - 1)) is ∙ set-get_or xs (n - 1) x) ∙ written x, written)
    where
      written : (y : X) → set xs (n - 1) y ≡ take (n - 1) xs ++ y ∷ []
      written y = set_split xs (n - 1) y (omega arith) ∙ ap (λ z. take (n - 1) xs ++ y ∷ z) (drop_all (suc (n - 1)) xs (omega arith))

pub key_added : (es : List Entry) (n : ℕ) (e : Entry) (q : Pair) (value k : Term) (ks : List Term) → n ≡ length es → 0 < length es → e ≡ get_or es (n - 1) e → EndsUpTo es q.0
    → same (term e.0) (term value) ≡ true → (term value, term k) ≡ q → ks ≡ insert_key term_cmp k e.1 → IsNext es (set es (n - 1) (e.0, ks)) q
key_added es n e q value k ks long some is up one are more =
    let split = last_split es n e long some is in
    let ends = up.last split.0 e split.1 in
    let grown = last_grows split.0 e.0 e.1 k (subst (Ascends term_cmp) split.1 up.ascends) ends.1 in
    subst (IsNext es (set es (n - 1) (e.0, ks))) (ap (λ z. (term z, term k)) (one_term e.0 value one) ∙ are)
    (subst (λ fs. IsNext es fs (term e.0, term k)) (ap (λ z. split.0 ++ (e.0, z) ∷ []) (sym more) ∙ sym (split.2 (e.0, ks)))
    (subst (λ old. IsNext old (split.0 ++ (e.0, insert_key term_cmp k e.1) ∷ []) (term e.0, term k)) (sym split.1) grown))

pub entry_added : (es : List Entry) (n : ℕ) (e : Entry) (q : Pair) (value k : Term) (fs : List Entry) → n ≡ length es → 0 < length es → e ≡ get_or es (n - 1) e → EndsUpTo es q.0
    → same (term e.0) (term value) ≡ false → (term value, term k) ≡ q → fs ≡ set es (n - 1) e ++ (value, k ∷ []) ∷ [] → IsNext es fs q
entry_added es n e q value k fs long some is up other are made =
    let split = last_split es n e long some is in
    let up' = subst (EndsUpTo es) (ap (λ z. z.0) (sym are)) up in
    let after = entry_after split.0 e value k (subst (λ z. EndsUpTo z (term value)) split.1 up') other in
    subst (IsNext es fs) are
    (subst (λ z. IsNext es z (term value, term k)) (ap (λ z. z ++ (value, k ∷ []) ∷ []) (sym (split.2 e)) ∙ sym made)
    (subst (λ old. IsNext old ((split.0 ++ e ∷ []) ++ (value, k ∷ []) ∷ []) (term value, term k)) (sym split.1) after))

pub first_added : (es : List Entry) (q : Pair) (value k : Term) (fs : List Entry) → es ≡ [] → (term value, term k) ≡ q → fs ≡ es ++ (value, k ∷ []) ∷ [] → IsNext es fs q
first_added es q value k fs none are made =
    subst (IsNext es fs) are
    (subst (λ z. IsNext es z (term value, term k)) (ap (λ z. z ++ (value, k ∷ []) ∷ []) (sym none) ∙ sym made)
    (subst (λ old. IsNext old ((value, k ∷ []) ∷ []) (term value, term k)) (sym none) (first_entry value k)))

-- ---- a pair that is there, or isn't

-- what the last entry has
pub last_has : (es : List Entry) (n : ℕ) (e : Entry) (x : PlainTerm) (value k : Term) → n ≡ length es → 0 < length es → e ≡ get_or es (n - 1) e → EndsUpTo es x
    → same (term e.0) (term value) ≡ true → has_pair es value k ≡ contains_key term_cmp k e.1
last_has es n e x value k long some is up one =
    let split = last_split es n e long some is in
    ap₂ (λ z v. has_pair z v k) split.1 (sym (one_term e.0 value one))
    ∙ ap (λ o. contains_key term_cmp k (keys_in o))
    (lookup_later term_total e.0 e split.0 [] (subst (Ascends term_cmp) split.1 up.ascends) (not_below (term_cmp e.0 e.0) (tied_itself term_total e.0)) ∙ ap (λ o. match_ordering o None (Some e.1) None) (tied_itself term_total e.0))

pub others_have : (es : List Entry) (n : ℕ) (e : Entry) (x : PlainTerm) (value k : Term) → n ≡ length es → 0 < length es → e ≡ get_or es (n - 1) e → EndsUpTo es x → x ≡ term value
    → same (term e.0) (term value) ≡ false → has_pair es value k ≡ false
others_have es n e x value k long some is up are other =
    let split = last_split es n e long some is in
    ap (λ z. has_pair z value k) split.1
    ∙ ap (λ o. contains_key term_cmp k (keys_in o))
    (not_there split.0 e value (subst (λ z. EndsUpTo z (term value)) split.1 (subst (EndsUpTo es) are up)) other)

-- the last entry has the key
pub key_there : (es : List Entry) (n : ℕ) (e : Entry) (q : Pair) (value k : Term) → n ≡ length es → 0 < length es → e ≡ get_or es (n - 1) e → EndsUpTo es q.0
    → same (term e.0) (term value) ≡ true → (term value, term k) ≡ q → has_pair es value k ≡ true → IsNext es (set es (n - 1) e) q
key_there es n e q value k long some is up one are there =
    let split = last_split es n e long some is in
    subst (λ fs. IsNext es fs q) (sym (ap (set es (n - 1)) is ∙ set-get_or es (n - 1) e)) (record {
      with_pair = subst (λ (z : Pair). IsWith es es z.0 z.1) are (with_old es value k (keys_in (lookup term_cmp value es)) refl there);
      ascends = up.ascends;
      last = subst (λ z. EndsWith z (λ y. y ≡ q.0)) (sym split.1)
          (subst (λ x. EndsWith (split.0 ++ e ∷ []) (λ y. y ≡ x)) (ap term (one_term e.0 value one) ∙ ap (λ z. z.0) are) (ends_at split.0 e.0 e.1 (up.last split.0 e split.1).1));
    })

-- ---- along the pairs

-- the last entry has the value of the pair before the i-th
abbrev pub EndsBefore : List Pair → ℕ → List Entry → Type 0
EndsBefore qs i es = (d : Pair) → EndsWith es (λ y. (0 < i) × (y ≡ (get_or qs (i - 1) d).0))

pub ends_nowhere : (qs : List Pair) (i : ℕ) → EndsBefore qs i []
ends_nowhere qs i d before e is = absurd (not_empty before e [] (sym is))

pub ends_up_to : (qs : List Pair) (i : ℕ) (q : Pair) (es : List Entry) → IsSortedBy (λ a b. is_lt (value_cmp a b)) qs → i < length qs → q ≡ get_or qs i q → Ascends term_cmp es → EndsBefore qs i es → EndsUpTo es q.0
ends_up_to qs i q es sorted within is s ends = record {
  ascends = s;
  last = λ before e h.
      let last = ends q before e h in
      let there : (i - 1) + 1 ≡ i = omega (arith, last.0.0) in
      (ap₂ (λ x y. is_lt (bytes_cmp (canon x) (canon y))) (ap (λ z. z.0) (is ∙ ap (λ n. get_or qs n q) (sym there))) last.0.1 ∙ sorted (i - 1) q (omega arith) (omega (arith, there, within)), last.1);
}

pub ends_past : (qs : List Pair) (i : ℕ) (q : Pair) (es : List Entry) → i < length qs → q ≡ get_or qs i q → EndsWith es (λ y. y ≡ q.0) → EndsBefore qs (i + 1) es
ends_past qs i q es within is ends d before e h =
    let last = ends before e h in
    ((omega arith, last.0 ∙ ap (λ z. z.0) (is ∙ get_or_default qs i q d within ∙ ap (λ n. get_or qs n d) (sym (add-sub_cancel i 1)))), last.1)
