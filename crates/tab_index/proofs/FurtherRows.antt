-- What the counts of further records are of, after a change of the records; and that no two records become equal.
use Rattle.std.proofs.Common.{◌≡◌, ◌<◌, ◌≤◌, ℕ, ◌+◌, ◌-◌, List, [], ◌∷◌, ◌++◌, Bool, true, false, not, ◌&&◌, refl, sym, ap, ap₂, ◌∙◌, subst, map, arith}
use Rattle.std.specs.Prelude.{if◌then◌else◌}
use Rattle.std.specs.Cmp.{IsEquivalence}
use Rattle.std.specs.List.{list_any, count_by}
use Rattle.tab_term.specs.declared.term.Term.{Term}
use Rattle.tab_term.specs.Data.{PlainTerm}
use Rattle.tab_term.specs.Same.{same, same_equiv}
use Rattle.tab_term.specs.View.{term}
use Rattle.tab_model.specs.Tables.{Rows, key, at, put, put_bag, delete, delete_object, apply, rows_after, is_ordered}
use Rattle.tab_model.specs.WholeTables.{element}
use Rattle.tab_model.specs.declared.data.Kind.{Kind}
use Rattle.tab_model.specs.declared.data.Kind.TheVariants.{Set, Bag}
use Rattle.tab_model.specs.declared.data.Change.{Change}
use Rattle.tab_model.specs.declared.data.Change.TheVariants as change
use Rattle.tab_model.specs.declared.data.TableDef.{TableDef}
use Rattle.tab_model.proofs.TableLaws.{same_true, same_refl, at-del, at-put-set, at-put-bag}
use Rattle.tab_model.proofs.ChangeLaws.{any_at, change_at_key, ordered-apply}
use Rattle.tab_index.specs.IndexOf.{has_value}
use Rattle.tab_index.specs.FurtherOf.{KeyCounts, further_of, how_many, IsRaised, IsLowered, IsForgotten, IsFurtherOf, AreApart}
use Rattle.tab_index.specs.Indexed.{IsBare}
use Rattle.tab_index.proofs.CountLemmas.{bit, count-cons, count-append, count-map, count_of_filter, count_without, none_counted, some_counted, counted_some, counted_none, none_go}
use Rattle.tab_index.proofs.RowsLemmas.{any_has}

same_sym : (a b : PlainTerm) → same a b ≡ same b a
same_sym = IsEquivalence.symm same_equiv

-- ---- a record more

-- the records have one more with a value and a key
abbrev HasOneMore : ℕ → Rows → Rows → PlainTerm → Type 0
HasOneMore p rows new r = (x k : PlainTerm) → how_many p x (at new k) ≡ how_many p x (at rows k) + bit (same x (element p r) && same k (key r))

at_last : (p : ℕ) (rows : Rows) (r x k : PlainTerm) → how_many p x (at rows k ++ (if same (key r) k then r ∷ [] else [])) ≡ how_many p x (at rows k) + bit (same (element p r) x && same (key r) k)
at_last p rows r x k = count-append (has_value p x) (at rows k) (if same (key r) k then r ∷ [] else []) ∙ ap (λ n. how_many p x (at rows k) + n) (cases (same (element p r) x) (same (key r) k) (count-cons (has_value p x) r []))
  where
    cases : (a b : Bool) → how_many p x (r ∷ []) ≡ bit a + how_many p x [] → how_many p x (if b then r ∷ [] else []) ≡ bit (a && b)
    cases true true e = e
    cases false true e = e
    cases true false e = refl
    cases false false e = refl

put_new : (p : ℕ) (rows : Rows) (r : PlainTerm) → is_ordered rows ≡ true → list_any (same r) rows ≡ false → HasOneMore p rows (put Bag rows r) r
put_new p rows r o absent x k =
    ap (how_many p x) (at-put-bag rows r k o ∙ ap (λ b. if b then at rows k else at rows k ++ (if same (key r) k then r ∷ [] else [])) absent) ∙ at_last p rows r x k
    ∙ ap₂ (λ a b. how_many p x (at rows k) + bit (a && b)) (same_sym (element p r) x) (same_sym (key r) k)

-- a record that is there has its value
pub absent_value : (p : ℕ) (rows : Rows) (r : PlainTerm) → any_has p (element p r) (at rows (key r)) ≡ false → list_any (same r) rows ≡ false
absent_value p rows r none = any_at r rows ∙ counted_none (same r) (at rows (key r)) (fewer (none_counted (has_value p (element p r)) (at rows (key r)) none) (count_le (at rows (key r))))
  where
    fewer : how_many p (element p r) (at rows (key r)) ≡ 0 → count_by (same r) (at rows (key r)) ≤ how_many p (element p r) (at rows (key r)) → count_by (same r) (at rows (key r)) ≡ 0
    fewer e l = omega (arith, e, l)

    count_le : (xs : Rows) → count_by (same r) xs ≤ how_many p (element p r) xs
    count_le [] = omega arith
    count_le (x ∷ xs) = cases (same r x) refl (same (element p x) (element p r)) refl (count_le xs) (count-cons (same r) x xs) (count-cons (has_value p (element p r)) x xs)
      where
        cases : (b : Bool) → same r x ≡ b → (c : Bool) → same (element p x) (element p r) ≡ c → count_by (same r) xs ≤ how_many p (element p r) xs → count_by (same r) (x ∷ xs) ≡ bit b + count_by (same r) xs
            → how_many p (element p r) (x ∷ xs) ≡ bit c + how_many p (element p r) xs → count_by (same r) (x ∷ xs) ≤ how_many p (element p r) (x ∷ xs)
        cases true a true h ih e f = omega (arith, ih, e, f)
        cases true a false h ih e f =
            let two : true ≡ false = sym (same_refl (element p r)) ∙ ap (λ y. same (element p y) (element p r)) (same_true r x a) ∙ h in
            cc
        cases false a c h ih e f = omega (arith, ih, e, f)

-- the first of a key with its value
pub first_appended : (p : ℕ) (rows : Rows) (r : PlainTerm) (ms : List KeyCounts) → is_ordered rows ≡ true → any_has p (element p r) (at rows (key r)) ≡ false → IsFurtherOf rows p ms → IsFurtherOf (put Bag rows r) p ms
first_appended p rows r ms o none i = record {
  counts = λ v k. cases v k (same (term v) (element p r)) refl (same (term k) (key r)) refl (i.counts v k) (put_new p rows r o (absent_value p rows r none) (term v) (term k));
  filled = i.filled;
}
  where
    cases : (v k : Term) (b : Bool) → same (term v) (element p r) ≡ b → (c : Bool) → same (term k) (key r) ≡ c → further_of ms v k ≡ how_many p (term v) (at rows (term k)) - 1
        → how_many p (term v) (at (put Bag rows r) (term k)) ≡ how_many p (term v) (at rows (term k)) + bit (b && c) → further_of ms v k ≡ how_many p (term v) (at (put Bag rows r) (term k)) - 1
    cases v k true e true f was more =
        let no = none_counted (has_value p (term v)) (at rows (term k)) (ap₂ (λ x j. any_has p x (at rows j)) (same_true (term v) (element p r) e) (same_true (term k) (key r) f) ∙ none) in
        omega (arith, was, more, no)
    cases v k true e false f was more = omega (arith, was, more)
    cases v k false e c f was more = omega (arith, was, more)

-- one more of a key with its value
pub other_appended : (p : ℕ) (rows : Rows) (r : PlainTerm) (ms ns : List KeyCounts) → is_ordered rows ≡ true → list_any (same r) rows ≡ false → any_has p (element p r) (at rows (key r)) ≡ true → IsFurtherOf rows p ms
    → IsRaised ms ns (element p r) (key r) → IsFurtherOf (put Bag rows r) p ns
other_appended p rows r ms ns o absent some i w = record {
  counts = λ v k. w.counts v k ∙ cases v k (same (term v) (element p r)) refl (same (term k) (key r)) refl (i.counts v k) (put_new p rows r o absent (term v) (term k));
  filled = w.filled i.filled;
}
  where
    cases : (v k : Term) (b : Bool) → same (term v) (element p r) ≡ b → (c : Bool) → same (term k) (key r) ≡ c → further_of ms v k ≡ how_many p (term v) (at rows (term k)) - 1
        → how_many p (term v) (at (put Bag rows r) (term k)) ≡ how_many p (term v) (at rows (term k)) + bit (b && c) → (if b && c then further_of ms v k + 1 else further_of ms v k) ≡ how_many p (term v) (at (put Bag rows r) (term k)) - 1
    cases v k true e true f was more =
        let there = some_counted (has_value p (term v)) (at rows (term k)) (ap₂ (λ x j. any_has p x (at rows j)) (same_true (term v) (element p r) e) (same_true (term k) (key r) f) ∙ some) in
        omega (arith, was, more, there)
    cases v k true e false f was more = omega (arith, was, more)
    cases v k false e c f was more = omega (arith, was, more)

-- a record that is there
pub put_again : (rows : Rows) (r : PlainTerm) → list_any (same r) rows ≡ true → rows ≡ put Bag rows r
put_again rows r there = sym (ap (put_bag rows r) there)

-- a set's record, after the others of its key are gone
pub put_alone : (p : ℕ) (rows : Rows) (r : PlainTerm) (ms : List KeyCounts) → is_ordered rows ≡ true → IsFurtherOf (delete rows (key r)) p ms → IsFurtherOf (put Set rows r) p ms
put_alone p rows r ms o i = record {
  counts = λ v k. i.counts v k ∙ ap (λ xs. how_many p (term v) xs - 1) (at-del rows (key r) (term k)) ∙ cases (term v) (term k) (same (key r) (term k))
      ∙ ap (λ xs. how_many p (term v) xs - 1) (sym (at-put-set rows r (term k) o));
  filled = i.filled;
}
  where
    cases : (x k : PlainTerm) (b : Bool) → how_many p x (if b then [] else at rows k) - 1 ≡ how_many p x (if b then r ∷ [] else at rows k) - 1
    cases x k true = flat (same (element p r) x) (count-cons (has_value p x) r [])
      where
        flat : (c : Bool) → how_many p x (r ∷ []) ≡ bit c + 0 → 0 ≡ how_many p x (r ∷ []) - 1
        flat true e = omega (arith, e)
        flat false e = omega (arith, e)
    cases x k false = refl

-- a set's record that has the value of the one before it
pub put_same : (p : ℕ) (rows : Rows) (r : PlainTerm) (ms : List KeyCounts) → is_ordered rows ≡ true → map (element p) (at rows (key r)) ≡ element p r ∷ [] → IsFurtherOf rows p ms → IsFurtherOf (put Set rows r) p ms
put_same p rows r ms o only i = record {
  counts = λ v k. i.counts v k ∙ ap (λ n. n - 1) (cases (term v) (term k) (same (key r) (term k)) refl ∙ ap (how_many p (term v)) (sym (at-put-set rows r (term k) o)));
  filled = i.filled;
}
  where
    cases : (x k : PlainTerm) (b : Bool) → same (key r) k ≡ b → how_many p x (at rows k) ≡ how_many p x (if b then r ∷ [] else at rows k)
    cases x k true e = ap (λ j. how_many p x (at rows j)) (sym (same_true (key r) k e)) ∙ sym (count-map (λ z. same z x) (element p) (at rows (key r))) ∙ ap (count_by (λ z. same z x)) only
    cases x k false e = refl

-- ---- records less

pub key_gone : (p : ℕ) (rows : Rows) (k : Term) (ms ns : List KeyCounts) → IsFurtherOf rows p ms → IsForgotten ms ns (term k) → IsFurtherOf (delete rows (term k)) p ns
key_gone p rows k ms ns i w = record {
  counts = λ v j. w.counts v j ∙ ap (λ b. if b then 0 else further_of ms v j) (same_sym (term j) (term k)) ∙ cases v j (same (term k) (term j)) (i.counts v j)
      ∙ ap (λ xs. how_many p (term v) xs - 1) (sym (at-del rows (term k) (term j)));
  filled = w.filled i.filled;
}
  where
    cases : (v j : Term) (b : Bool) → further_of ms v j ≡ how_many p (term v) (at rows (term j)) - 1 → (if b then 0 else further_of ms v j) ≡ how_many p (term v) (if b then [] else at rows (term j)) - 1
    cases v j true e = refl
    cases v j false e = e

-- a record that isn't there
pub none_deleted : (rows : Rows) (r : PlainTerm) → list_any (same r) (at rows (key r)) ≡ false → rows ≡ delete_object rows r
none_deleted rows r absent = sym (none_go (same r) rows (any_at r rows ∙ absent))

-- one record less with its value
left_with : (p : ℕ) (r x : PlainTerm) (xs : Rows) → count_by (same r) xs ≤ 1 → list_any (same r) xs ≡ true → how_many p x (delete_object xs r) + bit (same (element p r) x) ≡ how_many p x xs
left_with p r x xs once there = cases (same (element p r) x) (count_without (same r) (has_value p x) (same (element p r) x) xs (λ y e. ap (λ z. same (element p z) x) (sym (same_true r y e))))
  where
    cases : (b : Bool) → how_many p x (delete_object xs r) + (if b then count_by (same r) xs else 0) ≡ how_many p x xs → how_many p x (delete_object xs r) + bit b ≡ how_many p x xs
    cases true e = let some = some_counted (same r) xs there in omega (arith, once, some, e)
    cases false e = e

at_deleted : (p : ℕ) (rows : Rows) (r : Term) (x k : PlainTerm) → is_ordered rows ≡ true → AreApart rows → list_any (same (term r)) (at rows (key (term r))) ≡ true
    → how_many p x (at (delete_object rows (term r)) k) + bit (same (element p (term r)) x && same (key (term r)) k) ≡ how_many p x (at rows k)
at_deleted p rows r x k o a there = ap (λ xs. how_many p x xs + bit (same (element p (term r)) x && same (key (term r)) k)) (change_at_key Bag rows (change.DeleteObject r) k o) ∙ cases (same (key (term r)) k) refl (same (element p (term r)) x) (left_with p (term r) x (at rows k) (a.apart (term r) k))
  where
    cases : (b : Bool) → same (key (term r)) k ≡ b → (c : Bool) → (list_any (same (term r)) (at rows k) ≡ true → how_many p x (delete_object (at rows k) (term r)) + bit c ≡ how_many p x (at rows k))
        → how_many p x (if b then delete_object (at rows k) (term r) else at rows k) + bit (c && b) ≡ how_many p x (at rows k)
    cases true e true h = h (ap (λ j. list_any (same (term r)) (at rows j)) (sym (same_true (key (term r)) k e)) ∙ there)
    cases true e false h = h (ap (λ j. list_any (same (term r)) (at rows j)) (sym (same_true (key (term r)) k e)) ∙ there)
    cases false e true h = omega arith
    cases false e false h = omega arith

pub object_gone_from : (p : ℕ) (rows : Rows) (r : Term) (ms ns : List KeyCounts) → is_ordered rows ≡ true → AreApart rows → list_any (same (term r)) (at rows (key (term r))) ≡ true → IsFurtherOf rows p ms
    → IsLowered ms ns (element p (term r)) (key (term r)) → IsFurtherOf (delete_object rows (term r)) p ns
object_gone_from p rows r ms ns o a there i w = record {
  counts = λ v k. w.counts v k ∙ ap₂ (λ b c. if b && c then further_of ms v k - 1 else further_of ms v k) (same_sym (term v) (element p (term r))) (same_sym (term k) (key (term r)))
      ∙ cases v k (same (element p (term r)) (term v) && same (key (term r)) (term k)) (i.counts v k) (at_deleted p rows r (term v) (term k) o a there);
  filled = w.filled i.filled;
}
  where
    cases : (v k : Term) (b : Bool) → further_of ms v k ≡ how_many p (term v) (at rows (term k)) - 1 → how_many p (term v) (at (delete_object rows (term r)) (term k)) + bit b ≡ how_many p (term v) (at rows (term k))
        → (if b then further_of ms v k - 1 else further_of ms v k) ≡ how_many p (term v) (at (delete_object rows (term r)) (term k)) - 1
    cases v k true was less = omega (arith, was, less)
    cases v k false was less = omega (arith, was, less)

-- the further records with its value are those that are left
left_further : (p : ℕ) (rows : Rows) (r v k : Term) (ms : List KeyCounts) → term v ≡ element p (term r) → term k ≡ key (term r) → AreApart rows → list_any (same (term r)) (at rows (key (term r))) ≡ true → IsFurtherOf rows p ms
    → further_of ms v k ≡ how_many p (element p (term r)) (delete_object (at rows (key (term r))) (term r))
left_further p rows r v k ms value its a there i =
    let was = i.counts v k ∙ ap₂ (λ x j. how_many p x (at rows j) - 1) value its in
    let less = left_with p (term r) (element p (term r)) (at rows (key (term r))) (a.apart (term r) (key (term r))) there in
    let less' = ap (λ b. how_many p (element p (term r)) (delete_object (at rows (key (term r))) (term r)) + bit b) (sym (same_refl (element p (term r)))) ∙ less in
    was ∙ one_less (how_many p (element p (term r)) (delete_object (at rows (key (term r))) (term r))) (how_many p (element p (term r)) (at rows (key (term r)))) less'
  where
    one_less : (m n : ℕ) → m + 1 ≡ n → n - 1 ≡ m
    one_less m n e = omega (arith, e)

pub another_left : (p : ℕ) (rows : Rows) (r v k : Term) (ms : List KeyCounts) → term v ≡ element p (term r) → term k ≡ key (term r) → AreApart rows → list_any (same (term r)) (at rows (key (term r))) ≡ true → IsFurtherOf rows p ms
    → 0 < further_of ms v k → any_has p (element p (term r)) (delete_object (at rows (key (term r))) (term r)) ≡ true
another_left p rows r v k ms value its a there i some = counted_some (has_value p (element p (term r))) (delete_object (at rows (key (term r))) (term r)) (subst (λ n. 0 < n) (left_further p rows r v k ms value its a there i) some)

pub none_left_with : (p : ℕ) (rows : Rows) (r v k : Term) (ms : List KeyCounts) → term v ≡ element p (term r) → term k ≡ key (term r) → AreApart rows → list_any (same (term r)) (at rows (key (term r))) ≡ true → IsFurtherOf rows p ms
    → further_of ms v k ≡ 0 → any_has p (element p (term r)) (delete_object (at rows (key (term r))) (term r)) ≡ false
none_left_with p rows r v k ms value its a there i none = counted_none (has_value p (element p (term r))) (delete_object (at rows (key (term r))) (term r)) (sym (left_further p rows r v k ms value its a there i) ∙ none)

-- ---- no two are equal

pub none_apart : (rows : Rows) → rows ≡ [] → AreApart rows
none_apart rows none = record { apart = λ r k. subst (λ xs. count_by (same r) (at xs k) ≤ 1) (sym none) (omega arith) }

apart_one : (r x : PlainTerm) → count_by (same x) (r ∷ []) ≤ 1
apart_one r x = flat (same x r) (count-cons (same x) r [])
  where
    flat : (b : Bool) → count_by (same x) (r ∷ []) ≡ bit b + 0 → count_by (same x) (r ∷ []) ≤ 1
    flat true e = omega (arith, e)
    flat false e = omega (arith, e)

apart_put : (kind : Kind) (rows : Rows) (r : PlainTerm) → is_ordered rows ≡ true → AreApart rows → AreApart (put kind rows r)
apart_put Set rows r o a = record { apart = λ x k. subst (λ xs. count_by (same x) xs ≤ 1) (sym (at-put-set rows r k o)) (cases x k (same (key r) k)) }
  where
    cases : (x k : PlainTerm) (b : Bool) → count_by (same x) (if b then r ∷ [] else at rows k) ≤ 1
    cases x k true = apart_one r x
    cases x k false = a.apart x k
apart_put Bag rows r o a = record { apart = λ x k. subst (λ xs. count_by (same x) xs ≤ 1) (sym (at-put-bag rows r k o)) (cases x k (list_any (same r) rows) refl) }
  where
    last : (x k : PlainTerm) → list_any (same r) rows ≡ false → (b : Bool) → same (key r) k ≡ b → (c : Bool) → same x r ≡ c → count_by (same x) (r ∷ []) ≡ bit c + 0 → count_by (same x) (at rows k) ≤ 1
        → count_by (same x) (at rows k) + count_by (same x) (if b then r ∷ [] else []) ≤ 1
    last x k absent true e true f one was =
        let none = none_counted (same x) (at rows k) (ap₂ (λ y j. list_any (same y) (at rows j)) (same_true x r f) (sym (same_true (key r) k e)) ∙ sym (any_at r rows) ∙ absent) in
        omega (arith, none, one)
    last x k absent true e false f one was = omega (arith, one, was)
    last x k absent false e c f one was = omega (arith, was)

    cases : (x k : PlainTerm) (b : Bool) → list_any (same r) rows ≡ b → count_by (same x) (if b then at rows k else at rows k ++ (if same (key r) k then r ∷ [] else [])) ≤ 1
    cases x k true e = a.apart x k
    cases x k false e = subst (λ n. n ≤ 1) (sym (count-append (same x) (at rows k) (if same (key r) k then r ∷ [] else []))) (last x k e (same (key r) k) refl (same x r) refl (count-cons (same x) r []) (a.apart x k))

pub apart_apply : (kind : Kind) (rows : Rows) (c : Change) → is_ordered rows ≡ true → AreApart rows → AreApart (apply kind rows c)
apart_apply kind rows (change.Write r) o a = apart_put kind rows (term r) o a
apart_apply kind rows (change.Delete t j) o a = record { apart = λ x k. subst (λ xs. count_by (same x) xs ≤ 1) (sym (at-del rows (term j) k)) (cases x k (same (term j) k)) }
  where
    cases : (x k : PlainTerm) (b : Bool) → count_by (same x) (if b then [] else at rows k) ≤ 1
    cases x k true = omega arith
    cases x k false = a.apart x k
apart_apply kind rows (change.DeleteObject r) o a = record { apart = λ x k. subst (λ xs. count_by (same x) xs ≤ 1) (sym (change_at_key kind rows (change.DeleteObject r) k o)) (cases x k (same (key (term r)) k) (a.apart x k)) }
  where
    cases : (x k : PlainTerm) (b : Bool) → count_by (same x) (at rows k) ≤ 1 → count_by (same x) (if b then delete_object (at rows k) (term r) else at rows k) ≤ 1
    cases x k true was = let less = count_of_filter (same x) (λ y. not (same (term r) y)) (at rows k) in omega (arith, less, was)
    cases x k false was = was

-- ---- several changes

-- what a table keeps without its indexes
pub bare_after : (def : TableDef) (rows new : Kind × Rows) (cs : List Change) → IsBare def rows → new ≡ (rows.0, rows_after rows.0 rows.1 cs) → IsBare def new
bare_after def rows new [] kept made = subst (IsBare def) (sym made) kept
bare_after def rows new (c ∷ cs) kept made = bare_after def (rows.0, apply rows.0 rows.1 c) new cs one made
  where
    one : IsBare def (rows.0, apply rows.0 rows.1 c)
    one = record { kind = kept.kind; ordered = ordered-apply rows.0 rows.1 c kept.ordered; apart = apart_apply rows.0 rows.1 c kept.ordered kept.apart }
