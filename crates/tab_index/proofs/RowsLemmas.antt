-- What an index is of, after a change of the records.
use Rattle.std.proofs.Common.{◌≡◌, ℕ, List, [], ◌∷◌, ◌++◌, Bool, true, false, not, ◌&&◌, ◌||◌, refl, sym, ap, ap₂, ◌∙◌, map}
use Rattle.std.specs.Prelude.{if◌then◌else◌}
use Rattle.std.specs.Cmp.{IsEquivalence}
use Rattle.std.specs.List.{list_any}
use Rattle.std.proofs.lemmas.List.Folds.{list_any-append}
use Rattle.tab_term.specs.declared.term.Term.{Term}
use Rattle.tab_term.specs.Data.{PlainTerm}
use Rattle.tab_term.specs.Same.{same, same_equiv}
use Rattle.tab_term.specs.View.{term}
use Rattle.tab_model.specs.Tables.{Rows, key, at, put, delete, delete_object, is_ordered}
use Rattle.tab_model.specs.WholeTables.{element}
use Rattle.tab_model.specs.declared.data.Kind.TheVariants.{Set, Bag}
use Rattle.tab_model.specs.declared.data.Change.TheVariants as change
use Rattle.tab_model.proofs.TableLaws.{same_true, at-del, at-put-set, at-put-bag}
use Rattle.tab_model.proofs.ChangeLaws.{any_at, change_at_key}
use Rattle.tab_index.specs.IndexOf.{Entry, has_pair, has_value, is_pair, IsFilled, IsIndexOf, IsWith, IsWithout}

same_sym : (a b : PlainTerm) → same a b ≡ same b a
same_sym = IsEquivalence.symm same_equiv

-- whether records have a value
abbrev pub any_has : ℕ → PlainTerm → Rows → Bool
any_has p x rows = list_any (has_value p x) rows

-- ---- a record more

-- the records have one pair more
abbrev HasMore : ℕ → Rows → Rows → PlainTerm → Type 0
HasMore p rows new r = (x k : PlainTerm) → any_has p x (at new k) ≡ ((same x (element p r) && same k (key r)) || any_has p x (at rows k))

grown : (p : ℕ) (rows new : Rows) (r : PlainTerm) (es fs : List Entry) → HasMore p rows new r → IsIndexOf rows p es → IsWith es fs (element p r) (key r) → IsIndexOf new p fs
grown p rows new r es fs more i w = record {
  pairs = λ v k. w.pairs v k ∙ ap (λ b. is_pair (element p r) (key r) v k || b) (i.pairs v k) ∙ sym (more (term v) (term k));
  filled = w.filled i.filled;
}

pub put_to_set : (p : ℕ) (rows : Rows) (r : PlainTerm) (es fs : List Entry) → is_ordered rows ≡ true → IsIndexOf (delete rows (key r)) p es → IsWith es fs (element p r) (key r) → IsIndexOf (put Set rows r) p fs
put_to_set p rows r es fs o = grown p (delete rows (key r)) (put Set rows r) r es fs more
  where
    cases : (x k : PlainTerm) (b : Bool) → any_has p x (if b then r ∷ [] else at rows k) ≡ ((same (element p r) x && b) || any_has p x (if b then [] else at rows k))
    cases x k true = flat (same (element p r) x)
      where
        flat : (a : Bool) → (a || false) ≡ ((a && true) || false)
        flat true = refl
        flat false = refl
    cases x k false = flat (same (element p r) x) (any_has p x (at rows k))
      where
        flat : (a b : Bool) → b ≡ ((a && false) || b)
        flat true b = refl
        flat false b = refl

    more : HasMore p (delete rows (key r)) (put Set rows r) r
    more x k =
        ap (any_has p x) (at-put-set rows r k o) ∙ cases x k (same (key r) k)
        ∙ ap₂ (λ a b. (a && b) || any_has p x (if same (key r) k then [] else at rows k)) (same_sym (element p r) x) (same_sym (key r) k)
        ∙ ap (λ xs. (same x (element p r) && same k (key r)) || any_has p x xs) (sym (at-del rows (key r) k))

-- a test that a stronger one passes
any_weaker : (p q : PlainTerm → Bool) (xs : Rows) → ((x : PlainTerm) → p x ≡ true → q x ≡ true) → list_any p xs ≡ true → list_any q xs ≡ true
any_weaker p q [] w h = h
any_weaker p q (x ∷ xs) w h = cases (any_weaker p q xs w) (p x) refl h
  where
    right : (a b : Bool) → b ≡ true → (a || b) ≡ true
    right true b e = refl
    right false b e = e

    cases : (list_any p xs ≡ true → list_any q xs ≡ true) → (b : Bool) → p x ≡ b → (b || list_any p xs) ≡ true → (q x || list_any q xs) ≡ true
    cases ih true e g = ap (λ b. b || list_any q xs) (w x e)
    cases ih false e g = right (q x) (list_any q xs) (ih g)

-- an equal record has the value
there_already : (p : ℕ) (rows : Rows) (r x k : PlainTerm) → list_any (same r) rows ≡ true → any_has p x (at rows k) ≡ ((same (element p r) x && same (key r) k) || any_has p x (at rows k))
there_already p rows r x k there = cases (same (element p r) x) refl (same (key r) k) refl
  where
    cases : (a : Bool) → same (element p r) x ≡ a → (b : Bool) → same (key r) k ≡ b → any_has p x (at rows k) ≡ ((a && b) || any_has p x (at rows k))
    cases true e true f =
        any_weaker (same r) (has_value p x) (at rows k) (λ y h. ap (λ z. same (element p z) x) (sym (same_true r y h)) ∙ e)
        (ap (λ j. list_any (same r) (at rows j)) (sym (same_true (key r) k f)) ∙ sym (any_at r rows) ∙ there)
    cases true e false f = refl
    cases false e b f = refl

-- one record after the others
at_last : (p : ℕ) (rows : Rows) (r x k : PlainTerm) → any_has p x (at rows k ++ (if same (key r) k then r ∷ [] else [])) ≡ ((same (element p r) x && same (key r) k) || any_has p x (at rows k))
at_last p rows r x k = list_any-append (has_value p x) (at rows k) (if same (key r) k then r ∷ [] else []) ∙ cases (any_has p x (at rows k)) (same (element p r) x) (same (key r) k)
  where
    cases : (c a b : Bool) → (c || any_has p x (if b then r ∷ [] else [])) ≡ ((same (element p r) x && b) || c)
    cases true a true = flat (same (element p r) x)
      where
        flat : (d : Bool) → true ≡ ((d && true) || true)
        flat true = refl
        flat false = refl
    cases false a true = flat (same (element p r) x)
      where
        flat : (d : Bool) → (d || false) ≡ ((d && true) || false)
        flat true = refl
        flat false = refl
    cases true a false = flat (same (element p r) x)
      where
        flat : (d : Bool) → true ≡ ((d && false) || true)
        flat true = refl
        flat false = refl
    cases false a false = flat (same (element p r) x)
      where
        flat : (d : Bool) → false ≡ ((d && false) || false)
        flat true = refl
        flat false = refl

turned : (p : ℕ) (rows : Rows) (r x k : PlainTerm) → ((same (element p r) x && same (key r) k) || any_has p x (at rows k)) ≡ ((same x (element p r) && same k (key r)) || any_has p x (at rows k))
turned p rows r x k = ap₂ (λ a b. (a && b) || any_has p x (at rows k)) (same_sym (element p r) x) (same_sym (key r) k)

pub put_to_bag : (p : ℕ) (rows : Rows) (r : PlainTerm) (es fs : List Entry) → is_ordered rows ≡ true → IsIndexOf rows p es → IsWith es fs (element p r) (key r) → IsIndexOf (put Bag rows r) p fs
put_to_bag p rows r es fs o = grown p rows (put Bag rows r) r es fs (λ x k. ap (any_has p x) (at-put-bag rows r k o) ∙ cases x k (list_any (same r) rows) refl ∙ turned p rows r x k)
  where
    cases : (x k : PlainTerm) (b : Bool) → list_any (same r) rows ≡ b → any_has p x (if b then at rows k else at rows k ++ (if same (key r) k then r ∷ [] else [])) ≡ ((same (element p r) x && same (key r) k) || any_has p x (at rows k))
    cases x k true e = there_already p rows r x k e
    cases x k false e = at_last p rows r x k

-- a set's record that has the value of the one before it
pub put_over : (p : ℕ) (rows : Rows) (r : PlainTerm) (es : List Entry) → is_ordered rows ≡ true → map (element p) (at rows (key r)) ≡ element p r ∷ [] → IsIndexOf rows p es → IsIndexOf (put Set rows r) p es
put_over p rows r es o only i = record {
  pairs = λ v k. i.pairs v k ∙ cases (term v) (term k) (same (key r) (term k)) refl ∙ ap (any_has p (term v)) (sym (at-put-set rows r (term k) o));
  filled = i.filled;
}
  where
    any_map : (x : PlainTerm) (xs : Rows) → any_has p x xs ≡ list_any (λ e. same e x) (map (element p) xs)
    any_map x [] = refl
    any_map x (y ∷ xs) = ap (λ b. same (element p y) x || b) (any_map x xs)

    cases : (x k : PlainTerm) (b : Bool) → same (key r) k ≡ b → any_has p x (at rows k) ≡ any_has p x (if b then r ∷ [] else at rows k)
    cases x k true e = ap (λ j. any_has p x (at rows j)) (sym (same_true (key r) k e)) ∙ any_map x (at rows (key r)) ∙ ap (list_any (λ z. same z x)) only
    cases x k false e = refl

-- ---- records less

-- all pairs of a key are gone
pub all_gone : (p : ℕ) (rows ts : Rows) (k : Term) (es fs : List Entry) → ts ≡ at rows (term k) → IsIndexOf rows p es → IsFilled fs
    → ((v j : Term) → has_pair fs v j ≡ (not (same (term j) (term k) && any_has p (term v) ts) && has_pair es v j)) → IsIndexOf (delete rows (term k)) p fs
all_gone p rows ts k es fs are i f gone = record {
  pairs = λ v j. gone v j ∙ ap₂ (λ xs b. not (same (term j) (term k) && any_has p (term v) xs) && b) are (i.pairs v j)
      ∙ ap (λ b. not (b && any_has p (term v) (at rows (term k))) && any_has p (term v) (at rows (term j))) (same_sym (term j) (term k))
      ∙ cases v j (same (term k) (term j)) refl ∙ ap (any_has p (term v)) (sym (at-del rows (term k) (term j)));
  filled = f;
}
  where
    never : (b : Bool) → (not b && b) ≡ false
    never true = refl
    never false = refl

    cases : (v j : Term) (b : Bool) → same (term k) (term j) ≡ b → (not (b && any_has p (term v) (at rows (term k))) && any_has p (term v) (at rows (term j))) ≡ any_has p (term v) (if b then [] else at rows (term j))
    cases v j true e = ap (λ i. not (any_has p (term v) (at rows i)) && any_has p (term v) (at rows (term j))) (same_true (term k) (term j) e) ∙ never (any_has p (term v) (at rows (term j)))
    cases v j false e = refl

-- the pairs of a key with the values of records are gone
abbrev pub unless : ℕ → Rows → Term → Term → Term → Bool → Bool
unless p ts k v j b = not (same (term j) (term k) && any_has p (term v) ts) && b

-- one record of those is done
pub one_gone : (p : ℕ) (left after : Rows) (x : PlainTerm) (k : Term) (es fs : List Entry) (v j : Term) (b : Bool) → left ≡ x ∷ after → IsWithout es fs (element p x) (term k)
    → unless p left k v j (has_pair es v j) ≡ b → unless p after k v j (has_pair fs v j) ≡ b
one_gone p left after x k es fs v j b is w before =
    ap (unless p after k v j) (w.pairs v j ∙ ap (λ c. not (c && same (term j) (term k)) && has_pair es v j) (same_sym (term v) (element p x)))
    ∙ merge (same (term j) (term k)) (same (element p x) (term v)) (any_has p (term v) after) (has_pair es v j)
    ∙ ap (λ ts. unless p ts k v j (has_pair es v j)) (sym is) ∙ before
  where
    merge : (c e r d : Bool) → (not (c && r) && (not (e && c) && d)) ≡ (not (c && (e || r)) && d)
    merge true true true d = refl
    merge true true false d = refl
    merge true false true d = refl
    merge true false false d = refl
    merge false true r d = refl
    merge false false r d = refl

-- all of those are done
pub none_else : (p : ℕ) (left : Rows) (k : Term) (v j : Term) (b : Bool) → left ≡ [] → b ≡ unless p left k v j b
none_else p left k v j b h = flat (same (term j) (term k)) ∙ ap (λ ts. unless p ts k v j b) (sym h)
  where
    flat : (c : Bool) → b ≡ (not (c && false) && b)
    flat true = refl
    flat false = refl

-- a record that hasn't the value changes nothing
any_other : (p : ℕ) (r x : PlainTerm) (xs : Rows) → same (element p r) x ≡ false → any_has p x (delete_object xs r) ≡ any_has p x xs
any_other p r x [] h = refl
any_other p r x (y ∷ xs) h = cases (any_other p r x xs h) (same r y) refl
  where
    cases : any_has p x (delete_object xs r) ≡ any_has p x xs → (b : Bool) → same r y ≡ b → any_has p x (if not b then y ∷ delete_object xs r else delete_object xs r) ≡ (same (element p y) x || any_has p x xs)
    cases ih true e = ih ∙ ap (λ b. b || any_has p x xs) (sym (ap (λ z. same (element p z) x) (sym (same_true r y e)) ∙ h))
    cases ih false e = ap (λ b. same (element p y) x || b) ih

any_less : (p : ℕ) (r x : PlainTerm) (xs : Rows) → any_has p x (delete_object xs r) ≡ true → any_has p x xs ≡ true
any_less p r x [] h = h
any_less p r x (y ∷ xs) h = cases (any_less p r x xs) (same r y) h
  where
    right : (a b : Bool) → b ≡ true → (a || b) ≡ true
    right true b e = refl
    right false b e = e

    left : (a b c : Bool) → (b ≡ true → c ≡ true) → (a || b) ≡ true → (a || c) ≡ true
    left true b c g e = refl
    left false b c g e = g e

    cases : (any_has p x (delete_object xs r) ≡ true → any_has p x xs ≡ true) → (b : Bool) → any_has p x (if not b then y ∷ delete_object xs r else delete_object xs r) ≡ true → (same (element p y) x || any_has p x xs) ≡ true
    cases ih true g = right (same (element p y) x) (any_has p x xs) (ih g)
    cases ih false g = left (same (element p y) x) (any_has p x (delete_object xs r)) (any_has p x xs) ih g

-- what the records have of one key after one of them is deleted
object_at : (p : ℕ) (rows : Rows) (r : Term) (x k : PlainTerm) → is_ordered rows ≡ true → any_has p x (at (delete_object rows (term r)) k) ≡ any_has p x (if same (key (term r)) k then delete_object (at rows k) (term r) else at rows k)
object_at p rows r x k o = ap (any_has p x) (change_at_key Bag rows (change.DeleteObject r) k o)

-- another record of the key has the value
pub object_shared : (p : ℕ) (rows : Rows) (r : Term) (es : List Entry) → is_ordered rows ≡ true → any_has p (element p (term r)) (delete_object (at rows (key (term r))) (term r)) ≡ true → IsIndexOf rows p es → IsIndexOf (delete_object rows (term r)) p es
object_shared p rows r es o other i = record {
  pairs = λ v k. i.pairs v k ∙ cases (term v) (term k) (same (key (term r)) (term k)) refl (same (element p (term r)) (term v)) refl ∙ sym (object_at p rows r (term v) (term k) o);
  filled = i.filled;
}
  where
    cases : (x k : PlainTerm) (b : Bool) → same (key (term r)) k ≡ b → (c : Bool) → same (element p (term r)) x ≡ c → any_has p x (at rows k) ≡ any_has p x (if b then delete_object (at rows k) (term r) else at rows k)
    cases x k true e true f =
        let still = ap₂ (λ y j. any_has p y (delete_object (at rows j) (term r))) (sym (same_true (element p (term r)) x f)) (sym (same_true (key (term r)) k e)) ∙ other in
        any_less p (term r) x (at rows k) still ∙ sym still
    cases x k true e false f = sym (any_other p (term r) x (at rows k) f)
    cases x k false e c f = refl

-- none has it
pub object_gone : (p : ℕ) (rows : Rows) (r : Term) (es fs : List Entry) → is_ordered rows ≡ true → any_has p (element p (term r)) (delete_object (at rows (key (term r))) (term r)) ≡ false → IsIndexOf rows p es
    → IsWithout es fs (element p (term r)) (key (term r)) → IsIndexOf (delete_object rows (term r)) p fs
object_gone p rows r es fs o other i w = record {
  pairs = λ v k. w.pairs v k ∙ ap (λ b. not (is_pair (element p (term r)) (key (term r)) v k) && b) (i.pairs v k)
      ∙ ap₂ (λ a b. not (a && b) && any_has p (term v) (at rows (term k))) (same_sym (term v) (element p (term r))) (same_sym (term k) (key (term r)))
      ∙ cases (term v) (term k) (same (key (term r)) (term k)) refl (same (element p (term r)) (term v)) refl ∙ sym (object_at p rows r (term v) (term k) o);
  filled = w.filled i.filled;
}
  where
    never : (a b : Bool) → (not (a && false) && b) ≡ b
    never true b = refl
    never false b = refl

    cases : (x k : PlainTerm) (b : Bool) → same (key (term r)) k ≡ b → (c : Bool) → same (element p (term r)) x ≡ c → (not (c && b) && any_has p x (at rows k)) ≡ any_has p x (if b then delete_object (at rows k) (term r) else at rows k)
    cases x k true e true f = sym (ap₂ (λ y j. any_has p y (delete_object (at rows j) (term r))) (sym (same_true (element p (term r)) x f)) (sym (same_true (key (term r)) k e)) ∙ other)
    cases x k true e false f = sym (any_other p (term r) x (at rows k) f)
    cases x k false e c f = never c (any_has p x (at rows k))
