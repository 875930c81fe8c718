-- What a change does at each key, and that tables stay canonical.
use Rattle.std.proofs.Common.{◌≡◌, ℕ, List, [], ◌∷◌, ◌++◌, Bool, true, false, ◌||◌, not, refl, sym, ap, ◌∙◌, append-nil, Option, Some, None}
use Rattle.std.specs.Prelude.{if◌then◌else◌}
use Rattle.std.specs.Str.{bytes_eq}
use Rattle.std.specs.List.{filter, list_any}
use Rattle.std.proofs.lemmas.Bool.{false≢true}
use Rattle.std.proofs.lemmas.Slice.Eq.{bytes_eq-Decides}
use Rattle.tab_term.specs.Data.{PlainTerm}
use Rattle.tab_term.specs.Same.{same}
use Rattle.tab_term.specs.View.{term}
use Rattle.tab_term.specs.declared.term.Term.{Term}
use Rattle.tab_model.specs.Names.{less, before}
use Rattle.tab_model.specs.Tables.{Rows, key, has_key, at, delete, delete_object, insert, put_bag, put, apply, is_ordered}
use Rattle.tab_model.specs.Catalogs.{Catalog, Table, name_of, find, place, without}
use Rattle.tab_model.specs.Operations.{key_of_change}
use Rattle.tab_model.specs.declared.data.Kind.{Kind}
use Rattle.tab_model.specs.declared.data.Kind.TheVariants.{Set, Bag}
use Rattle.tab_model.specs.declared.data.Change.{Change}
use Rattle.tab_model.specs.declared.data.Change.TheVariants as change
use Rattle.tab_model.proofs.Order.{less-irrefl}
use Rattle.tab_model.proofs.TableLaws.{same_true, same_refl, at-del, at-put-set, at-put-bag, ordered-filter, ordered-insert}

pub ordered-apply : (kind : Kind) (rows : Rows) (c : Change) → is_ordered rows ≡ true → is_ordered (apply kind rows c) ≡ true
ordered-apply Set rows (change.Write r) o = ordered-insert (term r) (delete rows (key (term r))) (ordered-filter (λ x. not (has_key (key (term r)) x)) rows o)
ordered-apply Bag rows (change.Write r) o = by_case (list_any (same (term r)) rows)
  where
    by_case : (b : Bool) → is_ordered (put_bag rows (term r) b) ≡ true
    by_case true = o
    by_case false = ordered-insert (term r) rows o
ordered-apply kind rows (change.Delete t k) o = ordered-filter (λ x. not (has_key (term k) x)) rows o
ordered-apply kind rows (change.DeleteObject r) o = ordered-filter (λ x. not (same (term r) x)) rows o

-- whether a record is there is seen at its key
pub any_at : (r : PlainTerm) (rows : Rows) → list_any (same r) rows ≡ list_any (same r) (at rows (key r))
any_at r [] = refl
any_at r (x ∷ rows) = cases (any_at r rows) (has_key (key r) x) refl (same r x) refl
  where
    cases : list_any (same r) rows ≡ list_any (same r) (at rows (key r)) → (a : Bool) → has_key (key r) x ≡ a → (b : Bool) → same r x ≡ b → (b || list_any (same r) rows) ≡ list_any (same r) (if a then x ∷ at rows (key r) else at rows (key r))
    cases ih true e b f = ap (λ z. z || list_any (same r) rows) (sym f) ∙ ap (λ z. same r x || z) ih
    cases ih false e true f = absurd (false≢true (sym e ∙ ap (λ z. same (key z) (key r)) (sym (same_true r x f)) ∙ same_refl (key r)))
    cases ih false e false f = ih

pub none_left : (rows : Rows) (k : PlainTerm) → delete (at rows k) k ≡ []
none_left [] k = refl
none_left (x ∷ rows) k = cases (none_left rows k) (has_key k x) refl
  where
    cases : delete (at rows k) k ≡ [] → (a : Bool) → has_key k x ≡ a → delete (if a then x ∷ at rows k else at rows k) k ≡ []
    cases ih true e = ap (λ b. if not b then x ∷ delete (at rows k) k else delete (at rows k) k) e ∙ ih
    cases ih false e = ih

pub at_end : (rows : Rows) (r : PlainTerm) → insert r (at rows (key r)) ≡ at rows (key r) ++ r ∷ []
at_end [] r = refl
at_end (x ∷ rows) r = cases (at_end rows r) (has_key (key r) x) refl (less (key r) (key x)) refl
  where
    cases : insert r (at rows (key r)) ≡ at rows (key r) ++ r ∷ [] → (a : Bool) → has_key (key r) x ≡ a → (b : Bool) → less (key r) (key x) ≡ b
        → insert r (if a then x ∷ at rows (key r) else at rows (key r)) ≡ (if a then x ∷ at rows (key r) else at rows (key r)) ++ r ∷ []
    cases ih true e true f = absurd (false≢true (less-irrefl (key r) (ap (less (key r)) (sym (same_true (key x) (key r) e)) ∙ f)))
    cases ih true e false f = ap (λ b. if b then r ∷ x ∷ at rows (key r) else x ∷ insert r (at rows (key r))) f ∙ ap (λ xs. x ∷ xs) ih
    cases ih false e b f = ih

filter_swap : (p q : PlainTerm → Bool) (rows : Rows) → filter p (filter q rows) ≡ filter q (filter p rows)
filter_swap p q [] = refl
filter_swap p q (x ∷ rows) = cases (filter_swap p q rows) (p x) refl (q x) refl
  where
    cases : filter p (filter q rows) ≡ filter q (filter p rows) → (a : Bool) → p x ≡ a → (b : Bool) → q x ≡ b → filter p (if b then x ∷ filter q rows else filter q rows) ≡ filter q (if a then x ∷ filter p rows else filter p rows)
    cases ih true e true f = ap (λ z. if z then x ∷ filter p (filter q rows) else filter p (filter q rows)) e ∙ ap (λ xs. x ∷ xs) ih ∙ sym (ap (λ z. if z then x ∷ filter q (filter p rows) else filter q (filter p rows)) f)
    cases ih true e false f = ih ∙ sym (ap (λ z. if z then x ∷ filter q (filter p rows) else filter q (filter p rows)) f)
    cases ih false e true f = ap (λ z. if z then x ∷ filter p (filter q rows) else filter p (filter q rows)) e ∙ ih
    cases ih false e false f = ih

-- a record isn't at another key
not_there : (r k : PlainTerm) (rows : Rows) → same (key r) k ≡ false → delete_object (at rows k) r ≡ at rows k
not_there r k [] h = refl
not_there r k (x ∷ rows) h = cases (not_there r k rows h) (has_key k x) refl (same r x) refl
  where
    cases : delete_object (at rows k) r ≡ at rows k → (a : Bool) → has_key k x ≡ a → (b : Bool) → same r x ≡ b → delete_object (if a then x ∷ at rows k else at rows k) r ≡ (if a then x ∷ at rows k else at rows k)
    cases ih true e true f = absurd (false≢true (sym h ∙ ap (λ z. same (key z) k) (same_true r x f) ∙ e))
    cases ih true e false f = ap (λ z. if not z then x ∷ delete_object (at rows k) r else delete_object (at rows k) r) f ∙ ap (λ xs. x ∷ xs) ih
    cases ih false e b f = ih

-- what stands at a key after a change is that change, made on what stood there
pub at-apply : (kind : Kind) (rows : Rows) (c : Change) (k : PlainTerm) → is_ordered rows ≡ true → at (apply kind rows c) k ≡ (if same (key_of_change c) k then apply kind (at rows k) c else at rows k)
at-apply Set rows (change.Write r) k o = at-put-set rows (term r) k o ∙ by_case (same (key (term r)) k) refl
  where
    by_case : (b : Bool) → same (key (term r)) k ≡ b → (if b then term r ∷ [] else at rows k) ≡ (if b then put Set (at rows k) (term r) else at rows k)
    by_case true e = ap (insert (term r)) (sym (ap (λ j. delete (at rows k) j) (same_true (key (term r)) k e) ∙ none_left rows k))
    by_case false e = refl
at-apply Bag rows (change.Write r) k o = at-put-bag rows (term r) k o ∙ by_case (same (key (term r)) k) refl
  where
    by_case : (b : Bool) → same (key (term r)) k ≡ b → (if list_any (same (term r)) rows then at rows k else at rows k ++ (if b then term r ∷ [] else [])) ≡ (if b then put Bag (at rows k) (term r) else at rows k)
    by_case false e = both (list_any (same (term r)) rows)
      where
        both : (a : Bool) → (if a then at rows k else at rows k ++ []) ≡ at rows k
        both true = refl
        both false = append-nil (at rows k)
    by_case true e = ap (λ j. if list_any (same (term r)) rows then at rows j else at rows j ++ term r ∷ []) (sym (same_true (key (term r)) k e)) ∙ ap (λ a. if a then at rows (key (term r)) else at rows (key (term r)) ++ term r ∷ []) (any_at (term r) rows)
        ∙ both (list_any (same (term r)) (at rows (key (term r)))) ∙ ap (λ j. put Bag (at rows j) (term r)) (same_true (key (term r)) k e)
      where
        both : (a : Bool) → (if a then at rows (key (term r)) else at rows (key (term r)) ++ term r ∷ []) ≡ put_bag (at rows (key (term r))) (term r) a
        both true = refl
        both false = sym (at_end rows (term r))
at-apply kind rows (change.Delete t j) k o = at-del rows (term j) k ∙ by_case (same (term j) k) refl
  where
    by_case : (b : Bool) → same (term j) k ≡ b → (if b then [] else at rows k) ≡ (if b then delete (at rows k) (term j) else at rows k)
    by_case true e = sym (ap (λ i. delete (at rows k) i) (same_true (term j) k e) ∙ none_left rows k)
    by_case false e = refl
at-apply kind rows (change.DeleteObject r) k o = filter_swap (has_key k) (λ x. not (same (term r) x)) rows ∙ by_case (same (key (term r)) k) refl
  where
    by_case : (b : Bool) → same (key (term r)) k ≡ b → delete_object (at rows k) (term r) ≡ (if b then delete_object (at rows k) (term r) else at rows k)
    by_case true e = refl
    by_case false e = not_there (term r) k rows e

-- a catalog after one table is placed
eq_names : (a b : List ℕ) → bytes_eq a b ≡ true → a ≡ b
eq_names a b h = (bytes_eq-Decides a b).0 h

pub find-place : (w : Catalog) (t : Table) (n : List ℕ) → find (place w t) n ≡ (if bytes_eq (name_of t) n then Some t else find w n)
find-place [] t n = refl
find-place (u ∷ w) t n = cases (find-place w t n) (bytes_eq (name_of u) (name_of t)) refl (before (name_of t) (name_of u)) (bytes_eq (name_of t) n) refl (bytes_eq (name_of u) n) refl
  where
    cases : find (place w t) n ≡ (if bytes_eq (name_of t) n then Some t else find w n) → (a : Bool) → bytes_eq (name_of u) (name_of t) ≡ a → (b : Bool) → (c : Bool) → bytes_eq (name_of t) n ≡ c → (d : Bool) → bytes_eq (name_of u) n ≡ d
        → find (if a then t ∷ w else (if b then t ∷ u ∷ w else u ∷ place w t)) n ≡ (if c then Some t else (if d then Some u else find w n))
    cases ih true e b true g d h = ap (λ z. if z then Some t else find w n) g
    cases ih true e b false g true h = absurd (false≢true (sym g ∙ ap (λ z. bytes_eq z n) (sym (eq_names (name_of u) (name_of t) e)) ∙ h))
    cases ih true e b false g false h = ap (λ z. if z then Some t else find w n) g
    cases ih false e true true g d h = ap (λ z. if z then Some t else (if bytes_eq (name_of u) n then Some u else find w n)) g
    cases ih false e true false g d h = ap (λ z. if z then Some t else (if bytes_eq (name_of u) n then Some u else find w n)) g ∙ ap (λ z. if z then Some u else find w n) h
    cases ih false e false true g true h = absurd (false≢true (sym e ∙ ap (bytes_eq (name_of u)) (eq_names (name_of t) n g) ∙ h))
    cases ih false e false false g true h = ap (λ z. if z then Some u else find (place w t) n) h
    cases ih false e false c g false h = ap (λ z. if z then Some u else find (place w t) n) h ∙ ih ∙ ap (λ z. if z then Some t else find w n) g

none_found : (b : Bool) (o : Option Table) → o ≡ None → o ≡ (if b then None else o)
none_found true o h = h
none_found false o h = refl

pub find-without : (w : Catalog) (m n : List ℕ) → find (without w m) n ≡ (if bytes_eq m n then None else find w n)
find-without [] m n = none_found (bytes_eq m n) None refl
find-without (u ∷ w) m n = cases (find-without w m n) (bytes_eq (name_of u) m) refl (bytes_eq (name_of u) n) refl (bytes_eq m n) refl
  where
    cases : find (without w m) n ≡ (if bytes_eq m n then None else find w n) → (a : Bool) → bytes_eq (name_of u) m ≡ a → (b : Bool) → bytes_eq (name_of u) n ≡ b → (c : Bool) → bytes_eq m n ≡ c
        → find (if a then without w m else u ∷ without w m) n ≡ (if c then None else (if b then Some u else find w n))
    cases ih true e b f true g = ih ∙ ap (λ z. if z then None else find w n) g
    cases ih true e true f false g = absurd (false≢true (sym g ∙ ap (λ z. bytes_eq z n) (sym (eq_names (name_of u) m e)) ∙ f))
    cases ih true e false f false g = ih ∙ ap (λ z. if z then None else find w n) g
    cases ih false e true f true g = absurd (false≢true (sym e ∙ ap (bytes_eq (name_of u)) (eq_names m n g) ∙ f))
    cases ih false e true f false g = ap (λ z. if z then Some u else find (without w m) n) f
    cases ih false e false f c g = ap (λ z. if z then Some u else find (without w m) n) f ∙ ih ∙ ap (λ z. if z then None else find w n) g

pub change_at_key : (kind : Kind) (rows : Rows) (c : Change) (k : PlainTerm) → is_ordered rows ≡ true → at (apply kind rows c) k ≡ (if same (key_of_change c) k then apply kind (at rows k) c else at rows k)
change_at_key = at-apply

-- ---- what each change leaves at its key

-- the key of a set's record has that record alone
pub set_written : (rows : Rows) (r : Term) → is_ordered rows ≡ true → at (apply Set rows (change.Write r)) (key (term r)) ≡ term r ∷ []
set_written rows r o = at-put-set rows (term r) (key (term r)) o ∙ ap (λ b. if b then term r ∷ [] else at rows (key (term r))) (same_refl (key (term r)))

-- a bag's new record comes last
pub bag_written : (rows : Rows) (r : Term) → is_ordered rows ≡ true → list_any (same (term r)) rows ≡ false → at (apply Bag rows (change.Write r)) (key (term r)) ≡ at rows (key (term r)) ++ term r ∷ []
bag_written rows r o new =
    at-put-bag rows (term r) (key (term r)) o ∙ ap (λ b. if b then at rows (key (term r)) else at rows (key (term r)) ++ (if same (key (term r)) (key (term r)) then term r ∷ [] else [])) new
    ∙ ap (λ b. at rows (key (term r)) ++ (if b then term r ∷ [] else [])) (same_refl (key (term r)))

-- an equal one leaves all as it is
pub bag_rewritten : (rows : Rows) (r : Term) → list_any (same (term r)) rows ≡ true → apply Bag rows (change.Write r) ≡ rows
bag_rewritten rows r there = ap (put_bag rows (term r)) there

pub key_deleted : (kind : Kind) (rows : Rows) (t : List ℕ) (k : Term) → at (apply kind rows (change.Delete t k)) (term k) ≡ []
key_deleted kind rows t k = at-del rows (term k) (term k) ∙ ap (λ b. if b then [] else at rows (term k)) (same_refl (term k))

pub object_deleted : (kind : Kind) (rows : Rows) (r : Term) → at (apply kind rows (change.DeleteObject r)) (key (term r)) ≡ filter (λ x. not (same (term r) x)) (at rows (key (term r)))
object_deleted kind rows r = filter_swap (has_key (key (term r))) (λ x. not (same (term r) x)) rows

pub kept_elsewhere : (kind : Kind) (rows : Rows) (c : Change) (k : PlainTerm) → is_ordered rows ≡ true → same (key_of_change c) k ≡ false → at (apply kind rows c) k ≡ at rows k
kept_elsewhere kind rows c k o other = at-apply kind rows c k o ∙ ap (λ b. if b then apply kind (at rows k) c else at rows k) other
