-- What changes leave at a key: no record with a value that was not there before and that none of them writes.
use Rattle.std.proofs.Common.{◌≡◌, ℕ, List, [], ◌∷◌, ◌++◌, Bool, true, false, not, ◌&&◌, ◌||◌, take, drop, refl, sym, ap, ap₂, ◌∙◌, subst}
use Rattle.std.specs.Prelude.{if◌then◌else◌, Some, None}
use Rattle.std.specs.List.{filter, list_any, list_all, slice_get}
use Rattle.std.proofs.lemmas.Bool.{false≢true, and_parts}
use Rattle.std.proofs.lemmas.List.{take-append-drop}
use Rattle.std.proofs.lemmas.List.Folds.{list_any-append, list_all-append}
use Rattle.tab_term.specs.declared.term.Term.{Term}
use Rattle.tab_term.specs.Data.{PlainTerm}
use Rattle.tab_term.specs.Order.{term_cmp}
use Rattle.tab_term.specs.Same.{same}
use Rattle.tab_term.specs.View.{term}
use Rattle.tab_map.specs.KeyList.{contains_key}
use Rattle.tab_model.specs.declared.data.Change.{Change}
use Rattle.tab_model.specs.declared.data.Change.TheVariants as change
use Rattle.tab_model.specs.declared.data.Kind.{Kind}
use Rattle.tab_model.specs.declared.data.Kind.TheVariants.{Set, Bag}
use Rattle.tab_model.specs.Tables.{Rows, at, apply, key, has_key, delete, delete_object, is_ordered, rows_after}
use Rattle.tab_model.proofs.ChangeLaws.{at-apply, ordered-apply}
use Rattle.tab_model.proofs.TableLaws.{same_true, same_refl, at-del, at-put-set, at-put-bag}
use Rattle.tab_index.specs.IndexOf.{has_value, AreKeysWith}
use Rattle.tab_model.specs.declared.data.TableDef.{TableDef}
use Rattle.tab_index.specs.Indexed.{Pending, LeadsTo, deletes_one, key_deleted, row_written, writes}
use Rattle.tab_index.proofs.FurtherRows.{bare_after}

neither : (a b : Bool) → (a || b) ≡ false → (a ≡ false) × (b ≡ false)
neither true b h = absurd (false≢true (sym h))
neither false b h = (refl, h)

none_filtered : (q f : PlainTerm → Bool) (xs : Rows) → list_any q xs ≡ false → list_any q (filter f xs) ≡ false
none_filtered q f [] h = refl
none_filtered q f (x ∷ xs) h = cases (none_filtered q f xs (neither (q x) (list_any q xs) h).1) (f x)
  where
    cases : list_any q (filter f xs) ≡ false → (b : Bool) → list_any q (if b then x ∷ filter f xs else filter f xs) ≡ false
    cases ih true = ap (λ b. b || list_any q (filter f xs)) (neither (q x) (list_any q xs) h).0 ∙ ih
    cases ih false = ih

module _ (p : ℕ) (x : PlainTerm) where
  -- a record that is written, where it is not both at the key and with the value
  written : (r : Term) (k : PlainTerm) (rows : Rows) (b : Bool) → same (key (term r)) k ≡ b → (a : Bool) → has_value p x (term r) ≡ a → (a && same k (key (term r))) ≡ false → list_any (has_value p x) rows ≡ false
      → list_any (has_value p x) (if b then term r ∷ [] else rows) ≡ false
  written r k rows true e true f w none = absurd (false≢true (sym w ∙ ap (λ j. same k j) (same_true (key (term r)) k e) ∙ same_refl k))
  written r k rows true e false f w none = ap (λ b. b || false) f
  written r k rows false e a f w none = none

  after_one : (kind : Kind) (rows : Rows) (c : Change) (k : PlainTerm) → is_ordered rows ≡ true → writes p x k c ≡ false → list_any (has_value p x) (at rows k) ≡ false → list_any (has_value p x) (at (apply kind rows c) k) ≡ false
  after_one Set rows (change.Write r) k o w none = ap (list_any (has_value p x)) (at-put-set rows (term r) k o) ∙ written r k (at rows k) (same (key (term r)) k) refl (has_value p x (term r)) refl w none
  after_one Bag rows (change.Write r) k o w none = ap (list_any (has_value p x)) (at-put-bag rows (term r) k o) ∙ cases (list_any (same (term r)) rows)
    where
      cases : (d : Bool) → list_any (has_value p x) (if d then at rows k else at rows k ++ (if same (key (term r)) k then term r ∷ [] else [])) ≡ false
      cases true = none
      cases false =
          list_any-append (has_value p x) (at rows k) (if same (key (term r)) k then term r ∷ [] else []) ∙ ap (λ b. b || list_any (has_value p x) (if same (key (term r)) k then term r ∷ [] else [])) none
          ∙ written r k [] (same (key (term r)) k) refl (has_value p x (term r)) refl w refl
  after_one kind rows (change.Delete t j) k o w none = ap (list_any (has_value p x)) (at-del rows (term j) k) ∙ cases (same (term j) k)
    where
      cases : (b : Bool) → list_any (has_value p x) (if b then [] else at rows k) ≡ false
      cases true = refl
      cases false = none
  after_one kind rows (change.DeleteObject r) k o w none = ap (list_any (has_value p x)) (at-apply kind rows (change.DeleteObject r) k o) ∙ cases (same (key (term r)) k)
    where
      cases : (b : Bool) → list_any (has_value p x) (if b then delete_object (at rows k) (term r) else at rows k) ≡ false
      cases true = none_filtered (has_value p x) (λ y. not (same (term r) y)) (at rows k) none
      cases false = none

  after_all : (kind : Kind) (rows : Rows) (cs : List Change) (k : PlainTerm) → is_ordered rows ≡ true → list_any (writes p x k) cs ≡ false → list_any (has_value p x) (at rows k) ≡ false
      → list_any (has_value p x) (at (rows_after kind rows cs) k) ≡ false
  after_all kind rows [] k o w none = none
  after_all kind rows (c ∷ cs) k o w none =
      let is = neither (writes p x k c) (list_any (writes p x k) cs) w in
      after_all kind (apply kind rows c) cs k (ordered-apply kind rows c o) is.1 (after_one kind rows c k o is.0 none)

-- keys of an index, and those of the changes that it lacks
pub keys_after : (kind : Kind) (rows new : Rows) (cs : List Change) (p : ℕ) (x : PlainTerm) (ks all : List Term) → is_ordered rows ≡ true → rows_after kind rows cs ≡ new
    → ((k : Term) → contains_key term_cmp k ks ≡ list_any (has_value p x) (at rows (term k))) → ((k : Term) → contains_key term_cmp k all ≡ (list_any (writes p x (term k)) cs || contains_key term_cmp k ks))
    → AreKeysWith new p x all
keys_after kind rows new cs p x ks all o leads of_index added k absent =
    let is = neither (list_any (writes p x (term k)) cs) (contains_key term_cmp k ks) (sym (added k) ∙ absent) in
    subst (λ rs. list_any (has_value p x) (at rs (term k)) ≡ false) leads (after_all p x kind rows cs (term k) o is.0 (sym (of_index k) ∙ is.1))

-- one of three, with the parts in another order
pub turned : (a b c : Bool) → (b || (a || c)) ≡ ((a || b) || c)
turned true true c = refl
turned true false c = refl
turned false b c = refl

-- the key of a record that a change writes
pub writes_row : (p : ℕ) (x k : PlainTerm) (c : Change) (r : Term) → row_written c ≡ Some r → writes p x k c ≡ (has_value p x (term r) && same k (key (term r)))
writes_row p x k (change.Write s) r h = let is : s ≡ r = cc in ap (λ t. has_value p x (term t) && same k (key (term t))) is
writes_row p x k (change.Delete t j) r h = let n : None ≡ Some r = h in cc
writes_row p x k (change.DeleteObject s) r h = let n : None ≡ Some r = h in cc

pub writes_none : (p : ℕ) (x k : PlainTerm) (c : Change) → row_written c ≡ None → writes p x k c ≡ false
writes_none p x k (change.Write s) h = let n : Some s ≡ None = h in cc
writes_none p x k (change.Delete t j) h = refl
writes_none p x k (change.DeleteObject s) h = refl

-- ---- changes that indexes lack

rows_after_both : (kind : Kind) (rows : Rows) (cs ds : List Change) → rows_after kind rows (cs ++ ds) ≡ rows_after kind (rows_after kind rows cs) ds
rows_after_both kind rows [] ds = refl
rows_after_both kind rows (c ∷ cs) ds = rows_after_both kind (apply kind rows c) cs ds

-- with more changes
pub more_leads : (def : TableDef) (rows : Rows) (b new : Pending) (cs : List Change) → LeadsTo def rows b → new ≡ (b.0, b.1 ++ cs) → LeadsTo def (rows_after def.kind rows cs) new
more_leads def rows b new cs leads made = subst (LeadsTo def (rows_after def.kind rows cs)) (sym made) is
  where
    is : LeadsTo def (rows_after def.kind rows cs) (b.0, b.1 ++ cs)
    is = record { bare = leads.bare; after = rows_after_both def.kind b.0.1 b.1 cs ∙ ap (λ rs. rows_after def.kind rs cs) leads.after }

-- with the first ones made
fewer_lead : (def : TableDef) (rows : Rows) (b : Pending) (new : Kind × Rows) (left : List Change) (n : ℕ) → LeadsTo def rows b → new ≡ (b.0.0, rows_after b.0.0 b.0.1 (take n b.1)) → left ≡ drop n b.1 → LeadsTo def rows (new, left)
fewer_lead def rows b new left n leads made rest = record {
  bare = bare_after def b.0 new (take n b.1) leads.bare made;
  after =
      ap₂ (λ rs cs. rows_after def.kind rs cs) (ap (λ v. v.1) made ∙ ap (λ k. rows_after k b.0.1 (take n b.1)) leads.bare.kind) rest ∙ sym (rows_after_both def.kind b.0.1 (take n b.1) (drop n b.1))
      ∙ ap (rows_after def.kind b.0.1) (take-append-drop n b.1) ∙ leads.after;
}

-- with some of the first change made
parts_lead : (def : TableDef) (rows : Rows) (b : Pending) (mid : Kind × Rows) (parts : List Change) → LeadsTo def rows b → rows_after b.0.0 (rows_after b.0.0 b.0.1 parts) b.1 ≡ rows_after b.0.0 b.0.1 b.1
    → mid ≡ (b.0.0, rows_after b.0.0 b.0.1 parts) → LeadsTo def rows (mid, b.1)
parts_lead def rows b mid parts leads early made = record {
  bare = bare_after def b.0 mid parts leads.bare made;
  after = ap (λ v. rows_after def.kind v.1 b.1) made ∙ subst (λ k. rows_after k (rows_after b.0.0 b.0.1 parts) b.1 ≡ rows_after k b.0.1 b.1) leads.bare.kind early ∙ leads.after;
}

-- with that, or with the first ones made
pub settled_lead : (def : TableDef) (rows : Rows) (b : Pending) (mid new : Kind × Rows) (parts left : List Change) (n : ℕ) → LeadsTo def rows b
    → rows_after b.0.0 (rows_after b.0.0 b.0.1 parts) b.1 ≡ rows_after b.0.0 b.0.1 b.1 → mid ≡ (b.0.0, rows_after b.0.0 b.0.1 parts) → new ≡ (mid.0, rows_after mid.0 mid.1 (take n b.1)) → left ≡ drop n b.1 → LeadsTo def rows (new, left)
settled_lead def rows b mid new parts left n leads early some made rest = fewer_lead def rows (mid, b.1) new left n (parts_lead def rows b mid parts leads early some) made rest

-- with none left
pub none_pending : (def : TableDef) (rows : Rows) (b : Pending) → LeadsTo def rows b → b.1 ≡ [] → b.0.1 ≡ rows
none_pending def rows b leads none = ap (rows_after def.kind b.0.1) (sym none) ∙ leads.after

-- ---- a deletion in parts

pub all_have : (p : PlainTerm → Bool) (xs : Rows) → list_all p (filter p xs) ≡ true
all_have p [] = refl
all_have p (x ∷ xs) = cases (p x) refl (all_have p xs)
  where
    cases : (b : Bool) → p x ≡ b → list_all p (filter p xs) ≡ true → list_all p (if b then x ∷ filter p xs else filter p xs) ≡ true
    cases true e ih = ap (λ b. b && list_all p (filter p xs)) e ∙ ih
    cases false e ih = ih

pub one_more_part : (k : PlainTerm) (parts more : List Change) (r : Term) → more ≡ parts ++ change.DeleteObject r ∷ [] → has_key k (term r) ≡ true → list_all (deletes_one k) parts ≡ true → list_all (deletes_one k) more ≡ true
one_more_part k parts more r is h all =
    ap (list_all (deletes_one k)) is ∙ list_all-append (deletes_one k) parts (change.DeleteObject r ∷ []) ∙ ap (λ b. b && list_all (deletes_one k) (change.DeleteObject r ∷ [])) all ∙ ap (λ b. b && true) h

-- a key's deletion takes out a record of it that went before
part_of_deletion : (rows : Rows) (r k : PlainTerm) → same (key r) k ≡ true → delete (delete_object rows r) k ≡ delete rows k
part_of_deletion [] r k h = refl
part_of_deletion (x ∷ rows) r k h = cases (same r x) refl (has_key k x) refl (part_of_deletion rows r k h)
  where
    cases : (b : Bool) → same r x ≡ b → (d : Bool) → has_key k x ≡ d → delete (delete_object rows r) k ≡ delete rows k
        → delete (if not b then x ∷ delete_object rows r else delete_object rows r) k ≡ (if not d then x ∷ delete rows k else delete rows k)
    cases true e true f ih = ih
    cases true e false f ih = absurd (false≢true (sym f ∙ ap (has_key k) (sym (same_true r x e)) ∙ h))
    cases false e d f ih = ap (λ b. if not b then x ∷ delete (delete_object rows r) k else delete (delete_object rows r) k) f ∙ ap (λ rs. if not d then x ∷ rs else rs) ih

parts_of_deletion : (kind : Kind) (rows : Rows) (k : PlainTerm) (ds : List Change) → list_all (deletes_one k) ds ≡ true → delete (rows_after kind rows ds) k ≡ delete rows k
parts_of_deletion kind rows k [] h = refl
parts_of_deletion kind rows k (change.Write r ∷ ds) h = absurd (false≢true h)
parts_of_deletion kind rows k (change.Delete t j ∷ ds) h = absurd (false≢true h)
parts_of_deletion kind rows k (change.DeleteObject r ∷ ds) h =
    let is = and_parts (same (key (term r)) k) (list_all (deletes_one k) ds) h in
    parts_of_deletion kind (delete_object rows (term r)) k ds is.1 ∙ part_of_deletion rows (term r) k is.0

-- where the first change is the deletion of a key, some of its records may go before
pub parts_before : (kind : Kind) (rows : Rows) (parts cs : List Change) (c : Change) (k : Term) → slice_get cs 0 ≡ Some c → key_deleted c ≡ Some k → list_all (deletes_one (term k)) parts ≡ true
    → rows_after kind (rows_after kind rows parts) cs ≡ rows_after kind rows cs
parts_before kind rows parts [] c k first deletes all = let none : None ≡ Some c = first in cc
parts_before kind rows parts (d ∷ cs) (change.Write r) k first deletes all = let none : None ≡ Some k = deletes in cc
parts_before kind rows parts (d ∷ cs) (change.DeleteObject r) k first deletes all = let none : None ≡ Some k = deletes in cc
parts_before kind rows parts (d ∷ cs) (change.Delete t j) k first deletes all =
    let is : d ≡ change.Delete t j = cc in
    let key : j ≡ k = cc in
    ap (λ e. rows_after kind (apply kind (rows_after kind rows parts) e) cs) is
    ∙ ap (λ rs. rows_after kind rs cs) (parts_of_deletion kind rows (term j) parts (ap (λ x. list_all (deletes_one (term x)) parts) key ∙ all)) ∙ ap (λ e. rows_after kind (apply kind rows e) cs) (sym is)
