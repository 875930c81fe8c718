-- The change of a term is that of the event whose shape it is.
use Rattle.std.proofs.Common.{◌≡◌, ℕ, zero, suc, ◌<◌, List, Bool, true, false, refl, sym, ap, ◌∙◌, Option, Some, None, arith}
use Rattle.std.specs.Prelude.{if◌then◌else◌, pos, codes}
use Rattle.std.specs.Str.{bytes_eq}
use Rattle.std.proofs.lemmas.Slice.Eq.{bytes_eq-Decides}
use Rattle.tab_term.specs.Data.{PlainTerm, int, atom, tuple, list, bin, map, PlainTerms, none, one_more, pair, triple}
use Rattle.tab_term.specs.View.{term}
use Rattle.tab_term.specs.declared.term.Term.{Term}
use Rattle.tab_term.specs.declared.term.Term.TheVariants as is
use Rattle.tab_model.specs.declared.data.Level.{Level}
use Rattle.tab_model.specs.declared.data.Level.TheVariants.{Simple, Detailed}
use Rattle.tab_model.specs.declared.data.Change.{Change}
use Rattle.tab_model.specs.declared.data.Change.TheVariants as change
use Rattle.tab_model.specs.declared.data.Event.{Event}
use Rattle.tab_model.specs.Operations.{table_of_change}
use Rattle.tab_model.specs.Shapes.{term_value, tid, five, simple, detailed_term, body, shape, is_record, is_id, write_in, object_deletion_in, key_deletion_in, deletion_in, in_table, simple_change, detailed_change, detailed_body, by_rest, change_in_body, change_in, change_of, is_whole, IsShaped, ShapesChange}

pub held_term : (r : Term) → term_value (term r) ≡ r
held_term (is.Int z) = refl
held_term (is.Atom s) = refl
held_term (is.Tuple ts) = refl
held_term (is.List ts) = refl
held_term (is.Bin b) = refl
held_term (is.Map ps) = refl

pub term_held : (x : PlainTerm) → term (term_value x) ≡ x
term_held (int z) = refl
term_held (atom s) = refl
term_held (tuple ts) = refl
term_held (list ts) = refl
term_held (bin b) = refl
term_held (map ps) = refl

deleted_record : (x : PlainTerm) → is_record x ≡ true → deletion_in x ≡ Some (change.DeleteObject (term_value x))
deleted_record (tuple (one_more (atom t) (one_more k (one_more v vs)))) h = refl
deleted_record x h = cc

one_of : (b : Bool) (c : Change) → b ≡ true → (if b then Some c else None) ≡ Some c
one_of true c h = refl
one_of false c h = cc

-- the change is told of the shape
told_simple : (c : Change) (a : ℕ) → is_whole c ≡ true → change_of (pair (atom (codes "mnesia_table_event")) (simple c (suc a))) ≡ Some c
told_simple (change.Write r) a w = one_of (is_record (term r)) (change.Write (term_value (term r))) w ∙ ap (λ x. Some (change.Write x)) (held_term r)
told_simple (change.Delete t k) a w = ap (λ x. Some (change.Delete t x)) (held_term k)
told_simple (change.DeleteObject r) a w = one_of (is_record (term r)) (change.DeleteObject (term_value (term r))) w ∙ ap (λ x. Some (change.DeleteObject x)) (held_term r)

at_table : (t : List ℕ) (o : Option Change) (c : Change) → o ≡ Some c → table_of_change c ≡ t → in_table t o ≡ Some c
at_table t o c h e = ap (in_table t) h ∙ ap (λ b. if b then Some c else None) ((bytes_eq-Decides (table_of_change c) t).1 e)

told_detailed : (c : Change) (t : List ℕ) (old : PlainTerms) (a : ℕ) → is_whole c ≡ true → table_of_change c ≡ t → change_of (pair (atom (codes "mnesia_table_event")) (detailed_term c t old (suc a))) ≡ Some c
told_detailed (change.Write r) t old a w e = at_table t (write_in (term r)) (change.Write r) (one_of (is_record (term r)) (change.Write (term_value (term r))) w ∙ ap (λ x. Some (change.Write x)) (held_term r)) e
told_detailed (change.Delete u k) t old a w e = at_table t (Some (change.Delete u (term_value (term k)))) (change.Delete u k) (ap (λ x. Some (change.Delete u x)) (held_term k)) e
told_detailed (change.DeleteObject r) t old a w e = at_table t (deletion_in (term r)) (change.DeleteObject r) (deleted_record (term r) w ∙ ap (λ x. Some (change.DeleteObject x)) (held_term r)) e

told_at : (l : Level) (c : Change) (t : List ℕ) (old : PlainTerms) (a : ℕ) → is_whole c ≡ true → table_of_change c ≡ t → 0 < a → change_of (shape l (record { tab = t; change = c; old = old; age = a })) ≡ Some c
told_at l c t old zero w e h = absurd (omega arith)
told_at Simple c t old (suc a) w e h = told_simple c a w
told_at Detailed c t old (suc a) w e h = told_detailed c t old a w e

pub shape_tells : (l : Level) (e : Event) → IsShaped e → change_of (shape l e) ≡ Some e.change
shape_tells l e s = told_at l e.change e.tab e.old e.age s.whole s.table s.age

-- ---- and of no other term

pub record Id (i : PlainTerm) : Type 0 where
  pub age : ℕ
  pub is : tid (suc age) ≡ i

names_true : (a b : List ℕ) → bytes_eq a b ≡ true → a ≡ b
names_true a b h = (bytes_eq-Decides a b).0 h

id_is : (i : PlainTerm) → is_id i ≡ true → Id i
id_is (tuple (one_more (atom n) (one_more (int (pos (suc a))) none))) h = record { age = a; is = ap (λ s. pair (atom s) (int (pos (suc a)))) (sym (names_true n (codes "tid") h)) }
id_is x h = cc

-- what a body is the body of
pub record BodyOf (ts : PlainTerms) (c : Change) : Type 0 where
  pub level : Level
  pub event : Event
  pub is : body level event ≡ tuple ts
  pub change_is : event.change ≡ c
  pub shaped : IsShaped event

if_some : (b : Bool) (c d : Change) → (if b then Some c else None) ≡ Some d → (b ≡ true) × (c ≡ d)
if_some true c d h = (refl, cc)
if_some false c d h = cc

-- forms of what is changed
pub record Changes (x : PlainTerm) (c d : Change) : Type 0 where
  pub change_is : c ≡ d
  pub whole : is_whole c ≡ true

written_is : (x : PlainTerm) (c : Change) → write_in x ≡ Some c → Changes x (change.Write (term_value x)) c
written_is x c h = let p = if_some (is_record x) (change.Write (term_value x)) c h in record { change_is = p.1; whole = ap is_record (term_held x) ∙ p.0 }

object_is : (x : PlainTerm) (c : Change) → object_deletion_in x ≡ Some c → Changes x (change.DeleteObject (term_value x)) c
object_is x c h = let p = if_some (is_record x) (change.DeleteObject (term_value x)) c h in record { change_is = p.1; whole = ap is_record (term_held x) ∙ p.0 }

pub record Pair (x : PlainTerm) (c : Change) : Type 0 where
  pub table : List ℕ
  pub key : PlainTerm
  pub is : pair (atom table) key ≡ x
  pub change_is : change.Delete table (term_value key) ≡ c

key_is : (x : PlainTerm) (c : Change) → key_deletion_in x ≡ Some c → Pair x c
key_is (tuple (one_more (atom t) (one_more k none))) c h = record { table = t; key = k; is = refl; change_is = cc }
key_is x c h = cc

shaped : (c : Change) (old : PlainTerms) (a : ℕ) → is_whole c ≡ true → IsShaped (record { tab = table_of_change c; change = c; old = old; age = suc a })
shaped c old a w = record { whole = w; table = refl; age = omega arith }

simple_is : (n : List ℕ) (x i : PlainTerm) (c : Change) → Id i → simple_change n x ≡ Some c → BodyOf (one_more (atom n) (one_more x (one_more i none))) c
simple_is n x i c id h = cases (bytes_eq n (codes "write")) refl (bytes_eq n (codes "delete")) refl (bytes_eq n (codes "delete_object")) refl h
  where
    cases : (p : Bool) → bytes_eq n (codes "write") ≡ p → (q : Bool) → bytes_eq n (codes "delete") ≡ q → (r : Bool) → bytes_eq n (codes "delete_object") ≡ r
        → (if p then write_in x else (if q then key_deletion_in x else (if r then object_deletion_in x else None))) ≡ Some c → BodyOf (one_more (atom n) (one_more x (one_more i none))) c
    cases true e q f r g h = let w = written_is x c h in record {
      level = Simple;
      event = record { tab = table_of_change (change.Write (term_value x)); change = change.Write (term_value x); old = none; age = suc id.age };
      is = λ j. triple (atom (sym (names_true n (codes "write") e) j)) (term_held x j) (id.is j);
      change_is = w.change_is;
      shaped = shaped (change.Write (term_value x)) none id.age w.whole;
    }
    cases false e true f r g h = let w = key_is x c h in record {
      level = Simple;
      event = record { tab = w.table; change = change.Delete w.table (term_value w.key); old = none; age = suc id.age };
      is = (λ j. triple (atom (sym (names_true n (codes "delete") f) j)) (pair (atom w.table) (term_held w.key j)) (id.is j)) ∙ ap (λ y. triple (atom n) y i) w.is;
      change_is = w.change_is;
      shaped = shaped (change.Delete w.table (term_value w.key)) none id.age refl;
    }
    cases false e false f true g h = let w = object_is x c h in record {
      level = Simple;
      event = record { tab = table_of_change (change.DeleteObject (term_value x)); change = change.DeleteObject (term_value x); old = none; age = suc id.age };
      is = λ j. triple (atom (sym (names_true n (codes "delete_object") g) j)) (term_held x j) (id.is j);
      change_is = w.change_is;
      shaped = shaped (change.DeleteObject (term_value x)) none id.age w.whole;
    }
    cases false e false f false g h = cc

in_table_is : (t : List ℕ) (o : Option Change) (c : Change) → in_table t o ≡ Some c → (o ≡ Some c) × (table_of_change c ≡ t)
in_table_is t None c h = cc
in_table_is t (Some d) c h = let p = if_some (bytes_eq (table_of_change d) t) d c h in (ap (λ z. Some z) p.1, ap table_of_change (sym p.1) ∙ names_true (table_of_change d) t p.0)

-- what a detailed deletion deletes
pub record Deletes (x : PlainTerm) (c : Change) : Type 0 where
  pub change : Change
  pub is : (t : List ℕ) (old : PlainTerms) (a : ℕ) → detailed_term change t old a ≡ five (atom (codes "delete")) (atom t) x (list old) (tid a)
  pub change_is : change ≡ c
  pub whole : is_whole change ≡ true

object_deletes : (x : PlainTerm) (c : Change) → object_deletion_in x ≡ Some c → Deletes x c
object_deletes x c h = let w = object_is x c h in record {
  change = change.DeleteObject (term_value x);
  is = λ t old a. ap (λ y. five (atom (codes "delete")) (atom t) y (list old) (tid a)) (term_held x);
  change_is = w.change_is;
  whole = w.whole;
}

deletes_is : (x : PlainTerm) (c : Change) → deletion_in x ≡ Some c → Deletes x c
deletes_is (tuple (one_more (atom u) (one_more k none))) c h = record {
  change = change.Delete u (term_value k);
  is = λ t old a. ap (λ y. five (atom (codes "delete")) (atom t) (pair (atom u) y) (list old) (tid a)) (term_held k);
  change_is = cc;
  whole = refl;
}
deletes_is x c h = object_deletes x c h

in_one : (d c : Change) (t : List ℕ) (old : PlainTerms) (a : ℕ) → d ≡ c → table_of_change c ≡ t → is_whole d ≡ true → IsShaped (record { tab = t; change = d; old = old; age = suc a })
in_one d c t old a e f w = record { whole = w; table = ap table_of_change e ∙ f; age = omega arith }

detailed_is : (n t : List ℕ) (x i : PlainTerm) (old : PlainTerms) (c : Change) → Id i → detailed_change n t x ≡ Some c → BodyOf (one_more (atom n) (one_more (atom t) (one_more x (one_more (list old) (one_more i none))))) c
detailed_is n t x i old c id h = cases (bytes_eq n (codes "write")) refl (bytes_eq n (codes "delete")) refl h
  where
    cases : (p : Bool) → bytes_eq n (codes "write") ≡ p → (q : Bool) → bytes_eq n (codes "delete") ≡ q
        → (if p then in_table t (write_in x) else (if q then in_table t (deletion_in x) else None)) ≡ Some c → BodyOf (one_more (atom n) (one_more (atom t) (one_more x (one_more (list old) (one_more i none))))) c
    cases true e q f h = let u = in_table_is t (write_in x) c h in let w = written_is x c u.0 in record {
      level = Detailed;
      event = record { tab = t; change = change.Write (term_value x); old = old; age = suc id.age };
      is = λ j. five (atom (sym (names_true n (codes "write") e) j)) (atom t) (term_held x j) (list old) (id.is j);
      change_is = w.change_is;
      shaped = in_one (change.Write (term_value x)) c t old id.age w.change_is u.1 w.whole;
    }
    cases false e true f h = let u = in_table_is t (deletion_in x) c h in let w = deletes_is x c u.0 in record {
      level = Detailed;
      event = record { tab = t; change = w.change; old = old; age = suc id.age };
      is = w.is t old (suc id.age) ∙ (λ j. five (atom (sym (names_true n (codes "delete") f) j)) (atom t) x (list old) (id.is j));
      change_is = w.change_is;
      shaped = in_one w.change c t old id.age w.change_is u.1 w.whole;
    }
    cases false e false f h = cc

if_there : (b : Bool) (o : Option Change) (c : Change) → (if b then o else None) ≡ Some c → (b ≡ true) × (o ≡ Some c)
if_there true o c h = (refl, h)
if_there false o c h = cc

five_is : (n : List ℕ) (x y old i : PlainTerm) (c : Change) → detailed_body n x y old i ≡ Some c → BodyOf (one_more (atom n) (one_more x (one_more y (one_more old (one_more i none))))) c
five_is n (atom t) x (list old) i c h = let p = if_there (is_id i) (detailed_change n t x) c h in detailed_is n t x i old c (id_is i p.0) p.1
five_is n t x old i c h = cc

rest_is : (n : List ℕ) (x y : PlainTerm) (rest : PlainTerms) (c : Change) → by_rest n x y rest ≡ Some c → BodyOf (one_more (atom n) (one_more x (one_more y rest))) c
rest_is n x y none c h = let p = if_there (is_id y) (simple_change n x) c h in simple_is n x y c (id_is y p.0) p.1
rest_is n x y (one_more old none) c h = cc
rest_is n x y (one_more old (one_more i none)) c h = five_is n x y old i c h
rest_is n x y (one_more old (one_more i (one_more z zs))) c h = cc

body_is : (ts : PlainTerms) (c : Change) → change_in_body ts ≡ Some c → BodyOf ts c
body_is (one_more (atom n) (one_more x (one_more y rest))) c h = rest_is n x y rest c h
body_is ts c h = cc

in_is : (ts : PlainTerms) (c : Change) → change_in ts ≡ Some c → ShapesChange (tuple ts) c
in_is (one_more (atom n) (one_more (tuple ts) none)) c h =
    let p = if_there (bytes_eq n (codes "mnesia_table_event")) (change_in_body ts) c h in
    let b = body_is ts c p.1 in
    record { level = b.level; event = b.event; is = λ j. pair (atom (sym (names_true n (codes "mnesia_table_event") p.0) j)) (b.is j); change_is = b.change_is; shaped = b.shaped }
in_is ts c h = cc

pub change_shapes : (x : PlainTerm) (c : Change) → change_of x ≡ Some c → ShapesChange x c
change_shapes (tuple ts) c h = in_is ts c h
change_shapes x c h = cc
