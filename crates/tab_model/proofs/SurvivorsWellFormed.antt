-- What survives a transaction is whole: its records have arity 3 or more and an atom first.
use Rattle.std.proofs.Common.{◌≡◌, ℕ, ◌<◌, List, [], ◌∷◌, ◌++◌, Bool, true, false, ◌&&◌, refl, sym, ap, ◌∙◌, subst, arith, length, Option, Some, None}
use Rattle.std.specs.Prelude.{◌==◌, if◌then◌else◌, is_some, nat_lt}
use Rattle.std.specs.Str.{bytes_eq}
use Rattle.std.proofs.lemmas.Bool.Decides.{nat_tests}
use Rattle.std.proofs.lemmas.Bool.{and_parts}
use Rattle.tab_term.specs.Data.{PlainTerm, int, atom, tuple, list, bin, map, PlainTerms, none, one_more, count}
use Rattle.tab_term.specs.Same.{same}
use Rattle.tab_term.specs.View.{term}
use Rattle.tab_model.specs.declared.data.TableDef.{TableDef}
use Rattle.tab_model.specs.declared.data.Operation.{Operation}
use Rattle.tab_model.specs.declared.data.Operation.TheVariants as op
use Rattle.tab_model.specs.declared.data.Move.{Move}
use Rattle.tab_model.specs.declared.data.Move.TheVariants.{Do, Open, Close, Undo}
use Rattle.tab_model.specs.declared.data.Change.{Change}
use Rattle.tab_model.specs.declared.data.Reply.{Reply}
use Rattle.tab_model.specs.declared.data.Reply.TheVariants as reply
use Rattle.tab_model.specs.declared.data.Schema.{Schema}
use Rattle.tab_model.specs.declared.data.Schema.TheVariants.{Create, Remove, AddIndex, DelIndex}
use Rattle.tab_model.specs.declared.data.Entry.{Entry}
use Rattle.tab_model.specs.declared.data.Entry.TheVariants.{Committed, Changed, Subscribed, Unsubscribed}
use Rattle.tab_model.specs.Definitions.{Parsed, Good, Bad, fits_def, are_different, good_names, atoms_in, attributes_in, kind_in, value_of, default_names, first_fault, bad_option, with_entries, with_index_option, with_names, without_fault, parse_options, position}
use Rattle.tab_model.specs.Tables.{apply}
use Rattle.tab_model.specs.Catalogs.{Catalog, Table, name_of, find, place, without, with_rows, with_def}
use Rattle.tab_model.specs.Operations.{table_of, failure_in, failure, change_of_op, table_of_change, change_table, change_catalog, change_by, answer}
use Rattle.tab_model.specs.Alone.{Mid, start, without_innermost, back_to, back, next, after, replies}
use Rattle.tab_model.specs.Events.{drop_level, top_level, is_failure, with_change, survivors, surviving_changes}
use Rattle.tab_model.specs.Schemas.{schema_effect, create_parsed, add_at, del_at, add_effect, del_effect}
use Rattle.tab_model.specs.Log.{catalog_after, serial_from}
use Rattle.tab_model.specs.Shapes.{is_record, is_whole}
use Rattle.tab_model.proofs.ChangeLaws.{find-place, find-without}
use Rattle.tab_model.proofs.SurvivorsRight.{reply_tells}
use Rattle.std.specs.Prelude.{codes}

-- each table has two attributes or more
abbrev pub IsGood : Catalog → Type 0
IsGood w = (n : List ℕ) (t : Table) → find w n ≡ Some t → 1 < length t.def.attributes

good_place : (w : Catalog) (x : Table) → IsGood w → 1 < length x.def.attributes → IsGood (place w x)
good_place w x g h n t e = cases (bytes_eq (name_of x) n) (sym (find-place w x n) ∙ e)
  where
    cases : (b : Bool) → (if b then Some x else find w n) ≡ Some t → 1 < length t.def.attributes
    cases true f = let same : x ≡ t = cc in subst (λ (z : Table). 1 < length z.def.attributes) same h
    cases false f = g n t f

good_without : (w : Catalog) (m : List ℕ) → IsGood w → IsGood (without w m)
good_without w m g n t e = cases (bytes_eq m n) (sym (find-without w m n) ∙ e)
  where
    cases : (b : Bool) → (if b then None else find w n) ≡ Some t → 1 < length t.def.attributes
    cases true f = cc
    cases false f = g n t f

good_change : (w : Catalog) (c : Change) → IsGood w → IsGood (change_catalog w c)
good_change w c g = cases (find w (table_of_change c)) refl
  where
    cases : (o : Option Table) → find w (table_of_change c) ≡ o → IsGood (change_table w o c)
    cases None e = g
    cases (Some y) e = good_place w (with_rows y (apply y.def.kind y.rows c)) g (g (table_of_change c) y e)

good_by : (w : Catalog) (c : Option Change) → IsGood w → IsGood (change_by w c)
good_by w None g = g
good_by w (Some c) g = good_change w c g

-- ---- a definition that options give has two attributes or more

names_good : (o : Option (List (List ℕ))) (names : List (List ℕ)) → good_names o ≡ Some names → 1 < length names
names_good None names h = cc
names_good (Some ms) names h = cases (nat_lt 1 (length ms)) refl (nat_lt (length ms) 256 && are_different ms) h
  where
    more : (k : ℕ) → nat_lt 1 k ≡ true → 1 < k
    more k e = grind (arith, nat_tests)

    cases : (a : Bool) → nat_lt 1 (length ms) ≡ a → (b : Bool) → (if a && b then Some ms else None) ≡ Some names → 1 < length names
    cases true e true f = let same : ms ≡ names = cc in subst (λ (z : List (List ℕ)). 1 < length z) same (more (length ms) e)
    cases true e false f = cc
    cases false e b f = cc

attributes_good : (x : PlainTerm) (names : List (List ℕ)) → attributes_in x ≡ Some names → 1 < length names
attributes_good (list ts) names h = names_good (atoms_in ts) names h
attributes_good x names h = cc

indexed_good : (def : TableDef) (es : PlainTerms) (f : Option PlainTerm) (d : TableDef) → with_entries def es f ≡ Good d → def.attributes ≡ d.attributes
indexed_good def es (Some e) d h = cc
indexed_good def es None d h = cc

with_index_good : (def : TableDef) (x : PlainTerm) (d : TableDef) → with_index_option def x ≡ Good d → def.attributes ≡ d.attributes
with_index_good def (list es) d h = indexed_good def es (first_fault def es) d h
with_index_good def (int z) d h = cc
with_index_good def (atom s) d h = cc
with_index_good def (tuple ts) d h = cc
with_index_good def (bin b) d h = cc
with_index_good def (map ps) d h = cc

with_names_good : (tab : List ℕ) (os : PlainTerms) (ns : Option (List (List ℕ))) (d : TableDef) → with_names tab os ns ≡ Good d → ns ≡ Some d.attributes
with_names_good tab os None d h = cc
with_names_good tab os (Some names) d h = ap (λ z. Some z) (with_index_good (record { name = tab; kind = kind_in (value_of tab (codes "type") (atom (codes "set")) os); attributes = names; indexes = [] }) (value_of tab (codes "index") (list none) os) d h)

without_fault_good : (tab : List ℕ) (os : PlainTerms) (f : Option PlainTerm) (d : TableDef) → without_fault tab os f ≡ Good d → 1 < length d.attributes
without_fault_good tab os (Some o) d h = cc
without_fault_good tab os None d h = attributes_good (value_of tab (codes "attributes") default_names os) d.attributes (with_names_good tab os (attributes_in (value_of tab (codes "attributes") default_names os)) d h)

add_attributes : (def : TableDef) (p : Option ℕ) → def.attributes ≡ (add_at def p).attributes
add_attributes def None = refl
add_attributes def (Some p) = refl

del_attributes : (def : TableDef) (p : Option ℕ) → def.attributes ≡ (del_at def p).attributes
del_attributes def None = refl
del_attributes def (Some p) = refl

good_schema : (w : Catalog) (c : Schema) → IsGood w → IsGood (schema_effect w c)
good_schema w (Create t os) g = cases (parse_options t os) refl
  where
    cases : (p : Parsed) → parse_options t os ≡ p → IsGood (create_parsed w p)
    cases (Good d) e = good_place w (record { def = d; rows = [] }) g (without_fault_good t os (bad_option t [] os) d e)
    cases (Bad x) e = g
good_schema w (Remove t) g = good_without w t g
good_schema w (AddIndex t a) g = cases (find w t) refl
  where
    cases : (o : Option Table) → find w t ≡ o → IsGood (add_effect w a o)
    cases None e = g
    cases (Some x) e = good_place w (with_def x (add_at x.def (position x.def (term a)))) g (subst (λ (z : List (List ℕ)). 1 < length z) (add_attributes x.def (position x.def (term a))) (g t x e))
good_schema w (DelIndex t a) g = cases (find w t) refl
  where
    cases : (o : Option Table) → find w t ≡ o → IsGood (del_effect w a o)
    cases None e = g
    cases (Some x) e = good_place w (with_def x (del_at x.def (position x.def (term a)))) g (subst (λ (z : List (List ℕ)). 1 < length z) (del_attributes x.def (position x.def (term a))) (g t x e))

-- ---- in the midst of a transaction

abbrev GoodAll : List Catalog → Type 0
GoodAll [] = Unit {0}
GoodAll (w ∷ ws) = IsGood w × GoodAll ws

record GoodMid (m : Mid) : Type 0 where
  now : IsGood m.now
  saved : GoodAll m.saved
  base : IsGood m.base

good_back : (m : Mid) (ws : List Catalog) → GoodAll ws → IsGood m.base → GoodMid (back_to m ws)
good_back m [] g b = record { now = λ n t e. b n t e; saved = tt; base = λ n t e. b n t e }
good_back m (w ∷ ws) g b = record { now = g.0; saved = g.1; base = λ n t e. b n t e }

good_forgotten : (ws : List Catalog) → GoodAll ws → GoodAll (without_innermost ws)
good_forgotten [] g = tt
good_forgotten (w ∷ ws) g = g.1

good_choice : (b : Bool) (m n : Mid) → GoodMid m → GoodMid n → GoodMid (if b then m else n)
good_choice true m n x y = x
good_choice false m n x y = y

good_next : (m : Mid) (x : Move) → GoodMid m → GoodMid (next m x)
good_next m (Do o) g = good_choice (is_some (failure m.now o)) (back m) _ (good_back m m.saved g.saved (λ n t e. g.base n t e)) (record { now = good_by m.now (change_of_op o) (λ n t e. g.now n t e); saved = g.saved; base = λ n t e. g.base n t e })
good_next m Open g = record { now = λ n t e. g.now n t e; saved = ((λ n t e. g.now n t e), g.saved); base = λ n t e. g.base n t e }
good_next m Close g = record { now = λ n t e. g.now n t e; saved = good_forgotten m.saved g.saved; base = λ n t e. g.base n t e }
good_next m Undo g = good_back m m.saved g.saved (λ n t e. g.base n t e)

good_after : (m : Mid) (xs : List Move) → GoodMid m → GoodMid (after m xs)
good_after m [] g = g
good_after m (x ∷ xs) g = good_after (next m x) xs (good_next m x g)

pub good_entry : (w : Catalog) (e : Entry) → IsGood w → IsGood (catalog_after w e)
good_entry w (Committed n s age xs rs over) g = let m = good_after (start w age) xs (record { now = λ n t e. g n t e; saved = tt; base = λ n t e. g n t e }) in λ n t e. m.now n t e
good_entry w (Changed c over) g = good_schema w c g
good_entry w (Subscribed s t l dump) g = g
good_entry w (Unsubscribed s t) g = g

pub good_serial : (w : Catalog) (log : List Entry) → IsGood w → IsGood (serial_from w log)
good_serial w [] g = g
good_serial w (e ∷ log) g = good_serial (catalog_after w e) log (good_entry w e g)

-- ---- what fits such a definition is a record

long : (t : List ℕ) (ts : PlainTerms) (k : ℕ) → 1 < k → (count ts == k) ≡ true → is_record (tuple (one_more (atom t) ts)) ≡ true
long t none k h e = absurd (short k h e)
  where
    short : (k : ℕ) → 1 < k → (0 == k) ≡ true → ⊥
    short k h e = grind (arith, nat_tests)
long t (one_more x none) k h e = absurd (short k h e)
  where
    short : (k : ℕ) → 1 < k → (1 == k) ≡ true → ⊥
    short k h e = grind (arith, nat_tests)
long t (one_more x (one_more y ts)) k h e = refl

fits_record : (def : TableDef) (x : PlainTerm) → 1 < length def.attributes → fits_def def x ≡ true → is_record x ≡ true
fits_record def (tuple (one_more (atom t) ts)) h e = long t ts (length def.attributes) h (and_parts (same (atom t) (atom def.name)) (count ts == length def.attributes) e).1
fits_record def x h e = cc

whole_if : (def : TableDef) (r : PlainTerm) (f : Reply) → 1 < length def.attributes → (b : Bool) → fits_def def r ≡ b → is_some (if b then None else Some f) ≡ false → is_record r ≡ true
whole_if def r f h true e g = fits_record def r h e
whole_if def r f h false e g = cc

abbrev WholeChange : Option Change → Type 0
WholeChange None = Unit {0}
WholeChange (Some c) = is_whole c ≡ true

op_whole : (x : Option Table) (o : Operation) → ((t : Table) → x ≡ Some t → 1 < length t.def.attributes) → is_some (failure_in x o) ≡ false → WholeChange (change_of_op o)
op_whole None o g h = cc
op_whole (Some t) (op.Read n k) g h = tt
op_whole (Some t) (op.ReadForWrite n k) g h = tt
op_whole (Some t) (op.Write r) g h = whole_if t.def (term r) (reply.BadType (t.def).name r) (g t refl) (fits_def t.def (term r)) refl h
op_whole (Some t) (op.Delete n k) g h = refl
op_whole (Some t) (op.DeleteObject r) g h = whole_if t.def (term r) (reply.BadType (t.def).name r) (g t refl) (fits_def t.def (term r)) refl h
op_whole (Some t) (op.IndexRead n x a) g h = tt
op_whole (Some t) (op.MatchObject p) g h = tt
op_whole (Some t) (op.AllKeys n) g h = tt
op_whole (Some t) (op.ReadLockTable n) g h = tt
op_whole (Some t) (op.WriteLockTable n) g h = tt

abbrev pub WholeAll : List Change → Type 0
WholeAll [] = Unit {0}
WholeAll (c ∷ cs) = (is_whole c ≡ true) × WholeAll cs

abbrev WholeLevels : List (List Change) → Type 0
WholeLevels [] = Unit {0}
WholeLevels (cs ∷ saved) = WholeAll cs × WholeLevels saved

whole-push : (cs : List Change) (c : Change) → WholeAll cs → is_whole c ≡ true → WholeAll (cs ++ c ∷ [])
whole-push [] c h e = (e, tt)
whole-push (x ∷ cs) c h e = (h.0, whole-push cs c h.1 e)

whole_with : (cs : List Change) (c : Option Change) → WholeAll cs → WholeChange c → WholeAll (with_change cs c)
whole_with cs None h e = h
whole_with cs (Some c) h e = whole-push cs c h e

whole_top : (saved : List (List Change)) → WholeLevels saved → WholeAll (top_level saved)
whole_top [] h = tt
whole_top (x ∷ saved) h = h.0

whole_drop : (saved : List (List Change)) → WholeLevels saved → WholeLevels (drop_level saved)
whole_drop [] h = tt
whole_drop (x ∷ saved) h = h.1

wholes : (cur : List Change) (saved : List (List Change)) (m : Mid) (xs : List Move) → GoodMid m → WholeAll cur → WholeLevels saved → WholeAll (survivors cur saved xs (replies m xs))
wholes cur saved m [] g h k = h
wholes cur saved m (Do o ∷ xs) g h k =
    by_case (is_failure (Some (answer m.now o))) (reply_tells (find m.now (table_of o)) o)
    (wholes (top_level saved) (drop_level saved) (next m (Do o)) xs (good_next m (Do o) g) (whole_top saved k) (whole_drop saved k))
    (λ e. wholes (with_change cur (change_of_op o)) saved (next m (Do o)) xs (good_next m (Do o) g) (whole_with cur (change_of_op o) h (op_whole (find m.now (table_of o)) o (λ t f. g.now (table_of o) t f) e)) k)
  where
    by_case : (a : Bool) → a ≡ is_some (failure m.now o)
        → WholeAll (survivors (top_level saved) (drop_level saved) xs (replies (next m (Do o)) xs))
        → (is_some (failure m.now o) ≡ false → WholeAll (survivors (with_change cur (change_of_op o)) saved xs (replies (next m (Do o)) xs)))
        → WholeAll (if a then survivors (top_level saved) (drop_level saved) xs (replies (next m (Do o)) xs) else survivors (with_change cur (change_of_op o)) saved xs (replies (next m (Do o)) xs))
    by_case true e p q = p
    by_case false e p q = q (sym e)
wholes cur saved m (Open ∷ xs) g h k = wholes cur (cur ∷ saved) (next m Open) xs (good_next m Open g) h (h, k)
wholes cur saved m (Close ∷ xs) g h k = wholes cur (drop_level saved) (next m Close) xs (good_next m Close g) h (whole_drop saved k)
wholes cur saved m (Undo ∷ xs) g h k = wholes (top_level saved) (drop_level saved) (next m Undo) xs (good_next m Undo g) (whole_top saved k) (whole_drop saved k)

-- what survives a transaction on good tables is whole
pub surviving_whole : (w : Catalog) (age : ℕ) (xs : List Move) → IsGood w → WholeAll (surviving_changes xs (replies (start w age) xs))
surviving_whole w age xs g = wholes [] [] (start w age) xs (record { now = λ n t e. g n t e; saved = tt; base = λ n t e. g n t e }) tt tt
