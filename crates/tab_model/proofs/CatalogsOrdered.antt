-- What a transaction and a schema command leave of the tables: their order, and the tables that they don't speak of.
use Rattle.std.proofs.Common.{◌≡◌, ℕ, List, [], ◌∷◌, Bool, true, false, not, refl, sym, ap, ◌∙◌, subst, Option, Some, None}
use Rattle.std.specs.Prelude.{if◌then◌else◌, codes}
use Rattle.std.specs.Str.{bytes_eq}
use Rattle.std.specs.List.{list_any}
use Rattle.std.proofs.lemmas.Bool.{false≢true, not-true, or_parts}
use Rattle.std.proofs.lemmas.Slice.Eq.{bytes_eq-Decides}
use Rattle.tab_term.specs.Data.{PlainTerm, int, atom, tuple, list, bin, map, PlainTerms, none}
use Rattle.tab_term.specs.View.{term}
use Rattle.tab_model.specs.declared.data.TableDef.{TableDef}
use Rattle.tab_model.specs.declared.data.Operation.{Operation}
use Rattle.tab_model.specs.declared.data.Operation.TheVariants as op
use Rattle.tab_model.specs.declared.data.Move.{Move}
use Rattle.tab_model.specs.declared.data.Move.TheVariants.{Do, Open, Close, Undo}
use Rattle.tab_model.specs.declared.data.Schema.{Schema}
use Rattle.tab_model.specs.declared.data.Schema.TheVariants.{Create, Remove, AddIndex, DelIndex}
use Rattle.tab_model.specs.Tables.{is_ordered}
use Rattle.tab_model.specs.Definitions.{Parsed, Good, Bad, parse_options, without_fault, with_names, with_index_option, with_entries, kind_in, first_fault, bad_option, position, value_of}
use Rattle.tab_model.specs.Catalogs.{Catalog, Table, IsOrderedCatalog, name_of, find, place, with_def}
use Rattle.tab_model.specs.Operations.{table_of}
use Rattle.tab_model.specs.Alone.{start, after}
use Rattle.tab_model.specs.Locks.{Part, All, Key, Lock, needs, locks_of}
use Rattle.tab_model.specs.Schemas.{table_of_schema, schema_effect, create_parsed, add_at, del_at, add_effect, del_effect}
use Rattle.tab_model.proofs.ChangeLaws.{find-place, find-without}
use Rattle.tab_model.proofs.RepliesStay.{find_name, AgreeTab, Agree, SeesPart, SeesAll, WritesAll, keeps_after}
use Rattle.tab_model.proofs.LocksApart.{agree_self}

-- ---- tables stay in order through a transaction

abbrev no_cell : List ℕ → PlainTerm → Bool
no_cell t k = false

abbrev all_tables : List ℕ → Bool
all_tables t = true

writes_free : (xs : List Move) → WritesAll no_cell all_tables xs
writes_free [] = tt
writes_free (Do (op.Read t k) ∷ xs) = (tt, writes_free xs)
writes_free (Do (op.ReadForWrite t k) ∷ xs) = (tt, writes_free xs)
writes_free (Do (op.Write r) ∷ xs) = ((refl, refl), writes_free xs)
writes_free (Do (op.Delete t k) ∷ xs) = ((refl, refl), writes_free xs)
writes_free (Do (op.DeleteObject r) ∷ xs) = ((refl, refl), writes_free xs)
writes_free (Do (op.IndexRead t x a) ∷ xs) = (tt, writes_free xs)
writes_free (Do (op.MatchObject p) ∷ xs) = (tt, writes_free xs)
writes_free (Do (op.AllKeys t) ∷ xs) = (tt, writes_free xs)
writes_free (Do (op.ReadLockTable t) ∷ xs) = (tt, writes_free xs)
writes_free (Do (op.WriteLockTable t) ∷ xs) = (tt, writes_free xs)
writes_free (Open ∷ xs) = (tt, writes_free xs)
writes_free (Close ∷ xs) = (tt, writes_free xs)
writes_free (Undo ∷ xs) = (tt, writes_free xs)

right_ordered : (f : PlainTerm → Bool) (x y : Option Table) (t : Table) → AgreeTab f x y → y ≡ Some t → is_ordered t.rows ≡ true
right_ordered f (Some x) (Some y) t a e = let h : y ≡ t = cc in ap (λ z. is_ordered z.rows) (sym h) ∙ a.ordered'
right_ordered f None (Some y) t a e = absurd a
right_ordered f None None t a e = cc
right_ordered f (Some x) None t a e = cc

pub ordered-after : (w : Catalog) (age : ℕ) (xs : List Move) → IsOrderedCatalog w → IsOrderedCatalog (after (start w age) xs).now
ordered-after w age xs o n t e =
    let self = agree_self no_cell w o in
    let kept = keeps_after no_cell all_tables w (start w age) xs (record { now = λ u d. self u d; saved = tt; base = λ u d. self u d }) (writes_free xs) in
    right_ordered (no_cell n) (find w n) (find (after (start w age) xs).now n) t (kept.now n refl) e

-- ---- schema commands

-- a definition has the name that it was made for
indexed_name : (def : TableDef) (es : PlainTerms) (f : Option PlainTerm) (d : TableDef) → with_entries def es f ≡ Good d → def.name ≡ d.name
indexed_name def es (Some e) d h = cc
indexed_name def es None d h = cc

with_index_name : (def : TableDef) (t : PlainTerm) (d : TableDef) → with_index_option def t ≡ Good d → def.name ≡ d.name
with_index_name def (list es) d h = indexed_name def es (first_fault def es) d h
with_index_name def (int z) d h = cc
with_index_name def (atom s) d h = cc
with_index_name def (tuple ts) d h = cc
with_index_name def (bin b) d h = cc
with_index_name def (map ps) d h = cc

with_names_name : (tab : List ℕ) (os : PlainTerms) (ns : Option (List (List ℕ))) (d : TableDef) → with_names tab os ns ≡ Good d → tab ≡ d.name
with_names_name tab os None d h = cc
with_names_name tab os (Some names) d h = with_index_name (record { name = tab; kind = kind_in (value_of tab (codes "type") (atom (codes "set")) os); attributes = names; indexes = [] }) (value_of tab (codes "index") (list none) os) d h

without_fault_name : (tab : List ℕ) (os : PlainTerms) (f : Option PlainTerm) (d : TableDef) → without_fault tab os f ≡ Good d → tab ≡ d.name
without_fault_name tab os (Some o) d h = cc
without_fault_name tab os None d h = with_names_name tab os _ d h

pub parsed_name : (tab : List ℕ) (os : PlainTerms) (d : TableDef) → parse_options tab os ≡ Good d → tab ≡ d.name
parsed_name tab os d h = without_fault_name tab os (bad_option tab [] os) d h

add_at_name : (def : TableDef) (p : Option ℕ) → (add_at def p).name ≡ def.name
add_at_name def None = refl
add_at_name def (Some p) = refl

del_at_name : (def : TableDef) (p : Option ℕ) → (del_at def p).name ≡ def.name
del_at_name def None = refl
del_at_name def (Some p) = refl

-- a table of that name is placed, with rows in order
placed_elsewhere : (w : Catalog) (x : Table) (t u : List ℕ) → name_of x ≡ t → bytes_eq t u ≡ false → find (place w x) u ≡ find w u
placed_elsewhere w x t u n e = find-place w x u ∙ ap (λ b. if b then Some x else find w u) (ap (λ m. bytes_eq m u) n ∙ e)

placed_ordered : (w : Catalog) (x : Table) → IsOrderedCatalog w → is_ordered x.rows ≡ true → IsOrderedCatalog (place w x)
placed_ordered w x o h n t e = cases (bytes_eq (name_of x) n) (sym (find-place w x n) ∙ e)
  where
    cases : (b : Bool) → (if b then Some x else find w n) ≡ Some t → is_ordered t.rows ≡ true
    cases true f = let g : x ≡ t = cc in ap (λ z. is_ordered z.rows) (sym g) ∙ h
    cases false f = o n t f

-- a schema command leaves the other tables as they are
pub schema_elsewhere : (w : Catalog) (c : Schema) (u : List ℕ) → bytes_eq (table_of_schema c) u ≡ false → find (schema_effect w c) u ≡ find w u
schema_elsewhere w (Create t os) u e = cases (parse_options t os) refl
  where
    cases : (p : Parsed) → parse_options t os ≡ p → find (create_parsed w p) u ≡ find w u
    cases (Good d) h = placed_elsewhere w (record { def = d; rows = [] }) t u (sym (parsed_name t os d h)) e
    cases (Bad x) h = refl
schema_elsewhere w (Remove t) u e = find-without w t u ∙ ap (λ b. if b then None else find w u) e
schema_elsewhere w (AddIndex t a) u e = cases (find w t) refl
  where
    cases : (x : Option Table) → find w t ≡ x → find (add_effect w a x) u ≡ find w u
    cases None h = refl
    cases (Some x) h = placed_elsewhere w (with_def x (add_at x.def (position x.def (term a)))) t u (add_at_name x.def (position x.def (term a)) ∙ find_name w t x h) e
schema_elsewhere w (DelIndex t a) u e = cases (find w t) refl
  where
    cases : (x : Option Table) → find w t ≡ x → find (del_effect w a x) u ≡ find w u
    cases None h = refl
    cases (Some x) h = placed_elsewhere w (with_def x (del_at x.def (position x.def (term a)))) t u (del_at_name x.def (position x.def (term a)) ∙ find_name w t x h) e

pub schema_ordered : (w : Catalog) (c : Schema) → IsOrderedCatalog w → IsOrderedCatalog (schema_effect w c)
schema_ordered w (Create t os) o = cases (parse_options t os)
  where
    cases : (p : Parsed) → IsOrderedCatalog (create_parsed w p)
    cases (Good d) = placed_ordered w (record { def = d; rows = [] }) o refl
    cases (Bad x) = o
schema_ordered w (Remove t) o = λ n x e. cases n x (bytes_eq t n) (sym (find-without w t n) ∙ e)
  where
    cases : (n : List ℕ) (x : Table) (b : Bool) → (if b then None else find w n) ≡ Some x → is_ordered x.rows ≡ true
    cases n x true f = cc
    cases n x false f = o n x f
schema_ordered w (AddIndex t a) o = cases (find w t) refl
  where
    cases : (x : Option Table) → find w t ≡ x → IsOrderedCatalog (add_effect w a x)
    cases None h = o
    cases (Some x) h = placed_ordered w (with_def x (add_at x.def (position x.def (term a)))) o (o t x h)
schema_ordered w (DelIndex t a) o = cases (find w t) refl
  where
    cases : (x : Option Table) → find w t ≡ x → IsOrderedCatalog (del_effect w a x)
    cases None h = o
    cases (Some x) h = placed_ordered w (with_def x (del_at x.def (position x.def (term a)))) o (o t x h)

-- ---- who holds no lock in a table sees nothing of it

abbrev pub not_at : List ℕ → List ℕ → Bool
not_at t u = not (bytes_eq u t)

abbrev pub no_cell_of : List ℕ → List ℕ → PlainTerm → Bool
no_cell_of t u k = not (bytes_eq u t)

sees_part : (b : Bool) (p : Part) → b ≡ true → SeesPart (λ k. b) p
sees_part b All h = λ k. h
sees_part b (Key k) h = h

needs_table : (o : Operation) → (needs o).table ≡ table_of o
needs_table (op.Read t k) = refl
needs_table (op.ReadForWrite t k) = refl
needs_table (op.Write r) = refl
needs_table (op.Delete t k) = refl
needs_table (op.DeleteObject r) = refl
needs_table (op.IndexRead t x a) = refl
needs_table (op.MatchObject p) = refl
needs_table (op.AllKeys t) = refl
needs_table (op.ReadLockTable t) = refl
needs_table (op.WriteLockTable t) = refl

pub sees_not : (t : List ℕ) (xs : List Move) → list_any (λ (l : Lock). bytes_eq l.table t) (locks_of xs) ≡ false → SeesAll (no_cell_of t) (not_at t) xs
sees_not t [] h = tt
sees_not t (Do o ∷ xs) h =
    let p = or_parts (bytes_eq (needs o).table t) (list_any (λ (l : Lock). bytes_eq l.table t) (locks_of xs)) h in
    let away : not (bytes_eq (table_of o) t) ≡ true = ap (λ n. not (bytes_eq n t)) (sym (needs_table o)) ∙ ap not p.0 in
    ((away, sees_part (not (bytes_eq (table_of o) t)) (needs o).part away), sees_not t xs p.1)
sees_not t (Open ∷ xs) h = (tt, sees_not t xs h)
sees_not t (Close ∷ xs) h = (tt, sees_not t xs h)
sees_not t (Undo ∷ xs) h = (tt, sees_not t xs h)

names_sym : (t u : List ℕ) → bytes_eq u t ≡ false → bytes_eq t u ≡ false
names_sym t u h = cases (bytes_eq t u) refl
  where
    cases : (b : Bool) → bytes_eq t u ≡ b → b ≡ false
    cases false e = refl
    cases true e = absurd (false≢true (sym h ∙ (bytes_eq-Decides u t).1 (sym ((bytes_eq-Decides t u).0 e))))

pub agree_elsewhere : (w : Catalog) (c : Schema) → IsOrderedCatalog w → Agree (no_cell_of (table_of_schema c)) (not_at (table_of_schema c)) (schema_effect w c) w
agree_elsewhere w c o u d =
    subst (λ (x : Option Table). AgreeTab (no_cell_of (table_of_schema c) u) x (find w u))
    (sym (schema_elsewhere w c u (names_sym (table_of_schema c) u (not-true (bytes_eq u (table_of_schema c)) d))))
    (agree_self (no_cell_of (table_of_schema c)) w o u refl)
