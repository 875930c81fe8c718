-- The changes that a legal log made to a table give its rows.
use Rattle.std.proofs.Common.{◌≡◌, ℕ, List, [], ◌∷◌, ◌++◌, Bool, true, false, ◌||◌, refl, sym, ap, ◌∙◌, subst, Option, Some, None}
use Rattle.std.specs.Prelude.{if◌then◌else◌, map}
use Rattle.std.specs.Str.{bytes_eq}
use Rattle.std.specs.List.{filter, list_any}
use Rattle.std.proofs.lemmas.Bool.{false≢true, or_parts}
use Rattle.std.proofs.lemmas.Slice.Eq.{bytes_eq-Decides}
use Rattle.tab_term.specs.View.{term}
use Rattle.tab_model.specs.declared.data.Kind.{Kind}
use Rattle.tab_model.specs.declared.data.TableDef.{TableDef}
use Rattle.tab_model.specs.declared.data.Change.{Change}
use Rattle.tab_model.specs.declared.data.Level.{Level}
use Rattle.tab_model.specs.declared.data.Schema.{Schema}
use Rattle.tab_model.specs.declared.data.Schema.TheVariants.{Create, Remove, AddIndex, DelIndex}
use Rattle.tab_model.specs.declared.data.Entry.{Entry}
use Rattle.tab_model.specs.declared.data.Entry.TheVariants.{Committed, Changed, Subscribed, Unsubscribed}
use Rattle.tab_model.specs.Definitions.{position}
use Rattle.tab_model.specs.Tables.{Rows, apply, rows_after}
use Rattle.tab_model.specs.Catalogs.{Catalog, Table, find, place, rows_in, rows_of, with_rows, with_def}
use Rattle.tab_model.specs.Operations.{table_of_change, change_table, change_catalog}
use Rattle.tab_model.specs.Events.{surviving_changes, change_all, events}
use Rattle.tab_model.specs.Schemas.{table_of_schema, schema_refusal, schema_effect, create_refusal, add_at, del_at, add_effect, del_effect}
use Rattle.tab_model.specs.Log.{catalog_after, serial, serial_from, IsRight, IsLegal, count_after, commits_from}
use Rattle.tab_model.specs.Since.{is_of, changes_in, changes_on, is_deletion_of, is_overflow_of, is_unsubscription_of, is_end_of, IsInForceSince}
use Rattle.tab_model.specs.Slices.{dump_of}
use Rattle.tab_model.specs.Names.{plain_terms, terms_list}
use Rattle.tab_model.specs.declared.data.Event.{Event}
use Rattle.tab_term.specs.Data.{PlainTerms}
use Rattle.tab_model.proofs.ChangeLaws.{find-place}
use Rattle.tab_model.proofs.RepliesStay.{eq_names, find_name}
use Rattle.tab_model.proofs.CatalogsOrdered.{schema_elsewhere}
use Rattle.tab_model.proofs.SurvivorsRight.{survivors_are}

same_name : (t : List ℕ) → bytes_eq t t ≡ true
same_name t = (bytes_eq-Decides t t).1 refl

-- one change, seen at the table
changed_here : (w : Catalog) (x : Table) (t : List ℕ) (c : Change) → find w t ≡ Some x → bytes_eq (table_of_change c) t ≡ true → find (change_catalog w c) t ≡ Some (with_rows x (apply x.def.kind x.rows c))
changed_here w x t c f e =
    ap (λ (o : Option Table). find (change_table w o c) t) (ap (find w) (eq_names (table_of_change c) t e) ∙ f)
    ∙ find-place w (with_rows x (apply x.def.kind x.rows c)) t
    ∙ ap (λ b. if b then Some (with_rows x (apply x.def.kind x.rows c)) else find w t) (ap (λ n. bytes_eq n t) (find_name w t x f) ∙ same_name t)

changed_there : (w : Catalog) (t : List ℕ) (c : Change) → bytes_eq (table_of_change c) t ≡ false → find (change_catalog w c) t ≡ find w t
changed_there w t c e = cases (find w (table_of_change c)) refl
  where
    cases : (o : Option Table) → find w (table_of_change c) ≡ o → find (change_table w o c) t ≡ find w t
    cases None f = refl
    cases (Some y) f =
        find-place w (with_rows y (apply y.def.kind y.rows c)) t
        ∙ ap (λ b. if b then Some (with_rows y (apply y.def.kind y.rows c)) else find w t) (ap (λ n. bytes_eq n t) (find_name w (table_of_change c) y f) ∙ e)

-- many changes
changed_all : (w : Catalog) (x : Table) (t : List ℕ) (cs : List Change) → find w t ≡ Some x → find (change_all w cs) t ≡ Some (with_rows x (rows_after x.def.kind x.rows (filter (is_of t) cs)))
changed_all w x t [] f = f
changed_all w x t (c ∷ cs) f = cases (bytes_eq (table_of_change c) t) refl
    (λ e. changed_all (change_catalog w c) (with_rows x (apply x.def.kind x.rows c)) t cs (changed_here w x t c f e))
    (λ e. changed_all (change_catalog w c) x t cs (changed_there w t c e ∙ f))
  where
    rest : List Change
    rest = filter (is_of t) cs

    cases : (b : Bool) → bytes_eq (table_of_change c) t ≡ b
        → (bytes_eq (table_of_change c) t ≡ true → find (change_all (change_catalog w c) cs) t ≡ Some (with_rows x (rows_after x.def.kind (apply x.def.kind x.rows c) rest)))
        → (bytes_eq (table_of_change c) t ≡ false → find (change_all (change_catalog w c) cs) t ≡ Some (with_rows x (rows_after x.def.kind x.rows rest)))
        → find (change_all (change_catalog w c) cs) t ≡ Some (with_rows x (rows_after x.def.kind x.rows (if b then c ∷ rest else rest)))
    cases true e here there = here e
    cases false e here there = there e

applied-append : (kind : Kind) (rows : Rows) (cs ds : List Change) → rows_after kind rows (cs ++ ds) ≡ rows_after kind (rows_after kind rows cs) ds
applied-append kind rows [] ds = refl
applied-append kind rows (c ∷ cs) ds = applied-append kind (apply kind rows c) cs ds

-- the table that stands of a name, of that kind and with these rows
pub record Stands (w : Catalog) (t : List ℕ) (kind : Kind) (rows : Rows) : Type 0 where
  pub table : Table
  pub is : find w t ≡ Some table
  pub kind_is : table.def.kind ≡ kind
  pub rows_are : table.rows ≡ rows

add_kind : (def : TableDef) (p : Option ℕ) → (add_at def p).kind ≡ def.kind
add_kind def None = refl
add_kind def (Some p) = refl

del_kind : (def : TableDef) (p : Option ℕ) → (del_at def p).kind ≡ def.kind
del_kind def None = refl
del_kind def (Some p) = refl

defined_again : (w : Catalog) (x : Table) (t : List ℕ) (d : TableDef) → find w t ≡ Some x → d.name ≡ x.def.name → find (place w (with_def x d)) t ≡ Some (with_def x d)
defined_again w x t d f n = find-place w (with_def x d) t ∙ ap (λ b. if b then Some (with_def x d) else find w t) (ap (λ m. bytes_eq m t) (n ∙ find_name w t x f) ∙ same_name t)

add_name : (def : TableDef) (p : Option ℕ) → (add_at def p).name ≡ def.name
add_name def None = refl
add_name def (Some p) = refl

del_name : (def : TableDef) (p : Option ℕ) → (del_at def p).name ≡ def.name
del_name def None = refl
del_name def (Some p) = refl

-- a schema command on the table itself that doesn't delete it
schema_here : (w : Catalog) (x : Table) (t : List ℕ) (c : Schema) → find w t ≡ Some x → table_of_schema c ≡ t → schema_refusal w c ≡ None → is_deletion_of t (Changed c []) ≡ false → Stands (schema_effect w c) t x.def.kind x.rows
schema_here w x t (Create u os) f e r d = let g : find w u ≡ Some x = ap (find w) e ∙ f in let h : create_refusal u os (Some x) ≡ None = ap (create_refusal u os) (sym g) ∙ r in cc
schema_here w x t (Remove u) f e r d = absurd (false≢true (sym d ∙ ap (λ n. bytes_eq n t) e ∙ same_name t))
schema_here w x t (AddIndex u a) f e r d = let def : TableDef = add_at x.def (position x.def (term a)) in record {
  table = with_def x def;
  is = ap (λ (o : Option Table). find (add_effect w a o) t) (ap (find w) e ∙ f) ∙ defined_again w x t def f (add_name x.def (position x.def (term a)));
  kind_is = add_kind x.def (position x.def (term a));
  rows_are = refl;
}
schema_here w x t (DelIndex u a) f e r d = let def : TableDef = del_at x.def (position x.def (term a)) in record {
  table = with_def x def;
  is = ap (λ (o : Option Table). find (del_effect w a o) t) (ap (find w) e ∙ f) ∙ defined_again w x t def f (del_name x.def (position x.def (term a)));
  kind_is = del_kind x.def (position x.def (term a));
  rows_are = refl;
}

-- one entry
entry_gives : (w : Catalog) (n : ℕ) (x : Table) (t : List ℕ) (e : Entry) → IsRight w n e → find w t ≡ Some x → is_deletion_of t e ≡ false → Stands (catalog_after w e) t x.def.kind (rows_after x.def.kind x.rows (changes_in t e))
entry_gives w n x t (Committed m s age xs rs over) r f d = record {
  table = with_rows x (rows_after x.def.kind x.rows (filter (is_of t) (surviving_changes xs rs)));
  is = ap (λ v. find v t) (sym (survivors_are w age xs) ∙ ap (λ q. change_all w (surviving_changes xs q)) r.1) ∙ changed_all w x t (surviving_changes xs rs) f;
  kind_is = refl;
  rows_are = refl;
}
entry_gives w n x t (Changed c over) r f d = cases (bytes_eq (table_of_schema c) t) refl
  where
    cases : (b : Bool) → bytes_eq (table_of_schema c) t ≡ b → Stands (schema_effect w c) t x.def.kind x.rows
    cases true e = schema_here w x t c f (eq_names (table_of_schema c) t e) r d
    cases false e = record { table = x; is = schema_elsewhere w c t e ∙ f; kind_is = refl; rows_are = refl }
entry_gives w n x t (Subscribed s u l dump) r f d = record { table = x; is = f; kind_is = refl; rows_are = refl }
entry_gives w n x t (Unsubscribed s u) r f d = record { table = x; is = f; kind_is = refl; rows_are = refl }

-- a whole log
pub log_gives : (w : Catalog) (n : ℕ) (x : Table) (t : List ℕ) (log : List Entry) → IsLegal w n log → find w t ≡ Some x → list_any (is_deletion_of t) log ≡ false → Stands (serial_from w log) t x.def.kind (rows_after x.def.kind x.rows (changes_on t log))
log_gives w n x t [] l f d = record { table = x; is = f; kind_is = refl; rows_are = refl }
log_gives w n x t (e ∷ log) l f d =
    let p = or_parts (is_deletion_of t e) (list_any (is_deletion_of t) log) d in
    let one = entry_gives w n x t e l.0 f p.0 in
    let rest = log_gives (catalog_after w e) (count_after n e) one.table t log l.1 one.is p.1 in
    record {
      table = rest.table;
      is = rest.is;
      kind_is = rest.kind_is ∙ one.kind_is;
      rows_are = rest.rows_are ∙ (λ i. rows_after (one.kind_is i) (one.rows_are i) (changes_on t log)) ∙ sym (applied-append x.def.kind x.rows (changes_in t e) (changes_on t log));
    }

-- the table's rows after a legal log that doesn't delete it are its rows before with the log's changes applied
pub log_applies : (w : Catalog) (n : ℕ) (x : Table) (t : List ℕ) (log : List Entry) → IsLegal w n log → find w t ≡ Some x → list_any (is_deletion_of t) log ≡ false → rows_of (serial_from w log) t ≡ rows_after x.def.kind (rows_of w t) (changes_on t log)
log_applies w n x t log l f d =
    let s = log_gives w n x t log l f d in
    ap rows_in s.is ∙ s.rows_are ∙ ap (λ (o : Option Table). rows_after x.def.kind (rows_in o) (changes_on t log)) (sym f)

or_both : (a b : Bool) → a ≡ false → b ≡ false → (a || b) ≡ false
or_both true b h k = cc
or_both false b h k = k

-- who isn't told of an end isn't told of a deletion
not_deleted : (s : ℕ) (t : List ℕ) (log : List Entry) → list_any (is_end_of s t) log ≡ false → list_any (is_deletion_of t) log ≡ false
not_deleted s t [] h = refl
not_deleted s t (e ∷ log) h =
    let p = or_parts (is_end_of s t e) (list_any (is_end_of s t) log) h in
    let q = or_parts (is_unsubscription_of s t e) (is_deletion_of t e || is_overflow_of s e) p.0 in
    or_both (is_deletion_of t e) (list_any (is_deletion_of t) log) (or_parts (is_deletion_of t e) (is_overflow_of s e) q.1).0 (not_deleted s t log p.1)

pub serial-append : (w : Catalog) (xs ys : List Entry) → serial_from w (xs ++ ys) ≡ serial_from (serial_from w xs) ys
serial-append w [] ys = refl
serial-append w (x ∷ xs) ys = serial-append (catalog_after w x) xs ys

pub legal-rest : (w : Catalog) (n : ℕ) (xs ys : List Entry) → IsLegal w n (xs ++ ys) → IsLegal (serial_from w xs) (commits_from n xs) ys
legal-rest w n [] ys l = l
legal-rest w n (x ∷ xs) ys l = legal-rest (catalog_after w x) (count_after n x) xs ys l.1

-- the changes since a subscription that stands, applied to the rows at its beginning, give the rows now
pub since_applies : (s : ℕ) (t : List ℕ) (l : Level) (log : List Entry) (x : Table) → IsLegal [] 0 log → (i : IsInForceSince s t l log) → find (serial i.earlier) t ≡ Some x → rows_of (serial log) t ≡ rows_after x.def.kind (rows_of (serial i.earlier) t) (changes_on t i.since)
since_applies s t l log x legal i f =
    let parts : IsLegal [] 0 (i.earlier ++ Subscribed s t l i.dump ∷ i.since) = subst (λ (ys : List Entry). IsLegal [] 0 ys) i.is legal in
    let rest = legal-rest [] 0 i.earlier (Subscribed s t l i.dump ∷ i.since) parts in
    ap (λ (ys : List Entry). rows_of (serial ys) t) i.is
    ∙ ap (λ v. rows_of v t) (serial-append [] i.earlier (Subscribed s t l i.dump ∷ i.since))
    ∙ log_applies (serial i.earlier) (commits_from 0 i.earlier) x t i.since rest.1 f (not_deleted s t i.since i.not_ended)

-- a list of terms and back
pub terms_back : (rs : Rows) → terms_list (plain_terms rs) ≡ rs
terms_back [] = refl
terms_back (r ∷ rs) = ap (λ xs. r ∷ xs) (terms_back rs)

-- a dump is the rows
pub dump_rows : (w : Catalog) (t : List ℕ) (records : PlainTerms) → dump_of w t true ≡ Some records → terms_list records ≡ rows_of w t
dump_rows w t records h = let e : plain_terms (rows_of w t) ≡ records = cc in ap terms_list (sym e) ∙ terms_back (rows_of w t)

pub dump_applies : (s : ℕ) (t : List ℕ) (l : Level) (log : List Entry) (x : Table) (records : PlainTerms) → IsLegal [] 0 log → (i : IsInForceSince s t l log) → find (serial i.earlier) t ≡ Some x → dump_of (serial i.earlier) t i.dump ≡ Some records → rows_of (serial log) t ≡ rows_after x.def.kind (terms_list records) (changes_on t i.since)
dump_applies s t l log x records legal i f d =
    since_applies s t l log x legal i f ∙ ap (λ rs. rows_after x.def.kind rs (changes_on t i.since)) (sym (cases i.dump d))
  where
    cases : (b : Bool) → dump_of (serial i.earlier) t b ≡ Some records → terms_list records ≡ rows_of (serial i.earlier) t
    cases true h = dump_rows (serial i.earlier) t records h
    cases false h = cc

-- the events of updates carry these updates
pub events_carry : (w : Catalog) (age : ℕ) (cs : List Change) → map (λ (e : Event). e.change) (events w age cs) ≡ cs
events_carry w age [] = refl
events_carry w age (c ∷ cs) = ap (λ xs. c ∷ xs) (events_carry (change_catalog w c) age cs)
