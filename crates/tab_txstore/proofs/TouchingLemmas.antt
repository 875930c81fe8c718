-- A table's touched keys, changed where they stand, or put for the first time.
use Rattle.std.proofs.Common.{◌≡◌, ℕ, List, [], ◌∷◌, ◌++◌, true, false, refl, sym, ap, ◌∙◌, Option, Some, None}
use Rattle.std.specs.Prelude.{is_some}
use Rattle.std.specs.Prelude.{if◌then◌else◌}
use Rattle.tab_term.specs.declared.term.Term.{Term}
use Rattle.tab_term.specs.Data.{PlainTerms}
use Rattle.tab_term.specs.View.{term}
use Rattle.tab_term.specs.Order.{bytes_cmp, term_cmp}
use Rattle.tab_records.specs.Forms.{with_one}
use Rattle.tab_model.specs.declared.data.Change.{Change}
use Rattle.tab_model.specs.declared.data.Kind.{Kind}
use Rattle.tab_model.specs.Names.{plain_terms, terms_list}
use Rattle.tab_model.specs.Operations.{key_of_change}
use Rattle.tab_model.specs.Shapes.{term_value}
use Rattle.tab_model.specs.Tables.{at}
use Rattle.tab_model.specs.Catalogs.{Table}
use Rattle.tab_txstore.specs.Kept.{Appends}
use Rattle.tab_map.specs.Entries.{lookup, insert_entry}
use Rattle.tab_map.specs.Revised.{revised_as, revised_at}
use Rattle.tab_txstore.specs.Overlays.{Touched, Overlay, touched, touched_in, or_committed, seen_at, left, touch}
use Rattle.tab_model.proofs.ShapeLaws.{held_term}

there_as : (f : Touched → Touched) (t : List ℕ) (v : Overlay) (o : Option Touched) → is_some o ≡ true → revised_as bytes_cmp f t v o ≡ insert_entry bytes_cmp (t, f (touched_in o)) v
there_as f t v None h = absurd cc
there_as f t v (Some es) h = refl

pub revised_there : (f : Touched → Touched) (t : List ℕ) (v : Overlay) → is_some (lookup bytes_cmp t v) ≡ true → revised_at bytes_cmp f t v ≡ insert_entry bytes_cmp (t, f (touched v t)) v
revised_there f t v h = there_as f t v (lookup bytes_cmp t v) h

absent_as : (o : Option Touched) → is_some o ≡ false → [] ≡ touched_in o
absent_as None h = refl
absent_as (Some es) h = absurd cc

pub first_touched : (f : Touched → Touched) (t : List ℕ) (v : Overlay) → is_some (lookup bytes_cmp t v) ≡ false → insert_entry bytes_cmp (t, f []) v ≡ insert_entry bytes_cmp (t, f (touched v t)) v
first_touched f t v h = ap (λ es. insert_entry bytes_cmp (t, f es) v) (absent_as (lookup bytes_cmp t v) h)

-- ---- one more record at a key that was touched

some_table : (t : List ℕ) (v : Overlay) (k : Term) (ts : PlainTerms) → lookup term_cmp k (touched v t) ≡ Some ts → is_some (lookup bytes_cmp t v) ≡ true
some_table t v k ts h = by (lookup bytes_cmp t v) h
  where
    by : (o : Option Touched) → lookup term_cmp k (touched_in o) ≡ Some ts → is_some o ≡ true
    by None e = absurd cc
    by (Some es) e = refl

pub appends_there : (x : Table) (v : Overlay) (k : Term) (c : Change) (r : Term) (name : List ℕ) → name ≡ x.def.name → Appends x v k c r → is_some (lookup bytes_cmp name v) ≡ true
appends_there x v k c r name n a = ap (λ m. is_some (lookup bytes_cmp m v)) n ∙ some_table x.def.name v k a.records a.there

pub appended_touch : (x : Table) (v : Overlay) (k : Term) (c : Change) (r row : Term) (name : List ℕ) (v' : Overlay) → name ≡ x.def.name → term k ≡ key_of_change c → row ≡ r → Appends x v k c r
    → v' ≡ insert_entry bytes_cmp (name, revised_at term_cmp (λ records. with_one records (term row)) k (touched v name)) v → v' ≡ touch x v c
appended_touch x v k c r row name v' n kc rr a vs =
    vs ∙ ap (λ m. insert_entry bytes_cmp (m, revised_at term_cmp (λ records. with_one records (term row)) k (touched v m)) v) n
    ∙ ap (λ es. insert_entry bytes_cmp (x.def.name, es) v) (ap (revised_as term_cmp (λ records. with_one records (term row)) k (touched v x.def.name)) a.there
    ∙ ap (λ ts. insert_entry term_cmp (k, ts) (touched v x.def.name)) after
    ∙ ap (λ q. insert_entry term_cmp (q, plain_terms (left x.def.kind (seen_at (touched v x.def.name) x.rows (key_of_change c)) c)) (touched v x.def.name)) (sym (held_term k) ∙ ap term_value kc))
  where
    seen_is : seen_at (touched v x.def.name) x.rows (key_of_change c) ≡ terms_list a.records
    seen_is = ap (λ q. seen_at (touched v x.def.name) x.rows q) (sym kc) ∙ ap (λ q. or_committed (lookup term_cmp q (touched v x.def.name)) (at x.rows (term k))) (held_term k) ∙ ap (λ o. or_committed o (at x.rows (term k))) a.there

    after : with_one a.records (term row) ≡ plain_terms (left x.def.kind (seen_at (touched v x.def.name) x.rows (key_of_change c)) c)
    after = ap (λ z. with_one a.records (term z)) rr
        ∙ ap (λ b. if b then a.records else plain_terms (terms_list a.records ++ term r ∷ [])) a.new
        ∙ ap (λ b. plain_terms (if b then terms_list a.records else terms_list a.records ++ term r ∷ [])) (sym a.new)
        ∙ ap (λ z. plain_terms (left Rattle.tab_model.specs.declared.data.Kind.TheVariants.Bag z (Rattle.tab_model.specs.declared.data.Change.TheVariants.Write r))) (sym seen_is)
        ∙ ap (λ z. plain_terms (left z (seen_at (touched v x.def.name) x.rows (key_of_change c)) (Rattle.tab_model.specs.declared.data.Change.TheVariants.Write r))) (sym a.kind)
        ∙ ap (λ z. plain_terms (left x.def.kind (seen_at (touched v x.def.name) x.rows (key_of_change c)) z)) (sym a.write)
