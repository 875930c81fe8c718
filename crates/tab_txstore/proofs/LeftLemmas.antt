-- The records found under a key, and what a change leaves of them.
use Rattle.std.proofs.Common.{◌≡◌, ℕ, List, [], ◌∷◌, refl, sym, ap, ap₂, ◌∙◌, Some, None}
use Rattle.tab_term.specs.declared.term.Term.{Term}
use Rattle.tab_term.specs.Data.{PlainTerms}
use Rattle.tab_term.specs.Order.{bytes_cmp, term_cmp}
use Rattle.tab_term.specs.View.{term}
use Rattle.tab_map.specs.Entries.{lookup, insert_entry}
use Rattle.tab_model.specs.OnlyRecords.{IsOnly}
use Rattle.tab_model.specs.declared.data.Change.{Change}
use Rattle.tab_model.specs.declared.data.Change.TheVariants.{Write}
use Rattle.tab_model.specs.declared.data.Kind.TheVariants.{Set}
use Rattle.tab_model.specs.Names.{plain_terms, terms_list}
use Rattle.tab_model.specs.Tables.{Rows, at}
use Rattle.tab_model.specs.Operations.{key_of_change}
use Rattle.tab_model.specs.Catalogs.{Table}
use Rattle.tab_model.specs.Shapes.{term_value}
use Rattle.tab_model.proofs.ShapeLaws.{held_term}
use Rattle.tab_lists.proofs.ListsLemmas.{plain-list}
use Rattle.tab_txstore.specs.Overlays.{Touched, Overlay, touched_in, touched, or_committed, seen_at, left, touch}

pub seen_found : (v : Overlay) (t : List ℕ) (rows : Rows) (q : Term) (ks : Touched) (ts : PlainTerms) → Some ks ≡ lookup bytes_cmp t v → Some ts ≡ lookup term_cmp q ks → ts ≡ plain_terms (seen_at (touched v t) rows (term q))
seen_found v t rows q ks ts h e =
    sym (plain-list ts) ∙ ap (λ z. plain_terms (or_committed z (at rows (term q)))) e
    ∙ ap (λ z. plain_terms (or_committed (lookup term_cmp q (touched_in z)) (at rows (term q)))) h
    ∙ ap (λ z. plain_terms (or_committed (lookup term_cmp z (touched v t)) (at rows (term q)))) (sym (held_term q))

-- no record of the key was touched, or none of the table
pub seen_committed : (v : Overlay) (t : List ℕ) (rows : Rows) (q : Term) (ks : Touched) → Some ks ≡ lookup bytes_cmp t v → None ≡ lookup term_cmp q ks → at rows (term q) ≡ seen_at (touched v t) rows (term q)
seen_committed v t rows q ks h e =
    ap (λ z. or_committed z (at rows (term q))) e
    ∙ ap (λ z. or_committed (lookup term_cmp q (touched_in z)) (at rows (term q))) h
    ∙ ap (λ z. or_committed (lookup term_cmp z (touched v t)) (at rows (term q))) (sym (held_term q))

pub seen_apart : (v : Overlay) (t : List ℕ) (rows : Rows) (q : Term) → None ≡ lookup bytes_cmp t v → at rows (term q) ≡ seen_at (touched v t) rows (term q)
seen_apart v t rows q h = ap (λ z. or_committed (lookup term_cmp (term_value (term q)) (touched_in z)) (at rows (term q))) h

pub touch_made : (x : Table) (v : Overlay) (c : Change) (name : List ℕ) (key : Term) (seen after : PlainTerms) (keys keys' : Touched) (v' : Overlay)
    → name ≡ x.def.name → term key ≡ key_of_change c → seen ≡ plain_terms (seen_at (touched v x.def.name) x.rows (term key)) → after ≡ plain_terms (left x.def.kind (terms_list seen) c)
    → keys ≡ touched v name → keys' ≡ insert_entry term_cmp (key, after) keys → v' ≡ insert_entry bytes_cmp (name, keys') v → v' ≡ touch x v c
touch_made x v c name key seen after keys keys' v' n k s a ks ks' vs =
    vs ∙ ap (λ z. insert_entry bytes_cmp (name, z) v) (ks' ∙ ap₂ (λ p q. insert_entry term_cmp (key, p) q) (a ∙ ap (λ z. plain_terms (left x.def.kind z c)) (ap terms_list s ∙ round (seen_at (touched v x.def.name) x.rows (term key)))) ks)
    ∙ ap (λ m. insert_entry bytes_cmp (m, insert_entry term_cmp (key, plain_terms (left x.def.kind (seen_at (touched v x.def.name) x.rows (term key)) c)) (touched v m)) v) n
    ∙ ap (λ q. insert_entry bytes_cmp (x.def.name, insert_entry term_cmp (q, plain_terms (left x.def.kind (seen_at (touched v x.def.name) x.rows (term key)) c)) (touched v x.def.name)) v) (sym (held_term key))
    ∙ ap (λ q. insert_entry bytes_cmp (x.def.name, insert_entry term_cmp (term_value q, plain_terms (left x.def.kind (seen_at (touched v x.def.name) x.rows q) c)) (touched v x.def.name)) v) k
  where
    round : (xs : Rows) → terms_list (plain_terms xs) ≡ xs
    round [] = refl
    round (x ∷ xs) = ap (λ ys. x ∷ ys) (round xs)

-- a record's own entry, put at its key, is the write to a set
pub touch_only : (x : Table) (v : Overlay) (row : Term) (name : List ℕ) (e : Term × PlainTerms) (v' : Overlay)
    → name ≡ x.def.name → x.def.kind ≡ Set → IsOnly (term row) e → v' ≡ insert_entry bytes_cmp (name, insert_entry term_cmp e (touched v name)) v → v' ≡ touch x v (Write row)
touch_only x v row name e v' n s only vs =
    touch_made x v (Write row) name e.0 seen e.1 (touched v name) (insert_entry term_cmp e (touched v name)) v' n only.key refl after refl refl vs
  where
    seen : PlainTerms
    seen = plain_terms (seen_at (touched v x.def.name) x.rows (term e.0))

    after : e.1 ≡ plain_terms (left x.def.kind (terms_list seen) (Write row))
    after = sym (plain-list e.1) ∙ ap plain_terms only.only ∙ ap (λ k. plain_terms (left k (terms_list seen) (Write row))) (sym s)
