-- The merged walk: what comes next, and that it is the table as the transaction sees it.
use Rattle.std.proofs.Common.{◌≡◌, [], ◌∷◌, Bool, true, false, refl, sym, ap, ◌∙◌, subst, Option, Some, None, Ordering, Less, Equal, Greater}
use Rattle.std.specs.Prelude.{if◌then◌else◌}
use Rattle.std.specs.List.{list_all}
use Rattle.std.specs.Ordering.{match_ordering}
use Rattle.std.proofs.lemmas.Bool.{and_from}
use Rattle.tab_term.specs.declared.term.Term.{Term}
use Rattle.tab_term.specs.Data.{PlainTerm, PlainTerms, none, one_more}
use Rattle.tab_term.specs.Order.{term_cmp}
use Rattle.tab_term.specs.View.{term}
use Rattle.tab_term.proofs.Total.{term_total}
use Rattle.tab_map.specs.Entries.{lookup, AllAbove, Ascends}
use Rattle.tab_lists.proofs.MergedLemmas.{ascends_merged}
use Rattle.tab_rows.specs.Joined.{joined, AllKeyed, IsInOrder}
use Rattle.tab_records.proofs.LookUps.{lookup_insert, lookup_above, below_all, at_all}
use Rattle.tab_rows.proofs.Cells.{at-joined, ordered-joined, found_in}
use Rattle.tab_rows.proofs.KeysLemmas.{plain_keys, keys_joined}
use Rattle.tab_model.specs.Names.{terms_list}
use Rattle.tab_model.specs.Tables.{Rows, key, has_key, at, keys}
use Rattle.tab_model.specs.Shapes.{term_value}
use Rattle.tab_model.proofs.ShapeLaws.{held_term, term_held}
use Rattle.tab_model.proofs.TableLaws.{same_lists}
use Rattle.tab_txstore.specs.Overlays.{Touched, or_committed}
use Rattle.tab_txstore.specs.Merged.{merged, is_filled, filled_keys, IsSeen}

-- ---- it is the table as the transaction sees it

-- what the first of two gives, else what the second gives
abbrev pub or_else : Option PlainTerms → Option PlainTerms → Option PlainTerms
or_else None o = o
or_else (Some ts) o = Some ts

pub lookup_both : (xs es : Touched) (q : Term) → Ascends term_cmp xs → Ascends term_cmp es → lookup term_cmp q (merged xs es) ≡ or_else (lookup term_cmp q xs) (lookup term_cmp q es)
lookup_both [] es q s t = refl
lookup_both (x ∷ xs) es q s t = lookup_insert term_total x (merged xs es) q (ascends_merged xs es t) ∙ cases (lookup_both xs es q s.1 t) (term_cmp q x.0) refl
  where
    cases : lookup term_cmp q (merged xs es) ≡ or_else (lookup term_cmp q xs) (lookup term_cmp q es) → (o : Ordering) → term_cmp q x.0 ≡ o
        → match_ordering o (lookup term_cmp q (merged xs es)) (Some x.1) (lookup term_cmp q (merged xs es)) ≡ or_else (match_ordering o None (Some x.1) (lookup term_cmp q xs)) (lookup term_cmp q es)
    cases ih Less k = ih ∙ ap (λ z. or_else z (lookup term_cmp q es)) (lookup_above term_total q xs (below_all term_total q x.0 xs k s.0))
    cases ih Equal k = refl
    cases ih Greater k = ih

lookup_merged : (xs es : Touched) (q : Term) (rows : Rows) → Ascends term_cmp xs → Ascends term_cmp es → at rows (term q) ≡ found_in (lookup term_cmp q es)
    → found_in (lookup term_cmp q (merged xs es)) ≡ or_committed (lookup term_cmp q xs) (at rows (term q))
lookup_merged xs es q rows s t h = ap found_in (lookup_both xs es q s t) ∙ cases (lookup term_cmp q xs)
  where
    cases : (o : Option PlainTerms) → found_in (or_else o (lookup term_cmp q es)) ≡ or_committed o (at rows (term q))
    cases None = sym h
    cases (Some ts) = refl

abbrev pub filled : Touched → Touched
filled [] = []
filled (e ∷ es) = if is_filled e.1 then e ∷ filled es else filled es

above_filled : (q : Term) (es : Touched) → AllAbove term_cmp q es → AllAbove term_cmp q (filled es)
above_filled q [] a = tt
above_filled q (e ∷ es) a = cases (above_filled q es a.1) (is_filled e.1)
  where
    cases : AllAbove term_cmp q (filled es) → (b : Bool) → AllAbove term_cmp q (if b then e ∷ filled es else filled es)
    cases ih true = (a.0, ih)
    cases ih false = ih

pub ascends_filled : (es : Touched) → Ascends term_cmp es → Ascends term_cmp (filled es)
ascends_filled [] s = tt
ascends_filled (e ∷ es) s = cases (ascends_filled es s.1) (is_filled e.1)
  where
    cases : Ascends term_cmp (filled es) → (b : Bool) → Ascends term_cmp (if b then e ∷ filled es else filled es)
    cases ih true = (above_filled e.0 es s.0, ih)
    cases ih false = ih

pub not_filled : (ts : PlainTerms) → is_filled ts ≡ false → terms_list ts ≡ []
not_filled none h = refl
not_filled (one_more t ts) h = cc

pub lookup_filled : (es : Touched) (q : Term) → Ascends term_cmp es → found_in (lookup term_cmp q (filled es)) ≡ found_in (lookup term_cmp q es)
lookup_filled [] q s = refl
lookup_filled (e ∷ es) q s = cases (lookup_filled es q s.1) (is_filled e.1) refl (term_cmp q e.0) refl
  where
    cases : found_in (lookup term_cmp q (filled es)) ≡ found_in (lookup term_cmp q es) → (b : Bool) → is_filled e.1 ≡ b → (o : Ordering) → term_cmp q e.0 ≡ o
        → found_in (lookup term_cmp q (if b then e ∷ filled es else filled es)) ≡ found_in (match_ordering o None (Some e.1) (lookup term_cmp q es))
    cases ih true h Less k = ap (λ z. found_in (match_ordering z None (Some e.1) (lookup term_cmp q (filled es)))) k
    cases ih true h Equal k = ap (λ z. found_in (match_ordering z None (Some e.1) (lookup term_cmp q (filled es)))) k
    cases ih true h Greater k = ap (λ z. found_in (match_ordering z None (Some e.1) (lookup term_cmp q (filled es)))) k ∙ ih
    cases ih false h Less k = ap found_in (lookup_above term_total q (filled es) (above_filled q es (below_all term_total q e.0 es k s.0)))
    cases ih false h Equal k = ap found_in (lookup_above term_total q (filled es) (above_filled q es (at_all term_total q e.0 es k s.0))) ∙ sym (not_filled e.1 h)
    cases ih false h Greater k = ih

-- the records found at a key have it
has_all : (k : PlainTerm) (rows : Rows) → list_all (has_key k) (at rows k) ≡ true
has_all k [] = refl
has_all k (x ∷ rows) = cases (has_all k rows) (has_key k x) refl
  where
    cases : list_all (has_key k) (at rows k) ≡ true → (b : Bool) → has_key k x ≡ b → list_all (has_key k) (if b then x ∷ at rows k else at rows k) ≡ true
    cases ih true e = and_from (has_key k x) (list_all (has_key k) (at rows k)) e ih
    cases ih false e = ih

filled_some : (ts : PlainTerms) → is_filled ts ≡ true → terms_list ts ≡ [] → ⊥
filled_some none h e = cc
filled_some (one_more t ts) h e = cc

-- lists of which each key's records are those of a table
abbrev Finds : Touched → Rows → Type 0
Finds es seen = (q : Term) → found_in (lookup term_cmp q es) ≡ at seen (term q)

first_finds : (e : Term × PlainTerms) (es : Touched) (q : Term) → term_cmp q e.0 ≡ Equal → found_in (lookup term_cmp q (e ∷ es)) ≡ terms_list e.1
first_finds e es q h = ap (λ z. found_in (match_ordering z None (Some e.1) (lookup term_cmp q es))) h

found_after : (e : Term × PlainTerms) (es : Touched) (q : Term) (ts : PlainTerms) → AllAbove term_cmp e.0 es → lookup term_cmp q es ≡ Some ts → (o : Ordering) → term_cmp q e.0 ≡ o → lookup term_cmp q (e ∷ es) ≡ Some ts
found_after e es q ts a h Less k = let n : None ≡ Some ts = sym (lookup_above term_total q es (below_all term_total q e.0 es k a)) ∙ h in cc
found_after e es q ts a h Equal k = let n : None ≡ Some ts = sym (lookup_above term_total q es (at_all term_total q e.0 es k a)) ∙ h in cc
found_after e es q ts a h Greater k = ap (λ z. match_ordering z None (Some e.1) (lookup term_cmp q es)) k ∙ h

-- what is kept at each key has it
pub keyed_by : (es : Touched) (seen : Rows) → Ascends term_cmp es → ((q : Term) (ts : PlainTerms) → lookup term_cmp q es ≡ Some ts → terms_list ts ≡ at seen (term q)) → AllKeyed (filled es)
keyed_by [] seen s f = tt
keyed_by (e ∷ es) seen s f = cases (keyed_by es seen s.1 (λ q ts h. f q ts (found_after e es q ts s.0 h (term_cmp q e.0) refl))) (is_filled e.1) refl
  where
    itself : term_cmp e.0 e.0 ≡ Equal
    itself = Rattle.std.proofs.lemmas.Cmp.tied_itself term_total e.0

    here : terms_list e.1 ≡ at seen (term e.0)
    here = f e.0 e.1 (ap (λ z. match_ordering z None (Some e.1) (lookup term_cmp e.0 es)) itself)

    cases : AllKeyed (filled es) → (b : Bool) → is_filled e.1 ≡ b → AllKeyed (if b then e ∷ filled es else filled es)
    cases rest true h = (record { keyed = ap (list_all (has_key (term e.0))) here ∙ has_all (term e.0) seen; filled = filled_some e.1 h }, rest)
    cases rest false h = rest

pub found_some : (o : Option PlainTerms) (ts : PlainTerms) → o ≡ Some ts → found_in o ≡ terms_list ts
found_some o ts h = ap found_in h

pub seen_merged : (xs es : Touched) (seen : Rows) → Ascends term_cmp xs → IsInOrder es → IsSeen xs (joined es) seen → (joined (filled (merged xs es)) ≡ seen) × (AllKeyed (filled (merged xs es)) × Ascends term_cmp (filled (merged xs es)))
seen_merged xs es seen s o h = (same_lists (joined (filled (merged xs es))) seen (ordered-joined (filled (merged xs es)) up keyed) h.ordered cells, (keyed, up))
  where
    finds : (q : Term) → found_in (lookup term_cmp q (merged xs es)) ≡ at seen (term q)
    finds q =
        lookup_merged xs es q (joined es) s o.ascends (at-joined es q o.ascends o.keyed)
        ∙ ap (λ z. or_committed (lookup term_cmp z xs) (at (joined es) (term q))) (sym (held_term q)) ∙ h.cells (term q)

    up : Ascends term_cmp (filled (merged xs es))
    up = ascends_filled (merged xs es) (ascends_merged xs es o.ascends)

    keyed : AllKeyed (filled (merged xs es))
    keyed = keyed_by (merged xs es) seen (ascends_merged xs es o.ascends) (λ q ts e. sym (found_some (lookup term_cmp q (merged xs es)) ts e) ∙ finds q)

    cells_at : (q : Term) → at (joined (filled (merged xs es))) (term q) ≡ at seen (term q)
    cells_at q = at-joined (filled (merged xs es)) q up keyed ∙ lookup_filled (merged xs es) q (ascends_merged xs es o.ascends) ∙ finds q

    cells : (k : PlainTerm) → at (joined (filled (merged xs es))) k ≡ at seen k
    cells k = subst (λ (j : PlainTerm). at (joined (filled (merged xs es))) j ≡ at seen j) (term_held k) (cells_at (term_value k))

-- ---- its keys

filled_plain : (es : Touched) → filled_keys es ≡ plain_keys (filled es)
filled_plain [] = refl
filled_plain (e ∷ es) = cases (filled_plain es) (is_filled e.1)
  where
    cases : filled_keys es ≡ plain_keys (filled es) → (b : Bool) → (if b then term e.0 ∷ filled_keys es else filled_keys es) ≡ plain_keys (if b then e ∷ filled es else filled es)
    cases ih true = ap (λ z. term e.0 ∷ z) ih
    cases ih false = ih

pub keys_seen : (xs es : Touched) (seen : Rows) → Ascends term_cmp xs → IsInOrder es → IsSeen xs (joined es) seen → filled_keys (merged xs es) ≡ keys seen
keys_seen xs es seen s o h =
    let p = seen_merged xs es seen s o h in
    filled_plain (merged xs es) ∙ sym (keys_joined (filled (merged xs es)) p.1.1 p.1.0) ∙ ap keys p.0
