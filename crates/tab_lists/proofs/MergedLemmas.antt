-- A transaction's own keys among those of a table: what comes first.
use Rattle.std.proofs.Common.{◌≡◌, [], ◌∷◌, refl, ap, ◌∙◌, List, Option, Some, None, Ordering, Less, Equal, Greater}
use Rattle.std.specs.Ordering.{match_ordering, ordering_reverse}
use Rattle.tab_term.specs.declared.term.Term.{Term}
use Rattle.tab_term.specs.Data.{PlainTerms}
use Rattle.tab_term.specs.Order.{term_cmp}
use Rattle.tab_term.proofs.Total.{term_total}
use Rattle.tab_map.specs.Entries.{lookup, insert_entry, AllAbove, Ascends}
use Rattle.tab_map.specs.KeyList.{AllKeysAbove, KeysAscend}
use Rattle.tab_map.proofs.AscendsLemmas.{ascends_insert}
use Rattle.tab_records.proofs.LookUps.{below_all, at_all, above_below}
use Rattle.tab_lists.specs.ByKey.{Entry, merged, entry_onto, at_keys}

-- ---- order

pub above_insert : (q : Term) (x : Entry) (es : List Entry) → term_cmp q x.0 ≡ Less → AllAbove term_cmp q es → AllAbove term_cmp q (insert_entry term_cmp x es)
above_insert q x [] h a = (h, tt)
above_insert q x (e ∷ es) h a = cases (above_insert q x es h a.1) (term_cmp x.0 e.0)
  where
    cases : AllAbove term_cmp q (insert_entry term_cmp x es) → (o : Ordering) → AllAbove term_cmp q (match_ordering o (x ∷ e ∷ es) (x ∷ es) (e ∷ insert_entry term_cmp x es))
    cases ih Less = (h, a)
    cases ih Equal = (h, a.1)
    cases ih Greater = (a.0, ih)

pub above_merged : (q : Term) (xs es : List Entry) → AllAbove term_cmp q xs → AllAbove term_cmp q es → AllAbove term_cmp q (merged xs es)
above_merged q [] es h a = a
above_merged q (x ∷ xs) es h a = above_insert q x (merged xs es) h.0 (above_merged q xs es h.1 a)

pub ascends_merged : (xs es : List Entry) → Ascends term_cmp es → Ascends term_cmp (merged xs es)
ascends_merged [] es s = s
ascends_merged (x ∷ xs) es s = ascends_insert term_total x (merged xs es) (ascends_merged xs es s)

pub insert_first : (x : Entry) (es : List Entry) → AllAbove term_cmp x.0 es → insert_entry term_cmp x es ≡ x ∷ es
insert_first x [] a = refl
insert_first x (e ∷ es) a = ap (λ o. match_ordering o (x ∷ e ∷ es) (x ∷ es) (e ∷ insert_entry term_cmp x es)) a.0

-- ---- what comes next

-- the table's next key, where it is below all touched ones
pub committed_first : (e : Entry) (xs es : List Entry) → AllAbove term_cmp e.0 xs → merged xs (e ∷ es) ≡ e ∷ merged xs es
committed_first e [] es a = refl
committed_first e (x ∷ xs) es a =
    ap (insert_entry term_cmp x) (committed_first e xs es a.1)
    ∙ ap (λ o. match_ordering o (x ∷ e ∷ merged xs es) (x ∷ merged xs es) (e ∷ insert_entry term_cmp x (merged xs es))) (term_total.antisymm x.0 e.0 ∙ ap ordering_reverse a.0)

pub committed_below : (e x : Entry) (xs es : List Entry) → term_cmp e.0 x.0 ≡ Less → Ascends term_cmp (x ∷ xs) → merged (x ∷ xs) (e ∷ es) ≡ e ∷ merged (x ∷ xs) es
committed_below e x xs es h s = committed_first e (x ∷ xs) es (h, below_all term_total e.0 x.0 xs h s.0)

pub both_equal : (e x : Entry) (xs es : List Entry) → term_cmp e.0 x.0 ≡ Equal → Ascends term_cmp (x ∷ xs) → merged (x ∷ xs) (e ∷ es) ≡ x ∷ merged xs es
both_equal e x xs es h s =
    ap (insert_entry term_cmp x) (committed_first e xs es (at_all term_total e.0 x.0 xs h s.0))
    ∙ ap (λ o. match_ordering o (x ∷ e ∷ merged xs es) (x ∷ merged xs es) (e ∷ insert_entry term_cmp x (merged xs es))) (term_total.antisymm x.0 e.0 ∙ ap ordering_reverse h)

pub own_below : (e x : Entry) (xs es : List Entry) → term_cmp e.0 x.0 ≡ Greater → Ascends term_cmp (x ∷ xs) → Ascends term_cmp (e ∷ es) → merged (x ∷ xs) (e ∷ es) ≡ x ∷ merged xs (e ∷ es)
own_below e x xs es h s t =
    let low : term_cmp x.0 e.0 ≡ Less = above_below term_total e.0 x.0 h in
    insert_first x (merged xs (e ∷ es)) (above_merged x.0 xs (e ∷ es) s.0 (low, below_all term_total x.0 e.0 es low t.0))

pub own_alone : (x : Entry) (xs : List Entry) → Ascends term_cmp (x ∷ xs) → merged (x ∷ xs) [] ≡ x ∷ merged xs []
own_alone x xs s = insert_first x (merged xs []) (above_merged x.0 xs [] s.0 tt)

-- ---- some of a table's keys

pub above_keys : (q : Term) (ks : List Term) (es : List Entry) → AllKeysAbove term_cmp q ks → AllAbove term_cmp q (at_keys ks es)
above_keys q [] es a = tt
above_keys q (k ∷ ks) es a = cases (above_keys q ks es a.1) (lookup term_cmp k es)
  where
    cases : AllAbove term_cmp q (at_keys ks es) → (o : Option PlainTerms) → AllAbove term_cmp q (entry_onto k o (at_keys ks es))
    cases ih None = ih
    cases ih (Some ts) = (a.0, ih)

pub ascends_keys : (ks : List Term) (es : List Entry) → KeysAscend term_cmp ks → Ascends term_cmp (at_keys ks es)
ascends_keys [] es s = tt
ascends_keys (k ∷ ks) es s = cases (ascends_keys ks es s.1) (lookup term_cmp k es)
  where
    cases : Ascends term_cmp (at_keys ks es) → (o : Option PlainTerms) → Ascends term_cmp (entry_onto k o (at_keys ks es))
    cases ih None = ih
    cases ih (Some ts) = (above_keys k ks es s.0, ih)
