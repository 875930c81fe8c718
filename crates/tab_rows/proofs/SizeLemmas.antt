-- How many records there are in all, of a key, and after a change of one key.
use Rattle.std.proofs.Common.{◌≡◌, ℕ, suc, ◌+◌, ◌-◌, ◌≤◌, List, [], ◌∷◌, Bool, true, false, not, length, length-append, refl, ap, ◌∙◌, Some, None, Less, Equal, Greater, arith}
use Rattle.std.specs.Prelude.{if◌then◌else◌}
use Rattle.std.specs.List.{filter}
use Rattle.std.specs.Ordering.{match_ordering}
use Rattle.tab_term.specs.declared.term.Term.{Term}
use Rattle.tab_term.specs.View.{term}
use Rattle.tab_term.specs.Data.{PlainTerm, PlainTerms, none, one_more, count}
use Rattle.tab_term.specs.Order.{term_cmp}
use Rattle.tab_term.specs.Same.{same}
use Rattle.tab_map.specs.Entries.{lookup, insert_entry, remove_entry}
use Rattle.tab_model.specs.Names.{terms_list}
use Rattle.tab_model.specs.Tables.{Rows, has_key, at, delete_object}
use Rattle.tab_rows.specs.Joined.{Entry, joined, IsKept}
use Rattle.tab_rows.proofs.Cells.{found_in, at-joined}

pub count-list : (ts : PlainTerms) → count ts ≡ length (terms_list ts)
count-list none = refl
count-list (one_more t ts) = ap suc (count-list ts)

pub count-none : (ts : PlainTerms) → terms_list ts ≡ [] → count ts ≡ 0
count-none ts e = count-list ts ∙ ap length e

pub none_counted : (ts : PlainTerms) → count ts ≡ 0 → terms_list ts ≡ []
none_counted none e = refl
none_counted (one_more t ts) e = absurd (omega (arith, e))

some_of : (p : PlainTerm → Bool) (rows : Rows) → length (filter p rows) ≤ length rows
some_of p [] = omega arith
some_of p (x ∷ rows) = cases (some_of p rows) (p x)
  where
    cases : length (filter p rows) ≤ length rows → (b : Bool) → length (if b then x ∷ filter p rows else filter p rows) ≤ length (x ∷ rows)
    cases ih true = omega (arith, ih)
    cases ih false = omega (arith, ih)

pub at_within : (rows : Rows) (k : PlainTerm) → length (at rows k) ≤ length rows
at_within rows k = some_of (has_key k) rows

pub left_within : (rows : Rows) (r : PlainTerm) → length (delete_object rows r) ≤ length rows
left_within rows r = some_of (λ x. not (same r x)) rows

size_insert : (k : Term) (ts : PlainTerms) (es : List Entry) → length (joined (insert_entry term_cmp (k, ts) es)) + length (found_in (lookup term_cmp k es)) ≡ length (joined es) + length (terms_list ts)
size_insert k ts [] = omega (arith, length-append (terms_list ts) [])
size_insert k ts (e ∷ es) =
    elim (term_cmp k e.0) as (λ d. length (joined (match_ordering d ((k, ts) ∷ e ∷ es) ((k, ts) ∷ es) (e ∷ insert_entry term_cmp (k, ts) es))) + length (found_in (match_ordering d None (Some e.1) (lookup term_cmp k es))) ≡ length (joined (e ∷ es)) + length (terms_list ts)) [
      | Less ↦ omega (arith, length-append (terms_list ts) (joined (e ∷ es)))
      | Equal ↦ omega (arith, length-append (terms_list ts) (joined es), length-append (terms_list e.1) (joined es))
      | Greater ↦ omega (arith, size_insert k ts es, length-append (terms_list e.1) (joined es), length-append (terms_list e.1) (joined (insert_entry term_cmp (k, ts) es)))
    ]

size_remove : (k : Term) (es : List Entry) → length (joined (remove_entry term_cmp k es)) + length (found_in (lookup term_cmp k es)) ≡ length (joined es)
size_remove k [] = refl
size_remove k (e ∷ es) =
    elim (term_cmp k e.0) as (λ d. length (joined (match_ordering d (e ∷ es) es (e ∷ remove_entry term_cmp k es))) + length (found_in (match_ordering d None (Some e.1) (lookup term_cmp k es))) ≡ length (joined (e ∷ es))) [
      | Less ↦ omega arith
      | Equal ↦ omega (arith, length-append (terms_list e.1) (joined es))
      | Greater ↦ omega (arith, size_remove k es, length-append (terms_list e.1) (joined es), length-append (terms_list e.1) (joined (remove_entry term_cmp k es)))
    ]

-- the size after a change of one key, which had so many records before
pub counted_insert : (es : List Entry) (k : Term) (ts : PlainTerms) (size before new : ℕ) → IsKept es size → before ≡ length (at (joined es) (term k)) → new ≡ size - before + length (terms_list ts) → new ≡ length (joined (insert_entry term_cmp (k, ts) es))
counted_insert es k ts size before new kept b n =
    let here : before ≡ length (found_in (lookup term_cmp k es)) = b ∙ ap length (at-joined es k kept.order.ascends kept.order.keyed) in
    let size_is : size ≡ length (joined es) = kept.counted in
    omega (arith, here, n, b, size_is, at_within (joined es) (term k), size_insert k ts es)

pub counted_remove : (es : List Entry) (k : Term) (size before new : ℕ) → IsKept es size → before ≡ length (at (joined es) (term k)) → new ≡ size - before → new ≡ length (joined (remove_entry term_cmp k es))
counted_remove es k size before new kept b n =
    let here : before ≡ length (found_in (lookup term_cmp k es)) = b ∙ ap length (at-joined es k kept.order.ascends kept.order.keyed) in
    let size_is : size ≡ length (joined es) = kept.counted in
    omega (arith, here, n, b, size_is, at_within (joined es) (term k), size_remove k es)
