-- The records at an index's keys: among them are all that have the value.
use Rattle.std.proofs.Common.{◌≡◌, ℕ, List, [], ◌∷◌, Bool, true, false, ◌||◌, refl, sym, ap, ap₂, ◌∙◌, subst, Option, Some, None, Ordering, Less, Equal, Greater}
use Rattle.std.specs.Prelude.{if◌then◌else◌}
use Rattle.std.specs.List.{filter, list_any, list_all}
use Rattle.std.specs.Ordering.{match_ordering}
use Rattle.std.proofs.lemmas.Bool.{false≢true}
use Rattle.tab_term.specs.declared.term.Term.{Term}
use Rattle.tab_term.specs.Data.{PlainTerm, PlainTerms}
use Rattle.tab_term.specs.Order.{term_cmp}
use Rattle.tab_term.specs.OrderLaws.{canon_same}
use Rattle.tab_term.specs.View.{term}
use Rattle.tab_term.proofs.Total.{term_total}
use Rattle.tab_map.specs.Entries.{lookup, AllAbove}
use Rattle.tab_map.specs.KeyList.{contains_key, KeysAscend}
use Rattle.tab_records.proofs.LookUps.{lookup_above, below_all, at_all}
use Rattle.tab_lists.specs.ByKey.{Entry, entry_onto, at_keys}
use Rattle.tab_lists.proofs.MergedLemmas.{above_keys, ascends_keys}
use Rattle.tab_model.specs.Names.{terms_list}
use Rattle.tab_model.specs.Shapes.{term_value}
use Rattle.tab_model.specs.Tables.{Rows, has_key, at}
use Rattle.tab_model.specs.WholeTables.{index_read}
use Rattle.tab_model.proofs.ShapeLaws.{held_term, term_held}
use Rattle.tab_model.proofs.TableLaws.{same_lists, ordered-filter}
use Rattle.tab_index.specs.IndexOf.{has_value, AreKeysWith}
use Rattle.tab_rows.specs.Joined.{joined, IsKeyed, AllKeyed, IsInOrder}
use Rattle.tab_rows.proofs.Cells.{found_in, at-joined, ordered-joined}

-- ---- records that a filter leaves

module _ (test : PlainTerm → Bool) where
  pub none_left : (xs : Rows) → list_any test xs ≡ false → filter test xs ≡ []
  none_left [] h = refl
  none_left (x ∷ xs) h = cases (none_left xs) (test x) h
    where
      cases : (list_any test xs ≡ false → filter test xs ≡ []) → (b : Bool) → (b || list_any test xs) ≡ false → (if b then x ∷ filter test xs else filter test xs) ≡ []
      cases ih true h = absurd (false≢true (sym h))
      cases ih false h = ih h

  -- two filters, in either order
  pub swapped : (q : PlainTerm → Bool) (xs : Rows) → filter q (filter test xs) ≡ filter test (filter q xs)
  swapped q [] = refl
  swapped q (x ∷ xs) = cases (swapped q xs) (test x) refl (q x) refl
    where
      cases : filter q (filter test xs) ≡ filter test (filter q xs) → (a : Bool) → test x ≡ a → (b : Bool) → q x ≡ b → filter q (if a then x ∷ filter test xs else filter test xs) ≡ filter test (if b then x ∷ filter q xs else filter q xs)
      cases ih true e true f = ap (λ z. if z then x ∷ filter q (filter test xs) else filter q (filter test xs)) f ∙ ap (λ ys. x ∷ ys) ih ∙ sym (ap (λ z. if z then x ∷ filter test (filter q xs) else filter test (filter q xs)) e)
      cases ih true e false f = ap (λ z. if z then x ∷ filter q (filter test xs) else filter q (filter test xs)) f ∙ ih
      cases ih false e true f = ih ∙ sym (ap (λ z. if z then x ∷ filter test (filter q xs) else filter test (filter q xs)) e)
      cases ih false e false f = ih

-- ---- some of a table's keys

one_key : (j k : Term) → term_cmp j k ≡ Equal → j ≡ k
one_key j k e = sym (held_term j) ∙ ap term_value (canon_same (term j) (term k) e) ∙ held_term k

-- what is found at a key, where it is one of these
abbrev pub found_at : Bool → Option PlainTerms → Option PlainTerms
found_at b o = if b then o else None

pub lookup_keys : (ks : List Term) (es : List Entry) (q : Term) → KeysAscend term_cmp ks → lookup term_cmp q (at_keys ks es) ≡ found_at (contains_key term_cmp q ks) (lookup term_cmp q es)
lookup_keys [] es q s = refl
lookup_keys (k ∷ ks) es q s = cases (lookup_keys ks es q s.1) (lookup term_cmp k es) refl (term_cmp q k) refl
  where
    low : AllAbove term_cmp k (at_keys ks es)
    low = above_keys k ks es s.0

    below : term_cmp q k ≡ Less → lookup term_cmp q (at_keys ks es) ≡ None
    below e = lookup_above term_total q (at_keys ks es) (below_all term_total q k (at_keys ks es) e low)

    here : term_cmp q k ≡ Equal → lookup term_cmp q (at_keys ks es) ≡ None
    here e = lookup_above term_total q (at_keys ks es) (at_all term_total q k (at_keys ks es) e low)

    there : (o : Option PlainTerms) → lookup term_cmp k es ≡ o → term_cmp q k ≡ Equal → lookup term_cmp q es ≡ o
    there o h e = ap (λ j. lookup term_cmp j es) (one_key q k e) ∙ h

    cases : lookup term_cmp q (at_keys ks es) ≡ found_at (contains_key term_cmp q ks) (lookup term_cmp q es) → (o : Option PlainTerms) → lookup term_cmp k es ≡ o → (c : Ordering) → term_cmp q k ≡ c
        → lookup term_cmp q (entry_onto k o (at_keys ks es)) ≡ found_at (match_ordering c false true (contains_key term_cmp q ks)) (lookup term_cmp q es)
    cases ih None h Less e = below e
    cases ih None h Equal e = here e ∙ sym (there None h e)
    cases ih None h Greater e = ih
    cases ih (Some ts) h Less e = ap (λ c. match_ordering c None (Some ts) (lookup term_cmp q (at_keys ks es))) e
    cases ih (Some ts) h Equal e = ap (λ c. match_ordering c None (Some ts) (lookup term_cmp q (at_keys ks es))) e ∙ sym (there (Some ts) h e)
    cases ih (Some ts) h Greater e = ap (λ c. match_ordering c None (Some ts) (lookup term_cmp q (at_keys ks es))) e ∙ ih

-- what stands at one of them keeps its key
keyed_at : (k : Term) (ts : PlainTerms) (es : List Entry) → AllKeyed es → lookup term_cmp k es ≡ Some ts → IsKeyed (k, ts)
keyed_at k ts [] a h = let n : None ≡ Some ts = h in cc
keyed_at k ts (e ∷ es) a h = cases (keyed_at k ts es a.1) (term_cmp k e.0) refl h
  where
    cases : (lookup term_cmp k es ≡ Some ts → IsKeyed (k, ts)) → (o : Ordering) → term_cmp k e.0 ≡ o → match_ordering o None (Some e.1) (lookup term_cmp k es) ≡ Some ts → IsKeyed (k, ts)
    cases ih Less q g = let n : None ≡ Some ts = g in cc
    cases ih Equal q g =
        let is : e.1 ≡ ts = cc in
        record {
          keyed = ap₂ (λ j us. list_all (has_key (term j)) (terms_list us)) (one_key k e.0 q) (sym is) ∙ a.0.keyed;
          filled = λ f. a.0.filled (ap terms_list is ∙ f);
        }
    cases ih Greater q g = ih g

all_keyed : (ks : List Term) (es : List Entry) → AllKeyed es → AllKeyed (at_keys ks es)
all_keyed [] es a = tt
all_keyed (k ∷ ks) es a = cases (all_keyed ks es a) (lookup term_cmp k es) refl
  where
    cases : AllKeyed (at_keys ks es) → (o : Option PlainTerms) → lookup term_cmp k es ≡ o → AllKeyed (entry_onto k o (at_keys ks es))
    cases ih None h = ih
    cases ih (Some ts) h = (keyed_at k ts es a h, ih)

-- ---- records with a value

module _ (es : List Entry) (ks : List Term) (p : ℕ) (x : PlainTerm) (o : IsInOrder es) (t : KeysAscend term_cmp ks) (keys : AreKeysWith (joined es) p x ks) where
  -- at each key those with the value are found
  cell : (q : Term) → filter (has_value p x) (at (joined (at_keys ks es)) (term q)) ≡ filter (has_value p x) (at (joined es) (term q))
  cell q =
      ap (filter (has_value p x)) (at-joined (at_keys ks es) q (ascends_keys ks es t) (all_keyed ks es o.keyed) ∙ ap found_in (lookup_keys ks es q t))
      ∙ cases (contains_key term_cmp q ks) refl
    where
      cases : (b : Bool) → contains_key term_cmp q ks ≡ b → filter (has_value p x) (found_in (found_at b (lookup term_cmp q es))) ≡ filter (has_value p x) (at (joined es) (term q))
      cases true g = ap (filter (has_value p x)) (sym (at-joined es q o.ascends o.keyed))
      cases false g = sym (none_left (has_value p x) (at (joined es) (term q)) (keys q g))

  pub index_found : filter (has_value p x) (joined (at_keys ks es)) ≡ index_read (joined es) p x
  index_found =
      same_lists (filter (has_value p x) (joined (at_keys ks es))) (index_read (joined es) p x) (ordered-filter (has_value p x) (joined (at_keys ks es)) (ordered-joined (at_keys ks es) (ascends_keys ks es t) (all_keyed ks es o.keyed))) (ordered-filter (has_value p x) (joined es) (ordered-joined es o.ascends o.keyed))
      (λ k. swapped (has_value p x) (has_key k) (joined (at_keys ks es)) ∙ subst (λ (j : PlainTerm). filter (has_value p x) (at (joined (at_keys ks es)) j) ≡ filter (has_value p x) (at (joined es) j)) (term_held k) (cell (term_value k)) ∙ sym (swapped (has_value p x) (has_key k) (joined es)))
