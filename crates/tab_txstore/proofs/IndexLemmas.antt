-- The records at an index's keys and at the touched ones: among them are all that the transaction sees with the value.
use Rattle.std.proofs.Common.{◌≡◌, ℕ, List, Bool, true, false, refl, sym, ap, ◌∙◌, subst, Option, Some, None}
use Rattle.std.specs.List.{filter}
use Rattle.tab_term.specs.declared.term.Term.{Term}
use Rattle.tab_term.specs.Data.{PlainTerm, PlainTerms}
use Rattle.tab_term.specs.Order.{term_cmp}
use Rattle.tab_term.specs.View.{term}
use Rattle.tab_map.specs.Entries.{lookup, Ascends}
use Rattle.tab_map.specs.KeyList.{contains_key, KeysAscend}
use Rattle.tab_lists.specs.ByKey.{at_keys}
use Rattle.tab_lists.proofs.MergedLemmas.{ascends_keys, ascends_merged}
use Rattle.tab_model.specs.Names.{terms_list}
use Rattle.tab_model.specs.Shapes.{term_value}
use Rattle.tab_model.specs.Tables.{Rows, has_key, at}
use Rattle.tab_model.specs.WholeTables.{index_read}
use Rattle.tab_model.proofs.ShapeLaws.{held_term, term_held}
use Rattle.tab_model.proofs.TableLaws.{same_lists, ordered-filter}
use Rattle.tab_index.specs.IndexOf.{has_value, AreKeysWith}
use Rattle.tab_index.proofs.QueryLemmas.{none_left, swapped, found_at, lookup_keys}
use Rattle.tab_rows.specs.Joined.{joined, AllKeyed, IsInOrder}
use Rattle.tab_rows.proofs.Cells.{found_in, at-joined, ordered-joined}
use Rattle.tab_txstore.specs.Overlays.{Touched, or_committed}
use Rattle.tab_txstore.specs.Merged.{merged, IsSeen}
use Rattle.tab_txstore.proofs.MatchLemmas.{joined_filled}
use Rattle.tab_txstore.proofs.MergedLemmas.{or_else, lookup_both, filled, ascends_filled, lookup_filled, keyed_by}

module _ (xs es : Touched) (ks : List Term) (seen : Rows) (p : ℕ) (x : PlainTerm) (o : IsInOrder es) (s : Ascends term_cmp xs) (t : KeysAscend term_cmp ks) (keys : AreKeysWith (joined es) p x ks) (h : IsSeen xs (joined es) seen) where
  abbrev whole : Touched
  whole = merged xs (at_keys ks es)

  found : (q : Term) → lookup term_cmp q whole ≡ or_else (lookup term_cmp q xs) (found_at (contains_key term_cmp q ks) (lookup term_cmp q es))
  found q = lookup_both xs (at_keys ks es) q s (ascends_keys ks es t) ∙ ap (or_else (lookup term_cmp q xs)) (lookup_keys ks es q t)

  -- what is seen at a key
  seen_here : (q : Term) (own : Option PlainTerms) → lookup term_cmp q xs ≡ own → or_committed own (found_in (lookup term_cmp q es)) ≡ at seen (term q)
  seen_here q own e =
      ap (or_committed own) (sym (at-joined es q o.ascends o.keyed)) ∙ ap (λ z. or_committed z (at (joined es) (term q))) (sym e)
      ∙ ap (λ z. or_committed (lookup term_cmp z xs) (at (joined es) (term q))) (sym (held_term q)) ∙ h.cells (term q)

  keyed : (q : Term) (ts : PlainTerms) → lookup term_cmp q whole ≡ Some ts → terms_list ts ≡ at seen (term q)
  keyed q ts e = cases (lookup term_cmp q xs) refl (contains_key term_cmp q ks) (lookup term_cmp q es) refl (sym (found q) ∙ e)
    where
      cases : (own : Option PlainTerms) → lookup term_cmp q xs ≡ own → (b : Bool) (c : Option PlainTerms) → lookup term_cmp q es ≡ c → or_else own (found_at b c) ≡ Some ts → terms_list ts ≡ at seen (term q)
      cases (Some us) f b c g i = sym (ap found_in i) ∙ seen_here q (Some us) f
      cases None f true c g i = sym (ap found_in i) ∙ ap found_in (sym g) ∙ seen_here q None f
      cases None f false c g i = cc

  up : Ascends term_cmp (filled whole)
  up = ascends_filled whole (ascends_merged xs (at_keys ks es) (ascends_keys ks es t))

  all_keyed : AllKeyed (filled whole)
  all_keyed = keyed_by whole seen (ascends_merged xs (at_keys ks es) (ascends_keys ks es t)) keyed

  -- at each key those that are seen with the value are found
  cell : (q : Term) → filter (has_value p x) (at (joined (filled whole)) (term q)) ≡ filter (has_value p x) (at seen (term q))
  cell q =
      ap (filter (has_value p x)) (at-joined (filled whole) q up all_keyed ∙ lookup_filled whole q (ascends_merged xs (at_keys ks es) (ascends_keys ks es t)) ∙ ap found_in (found q))
      ∙ cases (lookup term_cmp q xs) refl (contains_key term_cmp q ks) refl
    where
      cases : (own : Option PlainTerms) → lookup term_cmp q xs ≡ own → (b : Bool) → contains_key term_cmp q ks ≡ b
          → filter (has_value p x) (found_in (or_else own (found_at b (lookup term_cmp q es)))) ≡ filter (has_value p x) (at seen (term q))
      cases (Some us) f b g = ap (filter (has_value p x)) (seen_here q (Some us) f)
      cases None f true g = ap (filter (has_value p x)) (seen_here q None f)
      cases None f false g =
          sym (none_left (has_value p x) (at (joined es) (term q)) (keys q g))
          ∙ ap (filter (has_value p x)) (at-joined es q o.ascends o.keyed ∙ seen_here q None f)

  found_seen : filter (has_value p x) (joined whole) ≡ index_read seen p x
  found_seen =
      ap (filter (has_value p x)) (sym (joined_filled whole))
      ∙ same_lists (filter (has_value p x) (joined (filled whole))) (index_read seen p x) (ordered-filter (has_value p x) (joined (filled whole)) (ordered-joined (filled whole) up all_keyed)) (ordered-filter (has_value p x) seen h.ordered)
      (λ k. swapped (has_value p x) (has_key k) (joined (filled whole)) ∙ subst (λ (j : PlainTerm). filter (has_value p x) (at (joined (filled whole)) j) ≡ filter (has_value p x) (at seen j)) (term_held k) (cell (term_value k)) ∙ sym (swapped (has_value p x) (has_key k) seen))

pub index_seen : (xs es : Touched) (ks : List Term) (rows seen : Rows) (p : ℕ) (x : PlainTerm) → joined es ≡ rows → IsInOrder es → Ascends term_cmp xs → KeysAscend term_cmp ks → AreKeysWith rows p x ks → IsSeen xs rows seen
    → filter (has_value p x) (joined (merged xs (at_keys ks es))) ≡ index_read seen p x
index_seen xs es ks rows seen p x j o s t keys h =
    found_seen xs es ks seen p x o s t (subst (λ (rs : Rows). AreKeysWith rs p x ks) (sym j) keys) (subst (λ (rs : Rows). IsSeen xs rs seen) (sym j) h)
