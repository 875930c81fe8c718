-- What a touched key shows is what stands there in the tables that the transaction sees.
use Rattle.std.proofs.Common.{◌≡◌, ℕ, List, [], ◌∷◌, ◌++◌, Bool, true, false, refl, sym, ap, ap₂, ◌∙◌, subst, Option, Some, None, Ordering, Less, Equal, Greater, nat_cmp}
use Rattle.std.specs.Prelude.{if◌then◌else◌}
use Rattle.std.specs.Str.{bytes_eq}
use Rattle.std.specs.List.{list_any}
use Rattle.std.specs.Ordering.{match_ordering, ordering_reverse, is_eq}
use Rattle.std.specs.Cmp.{IsTotalOrder}
use Rattle.std.specs.Cmp.Lexicographic.{slice_cmp}
use Rattle.std.proofs.lemmas.Cmp.{nat_list_cmp_total}
use Rattle.tab_term.specs.Canon.{canon}
use Rattle.tab_term.specs.Data.{PlainTerm, PlainTerms}
use Rattle.tab_term.specs.OrderLaws.{canon_same, matches_bytes}
use Rattle.tab_term.specs.Order.{bytes_cmp, term_cmp}
use Rattle.tab_term.specs.Same.{same}
use Rattle.tab_term.specs.View.{term}
use Rattle.tab_term.proofs.Total.{term_total}
use Rattle.tab_map.specs.Entries.{lookup, insert_entry, Ascends}
use Rattle.tab_map.proofs.AscendsLemmas.{ascends_insert}
use Rattle.tab_records.proofs.LookUps.{lookup_insert}
use Rattle.tab_model.specs.declared.data.Change.{Change}
use Rattle.tab_model.specs.declared.data.Change.TheVariants as change
use Rattle.tab_model.specs.declared.data.Kind.{Kind}
use Rattle.tab_model.specs.declared.data.Kind.TheVariants.{Set, Bag}
use Rattle.tab_model.specs.declared.data.TableDef.{TableDef}
use Rattle.tab_model.specs.Names.{plain_terms, terms_list}
use Rattle.tab_model.specs.Tables.{Rows, key, at, insert, put_bag, apply, is_ordered}
use Rattle.tab_model.specs.Operations.{table_of_change, key_of_change, change_table, change_catalog}
use Rattle.tab_model.specs.Shapes.{term_value}
use Rattle.tab_model.specs.Catalogs.{Catalog, Table, find, with_rows, IsOrderedCatalog}
use Rattle.tab_model.proofs.TableLaws.{same_true, same_refl}
use Rattle.tab_model.proofs.ChangeLaws.{at-apply, ordered-apply, find-place, none_left, at_end}
use Rattle.tab_model.proofs.ShapeLaws.{term_held}
use Rattle.tab_model.proofs.RepliesStay.{find_name, eq_names}
use Rattle.tab_txstore.specs.Overlays.{Touched, Overlay, touched_in, touched, or_committed, seen_at, left, touch_key, touch_in}

-- two keys, compared
same_itself : (t : PlainTerm) → slice_cmp nat_cmp (canon t) (canon t) ≡ Equal
same_itself t = Rattle.std.proofs.lemmas.Cmp.tied_itself nat_list_cmp_total (canon t)

other_key : (k j : PlainTerm) (o : Ordering) → term_cmp (term_value k) (term_value j) ≡ o → (o ≡ Equal → ⊥) → same j k ≡ false
other_key k j o h n = cases (same j k) refl
  where
    cases : (b : Bool) → same j k ≡ b → b ≡ false
    cases false e = refl
    cases true e = absurd (n (sym h ∙ ap₂ (λ a b. slice_cmp nat_cmp (canon a) (canon b)) (term_held k) (term_held j) ∙ ap (λ a. slice_cmp nat_cmp (canon k) (canon a)) (same_true j k e) ∙ same_itself k))

equal_key : (k j : PlainTerm) → term_cmp (term_value k) (term_value j) ≡ Equal → j ≡ k
equal_key k j h = sym (sym (term_held k) ∙ canon_same (term (term_value k)) (term (term_value j)) h ∙ term_held j)

round : (xs : Rows) → terms_list (plain_terms xs) ≡ xs
round [] = refl
round (x ∷ xs) = ap (λ ys. x ∷ ys) (round xs)

-- made on a key's records alone, a change is what it is on them as a table
left_is : (kind : Kind) (rows : Rows) (c : Change) → left kind (at rows (key_of_change c)) c ≡ apply kind (at rows (key_of_change c)) c
left_is Set rows (change.Write r) = ap (insert (term r)) (sym (none_left rows (key (term r))))
left_is Bag rows (change.Write r) = cases (list_any (same (term r)) (at rows (key (term r))))
  where
    cases : (b : Bool) → (if b then at rows (key (term r)) else at rows (key (term r)) ++ term r ∷ []) ≡ put_bag (at rows (key (term r))) (term r) b
    cases true = refl
    cases false = sym (at_end rows (term r))
left_is kind rows (change.Delete t k) = sym (none_left rows (term k))
left_is kind rows (change.DeleteObject r) = refl

-- the table that is lent, and the one that the transaction sees
pub record ShowsTable (es : Touched) (x y : Table) : Type 0 where
  pub def : y.def ≡ x.def
  pub ordered : is_ordered y.rows ≡ true
  pub ascends : Ascends term_cmp es
  pub cells : (k : PlainTerm) → seen_at es x.rows k ≡ at y.rows k

abbrev pub ShowsIn : Touched → Option Table → Option Table → Type 0
ShowsIn es None None = Unit {0}
ShowsIn es (Some x) (Some y) = ShowsTable es x y
ShowsIn es None (Some y) = ⊥
ShowsIn es (Some x) None = ⊥

pub record Shows (w : Catalog) (v : Overlay) (n : Catalog) : Type 0 where
  pub ascends : Ascends bytes_cmp v
  pub tables : (t : List ℕ) → ShowsIn (touched v t) (find w t) (find n t)

pub shows_nothing : (w : Catalog) → IsOrderedCatalog w → Shows w [] w
shows_nothing w o = record { ascends = tt; tables = λ t. cases t (find w t) refl }
  where
    cases : (t : List ℕ) (x : Option Table) → find w t ≡ x → ShowsIn [] x x
    cases t None e = tt
    cases t (Some x) e = record { def = refl; ordered = o t x e; ascends = tt; cells = λ k. refl }

-- a table's touched keys after one table's are put in place
touched_insert : (v : Overlay) (m : List ℕ) (es : Touched) (t : List ℕ) → Ascends bytes_cmp v → touched (insert_entry bytes_cmp (m, es) v) t ≡ (if bytes_eq m t then es else touched v t)
touched_insert v m es t s = ap touched_in (lookup_insert nat_list_cmp_total (m, es) v t s) ∙ cases (bytes_cmp t m) refl
  where
    test : (o : Ordering) → bytes_cmp t m ≡ o → bytes_eq m t ≡ is_eq (ordering_reverse o)
    test o h = matches_bytes m t ∙ ap is_eq (IsTotalOrder.antisymm nat_list_cmp_total m t ∙ ap ordering_reverse h)

    cases : (o : Ordering) → bytes_cmp t m ≡ o → touched_in (match_ordering o (lookup bytes_cmp t v) (Some es) (lookup bytes_cmp t v)) ≡ (if bytes_eq m t then es else touched v t)
    cases Less h = sym (ap (λ b. if b then es else touched v t) (test Less h))
    cases Equal h = sym (ap (λ b. if b then es else touched v t) (test Equal h))
    cases Greater h = sym (ap (λ b. if b then es else touched v t) (test Greater h))

-- one change, on both sides
shows_touch_key : (es : Touched) (x y : Table) (c : Change) → ShowsTable es x y → ShowsTable (touch_key x.def.kind x.rows es c) x (with_rows y (apply y.def.kind y.rows c))
shows_touch_key es x y c a = record {
  def = a.def;
  ordered = ordered-apply y.def.kind y.rows c a.ordered;
  ascends = ascends_insert term_total (term_value (key_of_change c), here) es a.ascends;
  cells = λ k. ap (λ z. or_committed z (at x.rows k)) (lookup_insert term_total (term_value (key_of_change c), here) es (term_value k) a.ascends)
      ∙ cases k (term_cmp (term_value k) (term_value (key_of_change c))) refl ∙ sym (at-apply y.def.kind y.rows c k a.ordered);
}
  where
    here : PlainTerms
    here = plain_terms (left x.def.kind (seen_at es x.rows (key_of_change c)) c)

    made : terms_list here ≡ apply y.def.kind (at y.rows (key_of_change c)) c
    made = round (left x.def.kind (seen_at es x.rows (key_of_change c)) c) ∙ (λ i. left (TableDef.kind (sym a.def i)) (a.cells (key_of_change c) i) c) ∙ left_is y.def.kind y.rows c

    cases : (k : PlainTerm) (o : Ordering) → term_cmp (term_value k) (term_value (key_of_change c)) ≡ o
        → or_committed (match_ordering o (lookup term_cmp (term_value k) es) (Some here) (lookup term_cmp (term_value k) es)) (at x.rows k) ≡ (if same (key_of_change c) k then apply y.def.kind (at y.rows k) c else at y.rows k)
    cases k Less h = a.cells k ∙ sym (ap (λ b. if b then apply y.def.kind (at y.rows k) c else at y.rows k) (other_key k (key_of_change c) Less h (λ g. cc)))
    cases k Greater h = a.cells k ∙ sym (ap (λ b. if b then apply y.def.kind (at y.rows k) c else at y.rows k) (other_key k (key_of_change c) Greater h (λ g. cc)))
    cases k Equal h =
        let e : key_of_change c ≡ k = equal_key k (key_of_change c) h in
        made ∙ ap (λ j. apply y.def.kind (at y.rows j) c) e
        ∙ sym (ap (λ b. if b then apply y.def.kind (at y.rows k) c else at y.rows k) (ap (λ j. same j k) e ∙ same_refl k))

pub shows_touch : (w : Catalog) (v : Overlay) (n : Catalog) (c : Change) → Shows w v n → Shows w (touch_in (find w (table_of_change c)) v c) (change_catalog n c)
shows_touch w v n c a = cases (find w (table_of_change c)) refl (find n (table_of_change c)) refl (a.tables (table_of_change c))
  where
    cases : (x : Option Table) → find w (table_of_change c) ≡ x → (y : Option Table) → find n (table_of_change c) ≡ y → ShowsIn (touched v (table_of_change c)) x y → Shows w (touch_in x v c) (change_table n y c)
    cases None e None f g = a
    cases None e (Some y) f g = absurd g
    cases (Some x) e None f g = absurd g
    cases (Some x) e (Some y) f g = subst (λ (z : Overlay). Shows w z (change_table n (Some y) c)) (sym named) (record { ascends = ascends_insert nat_list_cmp_total (table_of_change c, es) v a.ascends; tables = at_table })
      where
        es : Touched
        es = touch_key x.def.kind x.rows (touched v (table_of_change c)) c

        -- the committed table has the name that it was found by
        named : touch_in (Some x) v c ≡ insert_entry bytes_cmp (table_of_change c, es) v
        named = ap (λ m. insert_entry bytes_cmp (m, touch_key x.def.kind x.rows (touched v m) c) v) (find_name w (table_of_change c) x e)

        y' : Table
        y' = with_rows y (apply y.def.kind y.rows c)

        placed : (t : List ℕ) (b : Bool) → bytes_eq (table_of_change c) t ≡ b → ShowsIn (if b then es else touched v t) (find w t) (if b then Some y' else find n t)
        placed t false h = a.tables t
        placed t true h = subst (λ (m : List ℕ). ShowsIn es (find w m) (Some y')) (eq_names (table_of_change c) t h) (subst (λ z. ShowsIn es z (Some y')) (sym e) (shows_touch_key (touched v (table_of_change c)) x y c g))

        at_table : (t : List ℕ) → ShowsIn (touched (insert_entry bytes_cmp (table_of_change c, es) v) t) (find w t) (find (change_table n (Some y) c) t)
        at_table t =
            subst (λ z. ShowsIn z (find w t) (find (change_table n (Some y) c) t)) (sym (touched_insert v (table_of_change c) es t a.ascends))
            (subst (λ z. ShowsIn (if bytes_eq (table_of_change c) t then es else touched v t) (find w t) z)
            (sym (find-place n y' t ∙ ap (λ m. if bytes_eq m t then Some y' else find n t) (find_name n (table_of_change c) y f)))
            (placed t (bytes_eq (table_of_change c) t) refl))
