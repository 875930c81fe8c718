-- Finding and placing tables by name, in a map and in a catalog.
use Rattle.std.proofs.Common.{◌≡◌, ℕ, List, [], ◌∷◌, false, refl, sym, ap, ap₂, ◌∙◌, Some, None, Ordering, Less, Equal, Greater}
use Rattle.std.specs.Prelude.{if◌then◌else◌, IfSome, Option}
use Rattle.std.specs.Str.{bytes_eq}
use Rattle.std.specs.Ordering.{match_ordering, ordering_reverse, is_lt, is_eq}
use Rattle.std.specs.Cmp.{IsTotalOrder}
use Rattle.std.proofs.lemmas.Cmp.{nat_list_cmp_total}
use Rattle.std.proofs.lemmas.Slice.Eq.{bytes_eq-Decides}
use Rattle.tab_term.specs.OrderLaws.{matches_bytes}
use Rattle.tab_map.specs.Entries.{lookup, insert_entry, remove_entry, AllAbove, Ascends}
use Rattle.tab_map.specs.Revised.{revised_as, revised_at}
use Rattle.tab_map.proofs.AscendsLemmas.{ascends_insert, ascends_remove}
use Rattle.tab_model.specs.declared.data.Change.{Change}
use Rattle.tab_model.specs.Names.{before}
use Rattle.tab_model.specs.Operations.{table_of_change, change_table, change_catalog}
use Rattle.tab_model.specs.Tables.{apply}
use Rattle.tab_model.specs.Catalogs.{Table, name_of, find, place, with_rows, without}
use Rattle.tab_tables.specs.Named.{Entry, catalog_of, AllNamed, AreNamed}
use Rattle.tab_term.specs.Order.{bytes_cmp}

-- a name compared, as a test
not_equal : (a b : List ℕ) (o : Ordering) → bytes_cmp a b ≡ o → is_eq o ≡ false → bytes_eq a b ≡ false
not_equal a b o h k = matches_bytes a b ∙ ap is_eq h ∙ k

flipped : (a b : List ℕ) (o : Ordering) → bytes_cmp a b ≡ o → bytes_cmp b a ≡ ordering_reverse o
flipped a b o h = IsTotalOrder.antisymm nat_list_cmp_total b a ∙ ap ordering_reverse h

find_above : (n : List ℕ) (es : List Entry) → AllAbove bytes_cmp n es → AllNamed es → find (catalog_of es) n ≡ None
find_above n [] a k = refl
find_above n (e ∷ es) a k =
    ap (λ b. if b then Some e.1 else find (catalog_of es) n) (ap (λ m. bytes_eq m n) k.0 ∙ not_equal e.0 n Greater (flipped n e.0 Less a.0) refl) ∙ find_above n es a.1 k.1

below_all : (n k : List ℕ) (es : List Entry) → bytes_cmp n k ≡ Less → AllAbove bytes_cmp k es → AllAbove bytes_cmp n es
below_all n k [] h a = tt
below_all n k (e ∷ es) h a = (IsTotalOrder.trans nat_list_cmp_total n k e.0 h a.0, below_all n k es h a.1)

pub found : (es : List Entry) (n : List ℕ) → AreNamed es → find (catalog_of es) n ≡ lookup bytes_cmp n es
found es n w = go es w.ascends w.named
  where
    go : (es : List Entry) → Ascends bytes_cmp es → AllNamed es → find (catalog_of es) n ≡ lookup bytes_cmp n es
    go [] s k = refl
    go (e ∷ es) s k = cases (go es s.1 k.1) (bytes_cmp n e.0) refl
      where
        cases : find (catalog_of es) n ≡ lookup bytes_cmp n es → (o : Ordering) → bytes_cmp n e.0 ≡ o → (if bytes_eq (name_of e.1) n then Some e.1 else find (catalog_of es) n) ≡ match_ordering o None (Some e.1) (lookup bytes_cmp n es)
        cases ih Less h = ap (λ b. if b then Some e.1 else find (catalog_of es) n) (ap (λ m. bytes_eq m n) k.0 ∙ not_equal e.0 n Greater (flipped n e.0 Less h) refl) ∙ find_above n es (below_all n e.0 es h s.0) k.1
        cases ih Equal h = ap (λ b. if b then Some e.1 else find (catalog_of es) n) (ap (λ m. bytes_eq m n) k.0 ∙ matches_bytes e.0 n ∙ ap is_eq (flipped n e.0 Equal h))
        cases ih Greater h = ap (λ b. if b then Some e.1 else find (catalog_of es) n) (ap (λ m. bytes_eq m n) k.0 ∙ not_equal e.0 n Less (flipped n e.0 Greater h) refl) ∙ ih

pub placed : (es : List Entry) (t : Table) (n : List ℕ) → n ≡ name_of t → AllNamed es → catalog_of (insert_entry bytes_cmp (n, t) es) ≡ place (catalog_of es) t
placed [] t n e k = refl
placed (x ∷ es) t n e k = cases (placed es t n e k.1) (bytes_cmp n x.0) refl
  where
    other : (o : Ordering) → bytes_cmp n x.0 ≡ o → bytes_eq (name_of x.1) (name_of t) ≡ is_eq (ordering_reverse o)
    other o h = ap (λ m. bytes_eq m (name_of t)) k.0 ∙ ap (bytes_eq x.0) (sym e) ∙ matches_bytes x.0 n ∙ ap is_eq (flipped n x.0 o h)

    less : (o : Ordering) → bytes_cmp n x.0 ≡ o → before (name_of t) (name_of x.1) ≡ is_lt o
    less o h = ap (λ m. before m (name_of x.1)) (sym e) ∙ ap (before n) k.0 ∙ ap is_lt h

    cases : catalog_of (insert_entry bytes_cmp (n, t) es) ≡ place (catalog_of es) t → (o : Ordering) → bytes_cmp n x.0 ≡ o
        → catalog_of (match_ordering o ((n, t) ∷ x ∷ es) ((n, t) ∷ es) (x ∷ insert_entry bytes_cmp (n, t) es)) ≡ (if bytes_eq (name_of x.1) (name_of t) then t ∷ catalog_of es else (if before (name_of t) (name_of x.1) then t ∷ x.1 ∷ catalog_of es else x.1 ∷ place (catalog_of es) t))
    cases ih Less h = sym (ap (λ b. if b then t ∷ catalog_of es else (if before (name_of t) (name_of x.1) then t ∷ x.1 ∷ catalog_of es else x.1 ∷ place (catalog_of es) t)) (other Less h) ∙ ap (λ b. if b then t ∷ x.1 ∷ catalog_of es else x.1 ∷ place (catalog_of es) t) (less Less h))
    cases ih Equal h = sym (ap (λ b. if b then t ∷ catalog_of es else (if before (name_of t) (name_of x.1) then t ∷ x.1 ∷ catalog_of es else x.1 ∷ place (catalog_of es) t)) (other Equal h))
    cases ih Greater h = ap (λ w. x.1 ∷ w) ih ∙ sym (ap (λ b. if b then t ∷ catalog_of es else (if before (name_of t) (name_of x.1) then t ∷ x.1 ∷ catalog_of es else x.1 ∷ place (catalog_of es) t)) (other Greater h) ∙ ap (λ b. if b then t ∷ x.1 ∷ catalog_of es else x.1 ∷ place (catalog_of es) t) (less Greater h))

all_named_insert : (es : List Entry) (x : Entry) → name_of x.1 ≡ x.0 → AllNamed es → AllNamed (insert_entry bytes_cmp x es)
all_named_insert [] x h k = (h, tt)
all_named_insert (e ∷ es) x h k = cases (all_named_insert es x h k.1) (bytes_cmp x.0 e.0)
  where
    cases : AllNamed (insert_entry bytes_cmp x es) → (o : Ordering) → AllNamed (match_ordering o (x ∷ e ∷ es) (x ∷ es) (e ∷ insert_entry bytes_cmp x es))
    cases ih Less = (h, k)
    cases ih Equal = (h, k.1)
    cases ih Greater = (k.0, ih)

pub named_insert : (es : List Entry) (t : Table) (n : List ℕ) → n ≡ name_of t → AreNamed es → AreNamed (insert_entry bytes_cmp (n, t) es)
named_insert es t n e w = record { ascends = ascends_insert nat_list_cmp_total (n, t) es w.ascends; named = all_named_insert es (n, t) (sym e) w.named }

pub named_at : (es : List Entry) (n : List ℕ) → AllNamed es → IfSome (lookup bytes_cmp n es) (λ t. n ≡ name_of t)
named_at [] n k = tt
named_at (e ∷ es) n k = cases (named_at es n k.1) (bytes_cmp n e.0) refl
  where
    cases : IfSome (lookup bytes_cmp n es) (λ t. n ≡ name_of t) → (o : Ordering) → bytes_cmp n e.0 ≡ o → IfSome (match_ordering o None (Some e.1) (lookup bytes_cmp n es)) (λ t. n ≡ name_of t)
    cases ih Less h = tt
    cases ih Equal h = (bytes_eq-Decides n e.0).0 (matches_bytes n e.0 ∙ ap is_eq h) ∙ sym k.0
    cases ih Greater h = ih

put_same : (es : List Entry) (n : List ℕ) (t : Table) → lookup bytes_cmp n es ≡ Some t → insert_entry bytes_cmp (n, t) es ≡ es
put_same [] n t h = let none : None ≡ Some t = h in cc
put_same (e ∷ es) n t h = cases (put_same es n t) (bytes_cmp n e.0) refl h
  where
    cases : (lookup bytes_cmp n es ≡ Some t → insert_entry bytes_cmp (n, t) es ≡ es) → (o : Ordering) → bytes_cmp n e.0 ≡ o → match_ordering o None (Some e.1) (lookup bytes_cmp n es) ≡ Some t
        → match_ordering o ((n, t) ∷ e ∷ es) ((n, t) ∷ es) (e ∷ insert_entry bytes_cmp (n, t) es) ≡ e ∷ es
    cases ih Less q g = let none : None ≡ Some t = g in cc
    cases ih Equal q g = let is : e.1 ≡ t = cc in ap₂ (λ (m : List ℕ) (s : Table). (m, s) ∷ es) ((bytes_eq-Decides n e.0).0 (matches_bytes n e.0 ∙ ap is_eq q)) (sym is)
    cases ih Greater q g = ap (λ xs. e ∷ xs) (ih g)

-- a table that stays the same
pub revised_same : (es : List Entry) (n : List ℕ) → revised_at bytes_cmp (λ t. t) n es ≡ es
revised_same es n = cases (lookup bytes_cmp n es) refl
  where
    cases : (o : Option Table) → lookup bytes_cmp n es ≡ o → revised_as bytes_cmp (λ t. t) n es o ≡ es
    cases None h = refl
    cases (Some t) h = put_same es n t h

-- the table of a change, where it stands, with its records after the change
abbrev pub changed : Change → Table → Table
changed c t = with_rows t (apply t.def.kind t.rows c)

pub altered : (es : List Entry) (c : Change) → AreNamed es → catalog_of (revised_at bytes_cmp (changed c) (table_of_change c) es) ≡ change_catalog (catalog_of es) c
altered es c w = cases (lookup bytes_cmp (table_of_change c) es) (named_at es (table_of_change c) w.named) ∙ ap (λ o. change_table (catalog_of es) o c) (sym (found es (table_of_change c) w))
  where
    cases : (o : Option Table) → IfSome o (λ t. table_of_change c ≡ name_of t) → catalog_of (revised_as bytes_cmp (changed c) (table_of_change c) es o) ≡ change_table (catalog_of es) o c
    cases None h = refl
    cases (Some t) h = placed es (changed c t) (table_of_change c) h w.named

pub named_altered : (es : List Entry) (c : Change) → AreNamed es → AreNamed (revised_at bytes_cmp (changed c) (table_of_change c) es)
named_altered es c w = cases (lookup bytes_cmp (table_of_change c) es) (named_at es (table_of_change c) w.named)
  where
    cases : (o : Option Table) → IfSome o (λ t. table_of_change c ≡ name_of t) → AreNamed (revised_as bytes_cmp (changed c) (table_of_change c) es o)
    cases None h = w
    cases (Some t) h = named_insert es (changed c t) (table_of_change c) h w

at_all : (n k : List ℕ) (es : List Entry) → bytes_cmp n k ≡ Equal → AllAbove bytes_cmp k es → AllAbove bytes_cmp n es
at_all n k [] h a = tt
at_all n k (e ∷ es) h a = (IsTotalOrder.congr nat_list_cmp_total n k e.0 h ∙ a.0, at_all n k es h a.1)

-- a table goes
without_above : (n : List ℕ) (es : List Entry) → AllAbove bytes_cmp n es → AllNamed es → without (catalog_of es) n ≡ catalog_of es
without_above n [] a k = refl
without_above n (e ∷ es) a k =
    ap (λ b. if b then without (catalog_of es) n else e.1 ∷ without (catalog_of es) n) (ap (λ m. bytes_eq m n) k.0 ∙ not_equal e.0 n Greater (flipped n e.0 Less a.0) refl)
    ∙ ap (λ w. e.1 ∷ w) (without_above n es a.1 k.1)

pub gone : (es : List Entry) (n : List ℕ) → AreNamed es → catalog_of (remove_entry bytes_cmp n es) ≡ without (catalog_of es) n
gone es n w = go es w.ascends w.named
  where
    go : (es : List Entry) → Ascends bytes_cmp es → AllNamed es → catalog_of (remove_entry bytes_cmp n es) ≡ without (catalog_of es) n
    go [] s k = refl
    go (e ∷ es) s k = cases (go es s.1 k.1) (bytes_cmp n e.0) refl
      where
        cases : catalog_of (remove_entry bytes_cmp n es) ≡ without (catalog_of es) n → (o : Ordering) → bytes_cmp n e.0 ≡ o
            → catalog_of (match_ordering o (e ∷ es) es (e ∷ remove_entry bytes_cmp n es)) ≡ (if bytes_eq (name_of e.1) n then without (catalog_of es) n else e.1 ∷ without (catalog_of es) n)
        cases ih Less h =
            ap (λ v. e.1 ∷ v) (sym (without_above n es (below_all n e.0 es h s.0) k.1))
            ∙ sym (ap (λ b. if b then without (catalog_of es) n else e.1 ∷ without (catalog_of es) n) (ap (λ m. bytes_eq m n) k.0 ∙ not_equal e.0 n Greater (flipped n e.0 Less h) refl))
        cases ih Equal h =
            sym (without_above n es (at_all n e.0 es h s.0) k.1)
            ∙ sym (ap (λ b. if b then without (catalog_of es) n else e.1 ∷ without (catalog_of es) n) (ap (λ m. bytes_eq m n) k.0 ∙ matches_bytes e.0 n ∙ ap is_eq (flipped n e.0 Equal h)))
        cases ih Greater h =
            ap (λ v. e.1 ∷ v) ih
            ∙ sym (ap (λ b. if b then without (catalog_of es) n else e.1 ∷ without (catalog_of es) n) (ap (λ m. bytes_eq m n) k.0 ∙ not_equal e.0 n Less (flipped n e.0 Greater h) refl))

all_named_remove : (es : List Entry) (n : List ℕ) → AllNamed es → AllNamed (remove_entry bytes_cmp n es)
all_named_remove [] n k = tt
all_named_remove (e ∷ es) n k = cases (all_named_remove es n k.1) (bytes_cmp n e.0)
  where
    cases : AllNamed (remove_entry bytes_cmp n es) → (o : Ordering) → AllNamed (match_ordering o (e ∷ es) es (e ∷ remove_entry bytes_cmp n es))
    cases ih Less = k
    cases ih Equal = k.1
    cases ih Greater = (k.0, ih)

pub named_remove : (es : List Entry) (n : List ℕ) → AreNamed es → AreNamed (remove_entry bytes_cmp n es)
named_remove es n w = record { ascends = ascends_remove bytes_cmp n es w.ascends; named = all_named_remove es n w.named }
