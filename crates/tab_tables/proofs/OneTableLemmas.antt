-- Changes of one table, made together.
use Rattle.std.proofs.Common.{◌≡◌, ℕ, List, [], ◌∷◌, true, refl, sym, ap, ◌∙◌, Some, None}
use Rattle.std.specs.Prelude.{IfSome, Option, slice_index_or}
use Rattle.std.specs.List.{All, list_all}
use Rattle.std.proofs.lemmas.List.Elements.{All-head, All-tail}
use Rattle.std.proofs.lemmas.List.Sums.{AllPass-from_list_all}
use Rattle.std.proofs.lemmas.Slice.Eq.{bytes_eq-Decides}
use Rattle.tab_map.specs.Entries.{lookup}
use Rattle.tab_map.specs.Revised.{revised_as, revised_at}
use Rattle.tab_model.specs.declared.data.Change.{Change}
use Rattle.tab_model.specs.Operations.{table_of_change, change_table}
use Rattle.tab_model.specs.Events.{change_all}
use Rattle.tab_model.specs.Tables.{rows_after}
use Rattle.tab_model.specs.Catalogs.{Catalog, Table, name_of, find, place, with_rows}
use Rattle.tab_tables.specs.Named.{Entry, catalog_of, AreNamed}
use Rattle.tab_tables.specs.OneTable.{AreOf, is_of}
use Rattle.tab_tables.proofs.NamedLemmas.{changed, found, placed, named_at, named_insert}
use Rattle.tab_tables.proofs.ChangingLemmas.{changed_beside, same_name}
use Rattle.tab_term.specs.Order.{bytes_cmp}

-- a table with its records after the changes
abbrev pub all_changed : List Change → Table → Table
all_changed cs t = with_rows t (rows_after t.def.kind t.rows cs)

-- changes of the table of this name
abbrev AllOf : List ℕ → List Change → Type 0
AllOf n cs = All (λ c. table_of_change c ≡ n) cs

pub all_of : (n : List ℕ) (cs : List Change) → list_all (is_of n) cs ≡ true → AllOf n cs
all_of n cs h k d l = (bytes_eq-Decides (table_of_change (slice_index_or cs k d)) n).0 (AllPass-from_list_all (is_of n) cs h k d l)

-- no such table
none_changed : (w : Catalog) (n : List ℕ) (cs : List Change) → find w n ≡ None → AllOf n cs → change_all w cs ≡ w
none_changed w n [] f all = refl
none_changed w n (c ∷ cs) f all =
    ap (λ o. change_all (change_table w o c) cs) (ap (find w) (All-head (λ c. table_of_change c ≡ n) c cs all) ∙ f) ∙ none_changed w n cs f (All-tail (λ c. table_of_change c ≡ n) c cs all)

-- a table inserted beside
all_beside : (w : Catalog) (t : Table) (n : List ℕ) (cs : List Change) → n ≡ name_of t → AllOf n cs → change_all (place w t) cs ≡ place w (all_changed cs t)
all_beside w t n [] e all = refl
all_beside w t n (c ∷ cs) e all =
    ap (λ v. change_all v cs) (sym (changed_beside w t c (same_name (name_of t) (table_of_change c) (All-head (λ c. table_of_change c ≡ n) c cs all ∙ e))))
    ∙ all_beside w (changed c t) n cs e (All-tail (λ c. table_of_change c ≡ n) c cs all)

-- a table of that name
some_changed : (w : Catalog) (t : Table) (n : List ℕ) (cs : List Change) → find w n ≡ Some t → n ≡ name_of t → AreOf n cs → change_all w cs ≡ place w (all_changed cs t)
some_changed w t n [] f e are = absurd (are.some refl)
some_changed w t n (c ∷ cs) f e are =
    ap (λ o. change_all (change_table w o c) cs) (ap (find w) (All-head (λ c. table_of_change c ≡ n) c cs are.all) ∙ f)
    ∙ all_beside w (changed c t) n cs e (All-tail (λ c. table_of_change c ≡ n) c cs are.all)

-- ---- the map of the tables

pub all_altered : (es : List Entry) (n : List ℕ) (cs : List Change) → AreNamed es → AreOf n cs → catalog_of (revised_at bytes_cmp (all_changed cs) n es) ≡ change_all (catalog_of es) cs
all_altered es n cs w are = cases (lookup bytes_cmp n es) (named_at es n w.named) (found es n w)
  where
    cases : (o : Option Table) → IfSome o (λ t. n ≡ name_of t) → find (catalog_of es) n ≡ o → catalog_of (revised_as bytes_cmp (all_changed cs) n es o) ≡ change_all (catalog_of es) cs
    cases None h f = sym (none_changed (catalog_of es) n cs f are.all)
    cases (Some t) h f = placed es (all_changed cs t) n h w.named ∙ sym (some_changed (catalog_of es) t n cs f h are)

pub named_all_altered : (es : List Entry) (n : List ℕ) (cs : List Change) → AreNamed es → AreNamed (revised_at bytes_cmp (all_changed cs) n es)
named_all_altered es n cs w = cases (lookup bytes_cmp n es) (named_at es n w.named)
  where
    cases : (o : Option Table) → IfSome o (λ t. n ≡ name_of t) → AreNamed (revised_as bytes_cmp (all_changed cs) n es o)
    cases None h = w
    cases (Some t) h = named_insert es (all_changed cs t) n h w
