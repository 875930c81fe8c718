-- A table that stands beside its catalog: placed twice, and changed there.
use Rattle.std.proofs.Common.{◌≡◌, ℕ, List, [], ◌∷◌, Bool, true, false, refl, sym, ap, ◌∙◌, Some}
use Rattle.std.specs.Prelude.{if◌then◌else◌}
use Rattle.std.specs.Str.{bytes_eq}
use Rattle.std.proofs.lemmas.Slice.Eq.{bytes_eq-Decides}
use Rattle.tab_model.specs.declared.data.Change.{Change}
use Rattle.tab_model.specs.Names.{before}
use Rattle.tab_model.specs.Operations.{table_of_change, change_table, change_catalog}
use Rattle.tab_model.specs.Tables.{apply}
use Rattle.tab_model.specs.Catalogs.{Catalog, Table, name_of, find, place, with_rows}
use Rattle.tab_model.proofs.ChangeLaws.{find-place}

pub same_name : (a b : List ℕ) → b ≡ a → bytes_eq a b ≡ true
same_name a b e = (bytes_eq-Decides a b).1 (sym e)

-- the later of two tables of a name stands
pub placed_twice : (w : Catalog) (t u : Table) → name_of u ≡ name_of t → place (place w t) u ≡ place w u
placed_twice [] t u e = ap (λ b. if b then u ∷ [] else (if before (name_of u) (name_of t) then u ∷ t ∷ [] else t ∷ u ∷ [])) (same_name (name_of t) (name_of u) e)
placed_twice (x ∷ w) t u e = cases (placed_twice w t u e) (bytes_eq (name_of x) (name_of t)) refl (before (name_of t) (name_of x)) refl
  where
    there : place (x ∷ w) u ≡ (if bytes_eq (name_of x) (name_of t) then u ∷ w else (if before (name_of t) (name_of x) then u ∷ x ∷ w else x ∷ place w u))
    there = ap (λ n. if bytes_eq (name_of x) n then u ∷ w else (if before n (name_of x) then u ∷ x ∷ w else x ∷ place w u)) e

    cases : place (place w t) u ≡ place w u → (a : Bool) → bytes_eq (name_of x) (name_of t) ≡ a → (b : Bool) → before (name_of t) (name_of x) ≡ b
        → place (if a then t ∷ w else (if b then t ∷ x ∷ w else x ∷ place w t)) u ≡ place (x ∷ w) u
    cases ih true f b g =
        ap (λ z. if z then u ∷ w else (if before (name_of u) (name_of t) then u ∷ t ∷ w else t ∷ place w u)) (same_name (name_of t) (name_of u) e)
        ∙ sym (there ∙ ap (λ z. if z then u ∷ w else (if before (name_of t) (name_of x) then u ∷ x ∷ w else x ∷ place w u)) f)
    cases ih false f true g =
        ap (λ z. if z then u ∷ x ∷ w else (if before (name_of u) (name_of t) then u ∷ t ∷ x ∷ w else t ∷ place (x ∷ w) u)) (same_name (name_of t) (name_of u) e)
        ∙ sym (there ∙ ap (λ z. if z then u ∷ w else (if before (name_of t) (name_of x) then u ∷ x ∷ w else x ∷ place w u)) f ∙ ap (λ z. if z then u ∷ x ∷ w else x ∷ place w u) g)
    cases ih false f false g =
        ap (λ n. if bytes_eq (name_of x) n then u ∷ place w t else (if before n (name_of x) then u ∷ x ∷ place w t else x ∷ place (place w t) u)) e
        ∙ ap (λ z. if z then u ∷ place w t else (if before (name_of t) (name_of x) then u ∷ x ∷ place w t else x ∷ place (place w t) u)) f
        ∙ ap (λ z. if z then u ∷ x ∷ place w t else x ∷ place (place w t) u) g
        ∙ ap (λ v. x ∷ v) ih
        ∙ sym (there ∙ ap (λ z. if z then u ∷ w else (if before (name_of t) (name_of x) then u ∷ x ∷ w else x ∷ place w u)) f ∙ ap (λ z. if z then u ∷ x ∷ w else x ∷ place w u) g)

-- a change of the table that stands beside
pub changed_beside : (w : Catalog) (t : Table) (c : Change) → bytes_eq (name_of t) (table_of_change c) ≡ true → place w (with_rows t (apply t.def.kind t.rows c)) ≡ change_catalog (place w t) c
changed_beside w t c h =
    sym (placed_twice w t (with_rows t (apply t.def.kind t.rows c)) refl)
    ∙ sym (ap (λ o. change_table (place w t) o c) (find-place w t (table_of_change c) ∙ ap (λ b. if b then Some t else find w (table_of_change c)) h))
