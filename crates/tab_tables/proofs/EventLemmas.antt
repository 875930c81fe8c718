-- A table that stands beside its catalog is found there.
use Rattle.std.proofs.Common.{◌≡◌, List, ℕ, true, false, sym, ap, ◌∙◌, Some}
use Rattle.std.specs.Prelude.{if◌then◌else◌}
use Rattle.std.specs.Str.{bytes_eq}
use Rattle.tab_model.specs.Catalogs.{Catalog, Table, name_of, find, place}
use Rattle.tab_model.proofs.ChangeLaws.{find-place}

pub found_beside : (w : Catalog) (t : Table) (n : List ℕ) → bytes_eq (name_of t) n ≡ true → Some t ≡ find (place w t) n
found_beside w t n h = sym (find-place w t n ∙ ap (λ b. if b then Some t else find w n) h)

pub found_elsewhere : (w : Catalog) (t : Table) (n : List ℕ) → bytes_eq (name_of t) n ≡ false → find w n ≡ find (place w t) n
found_elsewhere w t n h = sym (find-place w t n ∙ ap (λ b. if b then Some t else find w n) h)
