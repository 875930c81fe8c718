-- Tables of which one has a newer version that isn't in its place yet.
use Rattle.std.specs.Prelude.{Option, None, Some}
use Rattle.tab_model.specs.Catalogs.{Catalog, Table, place}

-- the tables with the newer one in its place by name; as they are where there is none
abbrev pub with_newer : Catalog → Option Table → Catalog
with_newer w None = w
with_newer w (Some t) = place w t
