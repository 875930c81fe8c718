-- What a schema command comes to on one catalog.
use Rattle.std.specs.Prelude.{◌≡◌, Some, None}
use Rattle.tab_model.specs.declared.data.Schema.{Schema}
use Rattle.tab_model.specs.Catalogs.{Catalog}
use Rattle.tab_model.specs.Schemas.{schema_refusal, schema_effect}
use Rattle.tab_tables.specs.declared.schemas.Redefined.{Redefined}
use Rattle.tab_tables.specs.declared.schemas.Redefined.TheVariants.{Refused, Done}

-- the command is refused with this reply, or it is not refused and leaves these tables
abbrev pub Redefines : Catalog → Schema → Redefined → Type 0
Redefines w c (Refused r) = schema_refusal w c ≡ Some r
Redefines w c (Done tables) = (schema_refusal w c ≡ None) × (tables ≡ schema_effect w c)
