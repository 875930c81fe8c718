-- A schema command, before its end markers are put.
use Rattle.std.specs.Prelude.{◌≡◌, [], Option, Some, None}
use Rattle.tab_model.specs.declared.data.Entry.TheVariants.{Changed}
use Rattle.tab_model.specs.declared.data.Reply.{Reply}
use Rattle.tab_model.specs.declared.data.Reply.TheVariants as reply
use Rattle.tab_model.specs.declared.data.Schema.{Schema}
use Rattle.tab_model.specs.Outcome.{first_of, schema_refusals}
use Rattle.tab_model.specs.Schemas.{schema_effect}
use Rattle.tab_model.specs.State.{State}
use Rattle.tab_core.specs.declared.step.Stepped.{Stepped}

-- by what refuses it: nothing changes; or it is done, and its tables are the new ones
abbrev pub RedefinesBy : Option Reply → State → Schema → Stepped → State → Type 0
RedefinesBy (Some r) σ c s τ = (s ≡ record { reply = r; entry = None }) × (τ ≡ σ)
RedefinesBy None σ c s τ = (s ≡ record { reply = reply.AtomicOk; entry = Some (Changed c []) }) × (τ ≡ record σ { tables = schema_effect σ.tables c })

-- a schema command outside a transaction
abbrev pub Redefines : State → Schema → Stepped → State → Type 0
Redefines σ c = RedefinesBy (first_of (schema_refusals σ c None)) σ c
