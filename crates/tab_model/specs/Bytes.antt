-- How many bytes of memory an item of an outbox takes that no table has (this project's own).
use Rattle.std.specs.Prelude.{ℕ}
use Rattle.tab_term.specs.Memory.{event_memories}
use Rattle.tab_model.specs.declared.data.Item.{Item}
use Rattle.tab_model.specs.declared.data.Item.TheVariants.{Batch}

-- the records of a commit's events; a marker weighs nothing, and a dump's records are the table's
abbrev pub item_memory : Item → ℕ
item_memory (Batch n events) = event_memories events
item_memory x = 0
