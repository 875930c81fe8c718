-- How many bytes of memory the terms of an entry take that came with its requests, and that no table has (this project's
-- own). The names of tables do not count.
use Rattle.std.specs.Prelude.{ℕ, ◌+◌, List, [], ◌∷◌, Option, Some, None}
use Rattle.tab_term.specs.Memory.{memory, memories}
use Rattle.tab_term.specs.View.{term}
use Rattle.tab_model.specs.declared.data.Operation.{Operation}
use Rattle.tab_model.specs.declared.data.Operation.TheVariants as op
use Rattle.tab_model.specs.declared.data.Move.{Move}
use Rattle.tab_model.specs.declared.data.Move.TheVariants.{Do}
use Rattle.tab_model.specs.declared.data.Reply.{Reply}
use Rattle.tab_model.specs.declared.data.Reply.TheVariants as reply
use Rattle.tab_model.specs.declared.data.Schema.{Schema}
use Rattle.tab_model.specs.declared.data.Schema.TheVariants.{Create, AddIndex, DelIndex}
use Rattle.tab_model.specs.declared.data.Entry.{Entry}
use Rattle.tab_model.specs.declared.data.Entry.TheVariants.{Committed, Changed}

-- the record, key, pattern or value of an operation, with the attribute
abbrev pub operation_memory : Operation → ℕ
operation_memory (op.Read t k) = memory (term k)
operation_memory (op.ReadForWrite t k) = memory (term k)
operation_memory (op.Write r) = memory (term r)
operation_memory (op.Delete t k) = memory (term k)
operation_memory (op.DeleteObject r) = memory (term r)
operation_memory (op.IndexRead t x a) = memory (term x) + memory (term a)
operation_memory (op.MatchObject p) = memory (term p)
operation_memory o = 0

-- a begin or an end of a level has no terms
abbrev pub move_memory : Move → ℕ
move_memory (Do o) = operation_memory o
move_memory x = 0

abbrev pub moves_memory : List Move → ℕ
moves_memory [] = 0
moves_memory (x ∷ xs) = move_memory x + moves_memory xs

-- the record, attribute, reason or options that a refusal repeats; a list of records shares them with a table, or with a write
abbrev pub reply_memory : Reply → ℕ
reply_memory (reply.BadType t x) = memory (term x)
reply_memory (reply.NoIndex t x) = memory (term x)
reply_memory (reply.UserAbort x) = memory (term x)
reply_memory (reply.BadDefinition t x) = memory (term x)
reply_memory r = 0

-- an abort has no reply in an entry
abbrev pub told_memory : Option Reply → ℕ
told_memory (Some r) = reply_memory r
told_memory None = 0

abbrev pub replies_memory : List (Option Reply) → ℕ
replies_memory [] = 0
replies_memory (r ∷ rs) = told_memory r + replies_memory rs

-- the options of a table, or the attribute of an index
abbrev pub schema_memory : Schema → ℕ
schema_memory (Create t options) = memories options
schema_memory (AddIndex t a) = memory (term a)
schema_memory (DelIndex t a) = memory (term a)
schema_memory c = 0

-- a subscription has no terms
abbrev pub entry_memory : Entry → ℕ
entry_memory (Committed n s age xs rs over) = moves_memory xs + replies_memory rs
entry_memory (Changed c over) = schema_memory c
entry_memory e = 0
