-- The ranges of the numbers in the words (this project's own limits).
use Rattle.std.specs.Prelude.{◌≤◌, ℕ, IfSome}
use Rattle.tab_words.specs.declared.serving.Sizes.{Sizes}
use Rattle.tab_words.specs.declared.parsing.Run.{Run}
use Rattle.tab_words.specs.declared.parsing.Run.TheVariants.{Replay, Serve}

-- how many connections, items of an outbox, and entries and bytes of the journal there may be
abbrev pub AreSizes : Sizes → Type 0
AreSizes s = (1 ≤ s.connections) × (s.connections ≤ 64) × (1 ≤ s.outbox) × (s.outbox ≤ 65536) × (16 ≤ s.journal) × (s.journal ≤ 65536) × (1048576 ≤ s.journal_bytes) × (s.journal_bytes ≤ 4294967295)

-- seconds, up to a day
abbrev pub IsIdle : ℕ → Type 0
IsIdle s = (1 ≤ s) × (s ≤ 86400)

-- the numbers of a run are in their ranges
abbrev pub AreInRange : Run → Type 0
AreInRange (Replay outbox) = (1 ≤ outbox) × (outbox ≤ 65536)
AreInRange (Serve a s) = AreSizes s.sizes × IfSome s.idle IsIdle
