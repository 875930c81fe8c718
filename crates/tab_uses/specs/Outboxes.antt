-- How many items an outbox holds, by the words of a command line.
use Rattle.std.specs.Prelude.{◌≡◌, ℕ, List, Option, None, Some, codes}
use Rattle.clap.specs.Words.{Row, Text}
use Rattle.tab_words.specs.Asked.{IsNumberOf}

-- the number of the option, if the words name one of the two commands; 64 if it is not given
abbrev pub IsOutboxOf : Option (Text × List Row) → ℕ → Type 0
IsOutboxOf None n = Unit {0}
IsOutboxOf (Some c) n = (c.0 ≡ codes "serve" → IsNumberOf (codes "outbox") 1 65536 64 c.1 n) × (c.0 ≡ codes "replay" → IsNumberOf (codes "outbox") 1 65536 64 c.1 n)
