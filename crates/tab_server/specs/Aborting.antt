-- An abort that comes next in a stream (this project's own rules).
use Rattle.std.specs.Prelude.{◌≡◌, ℕ, List, Some}
use Rattle.tab_term.specs.declared.term.Term.{Term}
use Rattle.tab_etf.specs.Streams.{front}
use Rattle.tab_model.specs.declared.data.Command.TheVariants as command
use Rattle.tab_server.specs.Rereading.{IsSpelledBy}

-- the payload is the term of an abort
abbrev pub IsAbort : List ℕ → Type 0
IsAbort payload = (reason : Term) × IsSpelledBy payload (command.Abort reason)

-- the payload of the first frame of these bytes is the term of an abort
abbrev pub BeginsWithAbort : List ℕ → Type 0
BeginsWithAbort bytes = (payload : List ℕ) × (rest : List ℕ) × (front bytes ≡ Some (payload, rest)) × IsAbort payload
