-- What the words ask for (this project's own): an option that is not given has its default.
use Rattle.std.specs.Prelude.{◌≡◌, ◌≢◌, ℕ, List, [], ◌∷◌, Bool, true, false, Option, Some, None, codes, if◌then◌else◌, string_bytes}
use Rattle.std.specs.Str.{bytes_eq}
use Rattle.std.specs.Str.Parse.{digits_value, without_leading_plus}
use Rattle.clap.specs.Words.{IsUnsignedIn, Kinds, Row, Text, first_of, one_of}
use Rattle.clap.specs.declared.error.kind.ErrorKind.TheVariants.{ArgumentConflict, MissingRequiredArgument, ValueValidation}
use Rattle.tab_words.specs.declared.serving.Address.{Address}
use Rattle.tab_words.specs.declared.serving.Address.TheVariants.{Port, Socket}
use Rattle.tab_words.specs.declared.serving.Log.{Log}
use Rattle.tab_words.specs.declared.serving.Log.TheVariants.{Full, Brief}
use Rattle.tab_proto.specs.declared.events.Delivery.{Delivery}
use Rattle.tab_proto.specs.declared.events.Delivery.TheVariants.{Batches, Events}
use Rattle.tab_words.specs.declared.serving.Service.{Service}
use Rattle.tab_words.specs.declared.parsing.Run.{Run}
use Rattle.tab_words.specs.declared.parsing.Run.TheVariants.{Replay, Serve}

-- the number in a text
abbrev pub number_in : Text → ℕ
number_in t = digits_value 10 (without_leading_plus t)

-- an option's number, where a command's options are these rows; the fallback where it is not given
pub record IsNumberOf (name : Text) (least most fallback : ℕ) (rows : List Row) (n : ℕ) : Type 0 where
  pub absent : one_of name rows ≡ None → n ≡ fallback
  pub given : (t : Text) → one_of name rows ≡ Some t → IsUnsignedIn least most t → n ≡ number_in t

-- a number that has no default
pub record MayBeNumberOf (name : Text) (least most : ℕ) (rows : List Row) (n : Option ℕ) : Type 0 where
  pub absent : one_of name rows ≡ None → n ≡ None
  pub given : (t : Text) → one_of name rows ≡ Some t → IsUnsignedIn least most t → n ≡ Some (number_in t)

-- a flag, which the parser writes out where it is not given
pub record IsFlagOf (name : Text) (rows : List Row) (is : Bool) : Type 0 where
  pub absent : one_of name rows ≡ None → is ≡ false
  pub given : one_of name rows ≡ Some (codes "true") → is ≡ true
  pub untrue : one_of name rows ≡ Some (codes "false") → is ≡ false

-- whether the events of a commit are sent in one frame
abbrev pub is_batches : Delivery → Bool
is_batches Batches = true
is_batches Events = false

-- whether the log has a line for each start and end
abbrev pub is_full : Log → Bool
is_full Full = true
is_full Brief = false

-- how a server is to serve, by its options, with each one's range and default
pub record IsServiceOf (rows : List Row) (s : Service) : Type 0 where
  pub connections : IsNumberOf (codes "connections") 1 64 1 rows s.sizes.connections
  pub outbox : IsNumberOf (codes "outbox") 1 65536 64 rows s.sizes.outbox
  pub outbox_bytes : MayBeNumberOf (codes "outbox-bytes") 1 4294967295 rows s.sizes.outbox_bytes
  pub journal : IsNumberOf (codes "journal") 16 65536 1024 rows s.sizes.journal
  pub journal_bytes : IsNumberOf (codes "journal-bytes") 1048576 4294967295 67108864 rows s.sizes.journal_bytes
  pub forever : IsFlagOf (codes "forever") rows s.forever
  pub batches : IsFlagOf (codes "batches") rows (is_batches s.delivery)
  pub idle : MayBeNumberOf (codes "idle") 1 86400 rows s.idle
  pub log : IsFlagOf (codes "log") rows (is_full s.log)
  pub metrics : MayBeNumberOf (codes "metrics") 0 65535 rows s.metrics
  pub slow : MayBeNumberOf (codes "slow") 1 86400 rows s.slow
  pub aborts : IsFlagOf (codes "abort-waits") rows s.aborts
  pub drains : IsFlagOf (codes "drain") rows s.drains
  pub limit : MayBeNumberOf (codes "transaction-limit") 1 86400 rows s.limit
  pub idle_sessions : MayBeNumberOf (codes "idle-sessions") 1 86400 rows s.idle_sessions

-- where clients are to connect: at the port in its text, or at the socket file whose path is the text as it was written
abbrev pub IsAddressOf : List Row → Address → Type 0
IsAddressOf rows (Port n) = IsNumberOf (codes "port") 0 65535 0 rows n × (first_of (codes "socket") rows ≡ None)
IsAddressOf rows (Socket path) = (first_of (codes "socket") rows ≡ Some (string_bytes path)) × (first_of (codes "port") rows ≡ None)

-- what is wrong with the texts of `--port`, `--socket` and `--connections`: one of the first two and the third are given, and a path is not empty
abbrev pub serve_kinds : Option Text → Option Text → Option Text → Kinds
serve_kinds (Some port) (Some path) connections = ArgumentConflict ∷ []
serve_kinds None None connections = MissingRequiredArgument ∷ []
serve_kinds (Some port) None None = MissingRequiredArgument ∷ []
serve_kinds None (Some path) None = MissingRequiredArgument ∷ []
serve_kinds (Some port) None (Some count) = []
serve_kinds None (Some []) (Some count) = ValueValidation ∷ []
serve_kinds None (Some (b ∷ path)) (Some count) = []

-- the same of a command's options
abbrev pub serve_kinds_of : List Row → Kinds
serve_kinds_of rows = serve_kinds (first_of (codes "port") rows) (first_of (codes "socket") rows) (first_of (codes "connections") rows)

-- and of a command, if it is `serve`
abbrev pub serve_fault : Option (Text × List Row) → Kinds
serve_fault None = []
serve_fault (Some c) = if bytes_eq c.0 (codes "serve") then serve_kinds_of c.1 else []

-- a run is what the words ask for: the command that they name, with its options; the parser refuses words that name none
abbrev pub IsAskedBy : Option (Text × List Row) → Run → Type 0
IsAskedBy None r = Unit {0}
IsAskedBy (Some c) (Serve a s) = (c.0 ≡ codes "serve") × IsAddressOf c.1 a × IsServiceOf c.1 s
IsAskedBy (Some c) (Replay outbox) = (c.0 ≢ codes "serve") × (c.0 ≡ codes "replay" → IsNumberOf (codes "outbox") 1 65536 64 c.1 outbox)
