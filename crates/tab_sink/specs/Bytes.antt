-- The bytes that a sink was given (this project's own).
use Rattle.std.specs.Prelude.{ℕ, Bool, List, Option}
use Rattle.std.specs.Io.KnownBytes.{append_known}
use Rattle.tab_sink.specs.declared.Sink.{Sink}
use Rattle.tab_sink.specs.Rests.{rest_of}

-- those that are written, if they are known, and then those that remain
abbrev pub sink_bytes : {W : Type 0} → (W → Option (List ℕ)) → Sink W → Option (List ℕ)
sink_bytes contents s = append_known (contents s.device.inner) (rest_of s.rest)

-- a write has failed, or a long frame has ended before its last piece
abbrev pub is_broken : {W : Type 0} → Sink W → Bool
is_broken s = s.broken
