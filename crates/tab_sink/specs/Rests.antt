-- What is left of frames that were not written whole (this project's own).
use Rattle.std.specs.Prelude.{ℕ, List, [], drop, Option, Some, None}
use Rattle.tab_sink.specs.declared.rest.Rest.{Rest}

-- the bytes that are not written
abbrev pub rest_of : Option Rest → List ℕ
rest_of None = []
rest_of (Some r) = drop r.from r.frames.items
