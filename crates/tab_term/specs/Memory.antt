-- How many bytes of memory a term takes (this project's own): a term has 32 bytes of its own, and the text of an atom, the
-- bytes of a binary and the members of a tuple, a list or a map are outside them.
use Rattle.std.specs.Prelude.{ℕ, ◌+◌, length}
use Rattle.tab_term.specs.Data.{PlainTerm, int, atom, tuple, list, bin, map, PlainTerms, none, one_more, PlainPairs, no_pair, one_pair}

abbrev mutual
  -- the bytes of a term
  pub memory : PlainTerm → ℕ
  memory (int z) = 32
  memory (atom s) = length s + 32
  memory (tuple ts) = memories ts + 32
  memory (list ts) = memories ts + 32
  memory (bin b) = length b + 32
  memory (map ps) = pair_memories ps + 32

  -- the bytes of these terms
  pub memories : PlainTerms → ℕ
  memories none = 0
  memories (one_more t ts) = memory t + memories ts

  -- the bytes of the keys and values of these pairs
  pub pair_memories : PlainPairs → ℕ
  pair_memories no_pair = 0
  pair_memories (one_pair k x ps) = memory k + memory x + pair_memories ps

-- the bytes of an event's record or key, by the elements of its body; the records before are the table's
abbrev pub record_memory : PlainTerms → ℕ
record_memory (one_more tag (one_more what (one_more tid none))) = memory what
record_memory (one_more tag (one_more table (one_more what others))) = memory what
record_memory ts = 0

-- the bytes of an event that no table has
abbrev pub event_memory : PlainTerm → ℕ
event_memory (tuple (one_more word (one_more (tuple body) none))) = record_memory body
event_memory t = 0

-- the bytes of these events
abbrev pub event_memories : PlainTerms → ℕ
event_memories none = 0
event_memories (one_more t ts) = event_memory t + event_memories ts
