use Rattle.std.proofs.Common.{◌≡◌, ◌+◌, ◌<◌, min, ◌^◌, ◌-◌, drop}
use Rattle.tab_term.specs.Memory.{memories, pair_memories}
use Rattle.tab_term.specs.View.{terms, pairs}
use Rattle.tab_term.proofs.term.+memory.Given as goal

abbrev pub invariant-Terms::memory-loop-t : goal.invariant-Terms::memory-loop-t
invariant-Terms::memory-loop-t l = (l.sum < 2 ^ 64) × (min (l.sum + memories (terms (drop l.t-index l.t-items))) (2 ^ 64 - 1) ≡ min (memories l.self) (2 ^ 64 - 1))

abbrev pub invariant-Pairs::memory-loop-p : goal.invariant-Pairs::memory-loop-p
invariant-Pairs::memory-loop-p l = (l.sum < 2 ^ 64) × (min (l.sum + pair_memories (pairs (drop l.p-index l.p-items))) (2 ^ 64 - 1) ≡ min (pair_memories l.self) (2 ^ 64 - 1))
