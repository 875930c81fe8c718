use Rattle.std.proofs.Common.{◌≡◌, ◌+◌, ◌<◌, min, ◌^◌, ◌-◌, drop}
use Rattle.tab_term.specs.Memory.{memories}
use Rattle.tab_term.specs.View.{terms}
use Rattle.tab_journal.proofs.bytes.of_terms.Given as goal

-- the members that are left add the rest
abbrev pub invariant-loop-term : goal.invariant-loop-term
invariant-loop-term l = (l.sum < 2 ^ 64) × (min (l.sum + memories (terms (drop l.term-index l.all))) (2 ^ 64 - 1) ≡ min (memories (terms l.all)) (2 ^ 64 - 1))
