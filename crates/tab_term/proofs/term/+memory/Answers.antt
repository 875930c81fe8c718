use Rattle.std.proofs.Common.{arith}
use Rattle.std.proofs.lemmas.List.{at_drop_all}
use Rattle.tab_term.specs.Memory.{memories, pair_memories}
use Rattle.tab_term.specs.View.{terms, pairs}
use Rattle.tab_term.proofs.term.+memory.Goals as goal

pub Terms::memory-returns : goal.Terms::memory-returns
Terms::memory-returns t c =
    omega (arith, at_drop_all (λ ts. memories (terms ts)) c.deref-t-items.result.now c.loop-t.t-index (omega arith))

pub Pairs::memory-returns : goal.Pairs::memory-returns
Pairs::memory-returns t c =
    omega (arith, at_drop_all (λ ts. pair_memories (pairs ts)) c.deref-p-items.result.now c.loop-p.p-index (omega arith))
