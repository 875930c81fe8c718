use Rattle.std.proofs.Common.{ℕ, List, length, sym, subst}
use Rattle.tab_journal.specs.Survivors.{Falls}
use Rattle.tab_journal.proofs.SurvivorLemmas.{falls_rest}
use Rattle.tab_journal.proofs.survivors.Survivors.close.Goals as goal

pub invariant_of-self : goal.invariant_of-self
invariant_of-self c =
    subst (λ (ns : List ℕ). Falls (length c.self.inside.updates.items) ns) (sym c.pop_front-parent.ensures.rest)
    (falls_rest (length c.self.inside.updates.items) c.self.inside.begun.items c.self.invariant)
