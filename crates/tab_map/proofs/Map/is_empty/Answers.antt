use Rattle.tab_map.proofs.SpreadLemmas.{is_root, not_bare}
use Rattle.tab_map.proofs.Map.is_empty.Goals as goal

pub returns-in-Node-clause-empty : goal.returns-in-Node-clause-empty
returns-in-Node-clause-empty g c =
    let f = is_root g.K.Ord.cmp c.self.view_is c.self.invariant c.in-Node.is in
    (λ h. cc, λ h. absurd (not_bare g.K.Ord.cmp _ _ _ f h))
