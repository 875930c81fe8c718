use Rattle.tab_map.proofs.EntriesLeftLemmas.{left_all, left_is, left_ahead}
use Rattle.tab_map.proofs.Map.iter.Goals as goal

pub invariant_of-result : goal.invariant_of-result
invariant_of-result g c =
    let all = left_all g.met.K.Ord.total c.args.self.now c.start.ensures.ascends in
    (c.start.ensures.ascends, left_ahead g.met.K.Ord.total _ _ c.start.result all c.start.ensures.ahead)

pub returns-clause-entries : goal.returns-clause-entries
returns-clause-entries g c =
    let all = left_all g.met.K.Ord.total c.args.self.now c.start.ensures.ascends in
    left_is g.met.K.Ord.total _ _ c.start.result all c.start.ensures.ahead
