use Rattle.std.proofs.Common.{sym, ap, ◌∙◌, subst}
use Rattle.tab_map.specs.KeyList.{keys, KeysAscend}
use Rattle.tab_map.specs.Sets.{held}
use Rattle.tab_map.proofs.KeyListLemmas.{keys_ascend}
use Rattle.tab_map.proofs.set.Set.iter.Goals as goal

pub returns-in-Many-clause-ascends : goal.returns-in-Many-clause-ascends
returns-in-Many-clause-ascends g c =
    let same = ap (λ f. keys (held f)) (sym c.in-Many.is) ∙ c.self.view_is in
    subst (KeysAscend g.K.Ord.cmp) same (keys_ascend g.K.Ord.cmp _ c.iter.ensures.ascends)
