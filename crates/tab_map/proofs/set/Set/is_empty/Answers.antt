use Rattle.std.proofs.Common.{sym, ap, ◌∙◌, subst}
use Rattle.tab_map.specs.KeyList.{keys, KeysAscend}
use Rattle.tab_map.specs.Sets.{held}
use Rattle.tab_map.proofs.KeyListLemmas.{no_keys, keys_ascend}
use Rattle.tab_map.proofs.set.Set.is_empty.Goals as goal

pub returns-in-Many-clause-empty : goal.returns-in-Many-clause-empty
returns-in-Many-clause-empty g c =
    let same = ap (λ f. keys (held f)) (sym c.in-Many.is) ∙ c.self.view_is in
    (λ h. sym same ∙ ap keys (c.is_empty.ensures.empty.0 h), λ h. c.is_empty.ensures.empty.1 (no_keys _ (same ∙ h)))

pub returns-in-Many-clause-ascends : goal.returns-in-Many-clause-ascends
returns-in-Many-clause-ascends g c =
    let same = ap (λ f. keys (held f)) (sym c.in-Many.is) ∙ c.self.view_is in
    subst (KeysAscend g.K.Ord.cmp) same (keys_ascend g.K.Ord.cmp _ c.is_empty.ensures.ascends)
