use Rattle.std.proofs.Common.{sym, ap, ◌∙◌, subst}
use Rattle.tab_map.specs.KeyList.{keys, contains_key, KeysAscend}
use Rattle.tab_map.specs.Sets.{held}
use Rattle.tab_map.proofs.KeyListLemmas.{keys_lookup, keys_ascend}
use Rattle.tab_map.proofs.set.Set.contains.Goals as goal

pub returns-in-Many-clause-found : goal.returns-in-Many-clause-found
returns-in-Many-clause-found g c =
    let same = ap (λ f. keys (held f)) (sym c.in-Many.is) ∙ c.self.view_is in
    c.contains_key.ensures.found ∙ keys_lookup g.K.Ord.cmp c.args.key.now _ ∙ ap (contains_key g.K.Ord.cmp c.args.key.now) same

pub returns-in-Many-clause-ascends : goal.returns-in-Many-clause-ascends
returns-in-Many-clause-ascends g c =
    let same = ap (λ f. keys (held f)) (sym c.in-Many.is) ∙ c.self.view_is in
    subst (KeysAscend g.K.Ord.cmp) same (keys_ascend g.K.Ord.cmp _ c.contains_key.ensures.ascends)
