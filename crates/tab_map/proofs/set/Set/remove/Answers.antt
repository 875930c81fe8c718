use Rattle.std.proofs.Common.{sym, ap, ◌∙◌}
use Rattle.tab_map.specs.KeyList.{keys, remove_key}
use Rattle.tab_map.specs.Sets.{held}
use Rattle.tab_map.proofs.KeyListLemmas.{keys_remove}
use Rattle.tab_map.proofs.EntriesLemmas.{on_ok_ap}
use Rattle.tab_map.proofs.set.Set.remove.Goals as goal

pub returns-in-Many-clause-ok : goal.returns-in-Many-clause-ok
returns-in-Many-clause-ok g c =
    let same = ap (λ f. keys (held f)) (sym c.in-Many.is) ∙ c.self.view_is in
    on_ok_ap _ keys _ _ _ (sym (keys_remove g.K.Ord.cmp _ _ ∙ ap (remove_key g.K.Ord.cmp c.args.key.now) same)) c.remove.ensures.ok
