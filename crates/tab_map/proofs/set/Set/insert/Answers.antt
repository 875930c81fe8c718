use Rattle.std.proofs.Common.{sym, ap, ◌∙◌}
use Rattle.tab_map.specs.KeyList.{keys, insert_key}
use Rattle.tab_map.specs.Sets.{held}
use Rattle.tab_map.proofs.KeyListLemmas.{keys_insert}
use Rattle.tab_map.proofs.EntriesLemmas.{on_ok_ap}
use Rattle.tab_map.proofs.set.Set.insert.Goals as goal

pub returns-clause-ok : goal.returns-clause-ok
returns-clause-ok g c =
    on_ok_ap _ keys _ _ _ (sym (keys_insert g.K.Ord.cmp _ _ ∙ ap (λ x. insert_key g.K.Ord.cmp x.0 (keys (held c.self.inside.form))) c.in_ok-new.ensures ∙ ap (insert_key g.K.Ord.cmp c.args.key) c.self.view_is)) c.insert.ensures.ok
