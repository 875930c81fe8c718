use Rattle.std.proofs.Common.{sym, ap, ap₂, ◌∙◌, subst}
use Rattle.std.proofs.lemmas.Result.{on_ok_weaker}
use Rattle.tab_term.specs.Order.{term_cmp}
use Rattle.tab_term.specs.View.{term}
use Rattle.tab_map.specs.Entries.{insert_entry}
use Rattle.tab_map.specs.KeyList.{insert_key}
use Rattle.tab_index.specs.IndexOf.{IsWith}
use Rattle.tab_index.proofs.IndexOfLemmas.{with_new}
use Rattle.tab_index.proofs.index.Index.put.Goals as goal

pub returns-clause-ok : goal.returns-clause-ok
returns-clause-ok c =
    let es = c.args.self.now.keys in
    let ks = c.args.keys in
    let v = c.args.value.now in
    let k = c.args.key.now in
    let made = c.in_ok-insert.ensures.ok ∙ ap (λ x. insert_key term_cmp x ks) c.in_ok-try_clone.ensures in
    on_ok_weaker c.insert-2.result
    (λ h. subst (λ fs. IsWith es fs (term v) (term k)) (sym (h ∙ ap₂ (λ x y. insert_entry term_cmp (x, y) es) c.in_ok-try_clone-2.ensures made))
    (with_new es v k ks c.requires.ascends c.requires.in_order c.requires.keys))
    c.insert-2.ensures.ok
