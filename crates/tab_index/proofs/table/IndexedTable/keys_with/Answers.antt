use Rattle.std.proofs.Common.{sym, ap, ◌∙◌, subst}
use Rattle.std.specs.Prelude.{IfSome}
use Rattle.tab_term.specs.Order.{term_cmp}
use Rattle.tab_term.specs.View.{term}
use Rattle.tab_map.specs.KeyList.{contains_key}
use Rattle.tab_index.specs.Indexed.{indexed_rows, AreIndexesOf, LeadsTo}
use Rattle.tab_index.proofs.BacklogLemmas.{keys_after}
use Rattle.tab_index.proofs.table.IndexedTable.keys_with.Goals as goal

pub returns-in_ok-keys_onto-in-Some-backlog-clause-keys : goal.returns-in_ok-keys_onto-in-Some-backlog-clause-keys
returns-in_ok-keys_onto-in-Some-backlog-clause-keys c =
    let now = c.self.inside in
    let b = c.in-Some-backlog.backlog in
    let leads = subst (λ o. IfSome o (LeadsTo now.def.value now.rows.1)) c.in-Some-backlog.is c.self.invariant.leads in
    let all = subst (λ o. AreIndexesOf (indexed_rows now.rows.1 o) c.deref.result.now) c.in-Some-backlog.is
    (subst (AreIndexesOf (indexed_rows now.rows.1 now.backlog)) (sym c.deref.ensures.value) c.self.invariant.indexes_are) in
    let index = c.in-Some.ensures.index b.0.1 all in
    keys_after now.def.value.kind b.0.1 c.args.self.now.rows b.1 c.args.position (term c.args.value.now) c.in_ok-keys.keys _ leads.bare.ordered
    (leads.after ∙ ap (λ t. t.rows) c.self.view_is) (λ k. ap (contains_key term_cmp k) c.in_ok-keys.ensures.keys ∙ index.pairs c.args.value.now k)
    c.in_ok-keys_onto-in-Some-backlog.ensures.keys
