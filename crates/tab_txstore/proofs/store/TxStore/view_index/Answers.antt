use Rattle.std.proofs.Common.{ap, ◌∙◌, subst, List, Option}
use Rattle.std.specs.Prelude.{IfSome}
use Rattle.std.specs.List.{filter}
use Rattle.std.proofs.lemmas.Result.{IfOk-weaker}
use Rattle.tab_term.specs.declared.term.Term.{Term}
use Rattle.tab_term.specs.View.{term}
use Rattle.tab_term.specs.Order.{term_cmp}
use Rattle.tab_map.specs.KeyList.{KeysAscend}
use Rattle.tab_lists.specs.ByKey.{joined, at_keys}
use Rattle.tab_index.specs.IndexOf.{has_value, AreKeysWith}
use Rattle.tab_model.specs.Names.{plain_terms}
use Rattle.tab_model.specs.WholeTables.{index_read}
use Rattle.tab_txstore.specs.Merged.{merged}
use Rattle.tab_txstore.specs.Overlays.{Touched, touched}
use Rattle.tab_txstore.proofs.MatchLemmas.{whole_seen}
use Rattle.tab_txstore.proofs.IndexLemmas.{index_seen}
use Rattle.tab_txstore.proofs.store.TxStore.view_index.Goals as goal

pub returns-in-Some : goal.returns-in-Some
returns-in-Some c =
    let s = c.in_ok-snapshot.snapshot in
    let m = c.in_ok-snapshot.ensures in
    let own = touched c.args.self.now.levels.now.overlay c.args.committed.now.def.name in
    let ks = c.in-Some.keys in
    let p = c.args.position in
    let in_order = subst (λ (o : Option (List Term)). IfSome o (KeysAscend term_cmp)) c.in-Some.is c.in_ok-keys.ensures.in_order in
    let with_value = subst (λ (o : Option (List Term)). IfSome o (AreKeysWith c.args.committed.now.rows p (term c.args.value.now))) c.in-Some.is c.in_ok-keys.ensures.keys in
    IfOk-weaker c.from_query.result _ _
    (λ all e seen h. e ∙ ap (λ (t : Term). plain_terms (filter (has_value p (term t)) (joined (merged s.own (at_keys ks s.committed))))) c.in_ok-try_clone.ensures
    ∙ ap (λ (xs : Touched). plain_terms (filter (has_value p (term c.args.value.now)) (joined (merged xs (at_keys ks s.committed))))) m.own
    ∙ ap plain_terms (index_seen own s.committed ks c.args.committed.now.rows seen p (term c.args.value.now) m.committed m.order m.ascends in_order with_value h))
    c.from_query.ensures

pub returns-in-None : goal.returns-in-None
returns-in-None c =
    let s = c.in_ok-snapshot.snapshot in
    let m = c.in_ok-snapshot.ensures in
    let own = touched c.args.self.now.levels.now.overlay c.args.committed.now.def.name in
    let p = c.args.position in
    IfOk-weaker c.from_query-in-None.result _ _
    (λ all e seen h. e ∙ ap (λ (t : Term). plain_terms (filter (has_value p (term t)) (joined (merged s.own s.committed)))) c.in_ok-try_clone.ensures
    ∙ ap (λ rs. plain_terms (index_read rs p (term c.args.value.now))) (whole_seen (merged s.own s.committed) own s.committed c.args.committed.now.rows seen (ap (λ (xs : Touched). merged xs s.committed) m.own) m.committed m.order m.ascends h))
    c.from_query-in-None.ensures
