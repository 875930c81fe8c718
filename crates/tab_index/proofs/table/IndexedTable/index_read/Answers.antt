use Rattle.std.proofs.Common.{sym, ap, ◌∙◌, subst, List, Option}
use Rattle.std.specs.Prelude.{IfSome}
use Rattle.std.specs.List.{filter}
use Rattle.std.proofs.lemmas.Result.{IfOk-weaker}
use Rattle.tab_term.specs.declared.term.Term.{Term}
use Rattle.tab_term.specs.Order.{term_cmp}
use Rattle.tab_term.specs.View.{term}
use Rattle.tab_map.specs.KeyList.{KeysAscend}
use Rattle.tab_lists.specs.ByKey.{Entry, at_keys, merged}
use Rattle.tab_model.specs.Names.{plain_terms}
use Rattle.tab_model.specs.Tables.{Rows}
use Rattle.tab_model.specs.WholeTables.{index_read}
use Rattle.tab_rows.specs.Joined.{joined}
use Rattle.tab_index.specs.IndexOf.{has_value, AreKeysWith}
use Rattle.tab_index.proofs.QueryLemmas.{index_found}
use Rattle.tab_index.proofs.table.IndexedTable.index_read.Goals as goal

pub returns-in-Some : goal.returns-in-Some
returns-in-Some c =
    let s = c.in_ok-snapshot.snapshot in
    let m = c.in_ok-snapshot.ensures in
    let rows = c.args.self.now.rows in
    let ks = c.in-Some.keys in
    let p = c.args.position in
    let x = term c.args.value.now in
    let in_order = subst (λ (o : Option (List Term)). IfSome o (KeysAscend term_cmp)) c.in-Some.is c.in_ok-keys.ensures.in_order in
    let with_value = subst (λ (o : Option (List Term)). IfSome o (AreKeysWith rows p x)) c.in-Some.is c.in_ok-keys.ensures.keys in
    IfOk-weaker c.from_query.result _ _
    (λ found e. e ∙ ap (λ (t : Term). plain_terms (filter (has_value p (term t)) (joined (merged s.own (at_keys ks s.committed))))) c.in_ok-try_clone.ensures
    ∙ ap (λ (xs : List Entry). plain_terms (filter (has_value p x) (joined (merged xs (at_keys ks s.committed))))) m.own
    ∙ ap plain_terms (index_found s.committed ks p x m.order in_order (subst (λ (rs : Rows). AreKeysWith rs p x ks) (sym m.records) with_value))
    ∙ ap (λ (rs : Rows). plain_terms (index_read rs p x)) m.records)
    c.from_query.ensures

pub returns-in-None : goal.returns-in-None
returns-in-None c =
    let s = c.in_ok-snapshot.snapshot in
    let m = c.in_ok-snapshot.ensures in
    let p = c.args.position in
    let x = term c.args.value.now in
    IfOk-weaker c.from_query-in-None.result _ _
    (λ found e. e ∙ ap (λ (t : Term). plain_terms (filter (has_value p (term t)) (joined (merged s.own s.committed)))) c.in_ok-try_clone.ensures
    ∙ ap (λ (xs : List Entry). plain_terms (index_read (joined (merged xs s.committed)) p x)) m.own
    ∙ ap (λ (rs : Rows). plain_terms (index_read rs p x)) m.records)
    c.from_query-in-None.ensures
