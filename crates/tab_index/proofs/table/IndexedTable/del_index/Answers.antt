use Rattle.std.proofs.Common.{sym, ap, ap₂, subst}
use Rattle.tab_index.specs.Indexed.{indexed_rows, AreIndexesOf}
use Rattle.tab_index.proofs.IndexedLemmas.{bare_of, leads_of}
use Rattle.tab_index.proofs.table.IndexedTable.del_index.Goals as goal

pub with_indexes-requires-clause-bare : goal.with_indexes-requires-clause-bare
with_indexes-requires-clause-bare c = bare_of _ _ _ _ _ _ c.self.invariant c.deref-2.ensures c.in_ok-share.ensures

pub with_indexes-requires-clause-leads : goal.with_indexes-requires-clause-leads
with_indexes-requires-clause-leads c = leads_of _ _ _ _ _ _ _ c.self.invariant c.deref-2.ensures c.in_ok-share.ensures c.in_ok-backlog.ensures

pub with_indexes-requires-clause-indexes : goal.with_indexes-requires-clause-indexes
with_indexes-requires-clause-indexes c =
    let rows = indexed_rows c.self.inside.rows.1 c.self.inside.backlog in
    let all = subst (AreIndexesOf rows) (sym c.deref.ensures.value) c.self.invariant.indexes_are in
    subst (λ r. AreIndexesOf r c.in_ok-indexes.indexes.items) (sym (ap₂ (λ r b. indexed_rows r b) (ap (λ v. v.1) c.in_ok-share.ensures) c.in_ok-backlog.ensures))
    (c.in_ok-indexes.ensures.indexes rows all)
