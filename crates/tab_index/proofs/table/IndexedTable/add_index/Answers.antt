use Rattle.std.proofs.Common.{sym, ap, ap₂, ◌∙◌, subst}
use Rattle.tab_index.specs.Indexed.{indexed_rows, IsOf, AreIndexesOf}
use Rattle.tab_index.proofs.IndexedLemmas.{put_at, of_same, bare_of, leads_of}
use Rattle.tab_index.proofs.table.IndexedTable.add_index.Goals as goal

pub with_indexes-requires-clause-bare : goal.with_indexes-requires-clause-bare
with_indexes-requires-clause-bare c = bare_of _ _ _ _ _ _ c.self.invariant c.deref-3.ensures c.in_ok-share.ensures

pub with_indexes-requires-clause-leads : goal.with_indexes-requires-clause-leads
with_indexes-requires-clause-leads c = leads_of _ _ _ _ _ _ _ c.self.invariant c.deref-3.ensures c.in_ok-share.ensures c.in_ok-backlog.ensures

pub with_indexes-requires-clause-indexes : goal.with_indexes-requires-clause-indexes
with_indexes-requires-clause-indexes c =
    let rows = indexed_rows c.self.inside.rows.1 c.self.inside.backlog in
    let shared = subst (AreIndexesOf rows) (sym (c.in_ok-indexes.ensures ∙ c.deref-2.ensures.value)) c.self.invariant.indexes_are in
    let is = c.indexed.ensures in
    let new : IsOf c.indexed.result.now.1 c.in_ok-index.index = record { index = c.in_ok-index.ensures.index; further = c.in_ok-index.ensures.further } in
    subst (λ r. AreIndexesOf r c.insert.new.self.items) (sym (ap₂ (λ r b. indexed_rows r b) (ap (λ v. v.1) c.in_ok-share.ensures) c.in_ok-backlog.ensures))
    (subst (AreIndexesOf rows) (sym c.in_ok-insert.ensures.items) (put_at rows c.in_ok-indexes.indexes.items c.in-Some.place c.in_ok-index.index shared (of_same _ _ c.in_ok-index.index is new)))
