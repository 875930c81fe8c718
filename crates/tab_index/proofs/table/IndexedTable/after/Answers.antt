use Rattle.std.proofs.Common.{sym, ap, ◌∙◌, subst}
use Rattle.std.specs.Prelude.{IfSome}
use Rattle.tab_model.specs.Tables.{rows_after}
use Rattle.tab_index.specs.Indexed.{indexed_rows, IsBare, AreIndexesOf, LeadsTo}
use Rattle.tab_index.proofs.FurtherRows.{bare_after}
use Rattle.tab_index.proofs.BacklogLemmas.{more_leads}
use Rattle.tab_index.proofs.table.IndexedTable.after.Goals as goal

pub invariant_of-result-2 : goal.invariant_of-result-2
invariant_of-result-2 c =
    let now = c.self.inside in
    let def = now.def.value in
    let kept = c.self.invariant in
    let updates = c.args.updates.now in
    let bare : IsBare def now.rows = record { kind = kept.kind; ordered = kept.ordered; apart = kept.apart } in
    let made = c.in_ok-change_rows.ensures in
    let after = bare_after def now.rows _ updates bare made in
    let before = subst (λ o. IfSome o (LeadsTo def now.rows.1)) c.in-Some.is kept.leads in
    let indexes = subst (λ o. AreIndexesOf (indexed_rows now.rows.1 o) now.indexes.items) c.in-Some.is kept.indexes_are in
    record {
      kind = after.kind;
      ordered = after.ordered;
      apart = after.apart;
      positions_are = kept.positions_are;
      indexes_are = subst (λ r. AreIndexesOf r now.indexes.items) (sym (ap (λ v. v.0.1) c.in_ok-add.ensures)) indexes;
      leads =
          subst (λ r. LeadsTo def r c.add.new.self) (sym (ap (λ v. v.1) made ∙ ap (λ k. rows_after k now.rows.1 updates) kept.kind))
          (more_leads def now.rows.1 c.in-Some.backlog c.add.new.self updates before c.in_ok-add.ensures);
    }
