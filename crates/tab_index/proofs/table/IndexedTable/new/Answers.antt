use Rattle.std.proofs.Common.{sym, ap, ◌∙◌, subst}
use Rattle.tab_model.specs.Tables.{is_ordered}
use Rattle.tab_index.specs.Indexed.{AreIndexesOf}
use Rattle.tab_index.proofs.FurtherRows.{none_apart}
use Rattle.tab_index.proofs.table.IndexedTable.new.Goals as goal

pub invariant_of-result : goal.invariant_of-result
invariant_of-result c =
    let none = ap (λ v. v.1) c.new-rows.ensures in
    record {
      kind = ap (λ v. v.0) c.new-rows.ensures ∙ ap (λ d. d.kind) (sym c.in_ok-new.ensures.ok);
      ordered = ap is_ordered none;
      apart = none_apart _ none;
      positions_are = c.in_ok-indexes.ensures.positions ∙ ap (λ d. d.indexes) (sym c.in_ok-new.ensures.ok);
      indexes_are = subst (λ rows. AreIndexesOf rows c.in_ok-indexes.indexes.items) (sym none) c.in_ok-indexes.ensures.indexes;
      leads = tt;
    }
