use Rattle.std.proofs.Common.{◌+◌, drop, sym, ap, ap₂, ◌∙◌, subst}
use Rattle.std.proofs.lemmas.List.{at_drop_more}
use Rattle.tab_model.specs.Tables.{apply, rows_after, is_ordered}
use Rattle.tab_model.proofs.ChangeLaws.{ordered-apply}
use Rattle.tab_index.specs.FurtherOf.{AreApart}
use Rattle.tab_index.specs.Indexed.{AreIndexesOf}
use Rattle.tab_index.proofs.FurtherRows.{apart_apply}
use Rattle.tab_index.proofs.table.change_both.Goals as goal

pub loop-update-preserved : goal.loop-update-preserved
loop-update-preserved c =
    let was = c.loop-update.rows in
    let kind = c.args.rows.now.0 in
    let change = c.update-item.result in
    let kept = c.loop-update.invariant in
    let changes = c.args.updates.now in
    let i = c.loop-update.update-index in
    let rows = ap (λ v. v.1) c.in_ok-update.ensures.ok in
    record {
      kind = ap (λ v. v.0) c.in_ok-update.ensures.ok ∙ kept.kind;
      ordered = ap is_ordered rows ∙ ordered-apply was.0 was.1 change kept.ordered;
      apart = subst AreApart (sym rows) (apart_apply was.0 was.1 change kept.ordered kept.apart);
      positions_are = c.in_ok-change_indexes.ensures.positions ∙ kept.positions_are;
      indexes_are = subst (λ r. AreIndexesOf r c.change_indexes.new.indexes.items) (sym rows) c.in_ok-change_indexes.ensures.indexes;
      rows_are =
          ap (λ r. rows_after kind r (drop (i + 1) changes)) (rows ∙ ap₂ (λ k d. apply k was.1 d) kept.kind c.update-item.is)
          ∙ sym (at_drop_more (rows_after kind was.1) changes i change c.loop-update-test.true) ∙ kept.rows_are;
    }
