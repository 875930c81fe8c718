use Rattle.std.proofs.Common.{◌+◌, drop, sym, ap, ap₂, ◌∙◌}
use Rattle.std.proofs.lemmas.List.{at_drop_more}
use Rattle.tab_model.specs.Tables.{apply, rows_after}
use Rattle.tab_index.proofs.table.change_rows.Goals as goal

pub loop-update-preserved : goal.loop-update-preserved
loop-update-preserved c =
    let was = c.loop-update.rows in
    let kept = c.loop-update.invariant in
    let changes = c.args.updates.now in
    let i = c.loop-update.update-index in
    let change = c.update-item.result in
    let kind = c.args.rows.now.0 in
    record {
      kind = ap (λ v. v.0) c.in_ok-update.ensures.ok ∙ kept.kind;
      rows_are =
          ap (λ r. rows_after kind r (drop (i + 1) changes)) (ap (λ v. v.1) c.in_ok-update.ensures.ok ∙ ap₂ (λ k d. apply k was.1 d) kept.kind c.update-item.is)
          ∙ sym (at_drop_more (rows_after kind was.1) changes i change c.loop-update-test.true) ∙ kept.rows_are;
    }
