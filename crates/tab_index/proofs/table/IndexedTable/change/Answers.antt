use Rattle.std.proofs.Common.{sym, ap, ◌∙◌, subst, arith}
use Rattle.std.proofs.lemmas.Bool.{eqb-true}
use Rattle.tab_model.specs.Tables.{is_ordered}
use Rattle.tab_model.proofs.ChangeLaws.{ordered-apply}
use Rattle.tab_index.specs.FurtherOf.{AreApart}
use Rattle.tab_index.proofs.FurtherRows.{apart_apply}
use Rattle.tab_index.proofs.table.IndexedTable.change.Goals as goal

-- there is no index to keep
pub invariant_of-self-then-is_empty : goal.invariant_of-self-then-is_empty
invariant_of-self-then-is_empty c =
    let was = c.self.inside.rows in
    let kept = c.self.invariant in
    let changed = c.in_ok-update.ensures.ok in
    let none = eqb-true _ 0 (sym c.if-is_empty.ensures) in
    record {
      kind = ap (λ v. v.0) changed ∙ kept.kind;
      ordered = ap is_ordered (ap (λ v. v.1) changed) ∙ ordered-apply was.0 was.1 c.args.update.now kept.ordered;
      apart = subst AreApart (sym (ap (λ v. v.1) changed)) (apart_apply was.0 was.1 c.args.update.now kept.ordered kept.apart);
      positions_are = kept.positions_are;
      indexes_are = λ k d h. absurd (omega (arith, none, h));
      leads = tt;
    }
