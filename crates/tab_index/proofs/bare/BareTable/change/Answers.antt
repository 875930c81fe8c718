use Rattle.std.proofs.Common.{sym, ap, ◌∙◌, subst}
use Rattle.tab_model.specs.Tables.{is_ordered}
use Rattle.tab_model.proofs.ChangeLaws.{ordered-apply}
use Rattle.tab_index.specs.FurtherOf.{AreApart}
use Rattle.tab_index.proofs.FurtherRows.{apart_apply}
use Rattle.tab_index.proofs.bare.BareTable.change.Goals as goal

pub invariant_of-self-2 : goal.invariant_of-self-2
invariant_of-self-2 c =
    let was = c.self.inside.rows in
    let kept = c.self.invariant in
    let changed = c.in_ok-update.ensures.ok in
    record {
      kind = ap (λ v. v.0) changed ∙ kept.kind;
      ordered = ap is_ordered (ap (λ v. v.1) changed) ∙ ordered-apply was.0 was.1 c.args.update.now kept.ordered;
      apart = subst AreApart (sym (ap (λ v. v.1) changed)) (apart_apply was.0 was.1 c.args.update.now kept.ordered kept.apart);
    }
