use Rattle.std.proofs.Common.{[], ◌-◌, length, refl, ap, sym, ◌∙◌, subst}
use Rattle.tab_term.specs.View.{term}
use Rattle.tab_model.specs.Tables.{at, delete}
use Rattle.tab_rows.specs.Joined.{joined, IsKept}
use Rattle.tab_rows.specs.Restored.{restored}
use Rattle.tab_rows.proofs.Cells.{order_remove, ordered-joined, deleted}
use Rattle.tab_rows.proofs.RestoredLemmas.{none_restored}
use Rattle.tab_rows.proofs.SizeLemmas.{counted_remove}
use Rattle.tab_rows.proofs.rows.Rows.take_out.Goals as goal

pub invariant_of-self-2 : goal.invariant_of-self-2
invariant_of-self-2 c =
    let before = c.count_at.ensures.count ∙ ap (λ v. length (at v.1 (term c.args.key.now))) (sym c.self.view_is) in
    subst (λ es. IsKept es (c.self.inside.size - c.count_at.result)) (sym (c.in_ok-remove.ensures.ok)) record {
      order = order_remove c.args.key.now c.self.inside.records c.self.invariant.order;
      counted = counted_remove c.self.inside.records c.args.key.now _ c.count_at.result _ c.self.invariant before refl;
    }

pub returns-clause-ok : goal.returns-clause-ok
returns-clause-ok c =
    let es = c.self.inside.records in
    let order = c.self.invariant.order in
    let k = term c.args.key.now in
    ap (λ rows. (c.self.inside.kind, rows)) (ap joined c.in_ok-remove.ensures.ok ∙ deleted c.self.inside.kind es c.args.key.now order ∙ sym (none_restored (joined es) k (ordered-joined es order.ascends order.keyed)))
    ∙ ap (λ v. (v.0, restored v.1 k [])) c.self.view_is

pub returns-clause-deleted : goal.returns-clause-deleted
returns-clause-deleted c =
    ap (λ rows. (c.self.inside.kind, rows)) (ap joined c.in_ok-remove.ensures.ok ∙ deleted c.self.inside.kind c.self.inside.records c.args.key.now c.self.invariant.order)
    ∙ ap (λ v. (v.0, delete v.1 (term c.args.key.now))) c.self.view_is
