use Rattle.std.proofs.Common.{◌≡◌, ◌-◌, ◌+◌, length, ap, sym, ◌∙◌, subst, arith}
use Rattle.tab_term.specs.Data.{count}
use Rattle.tab_term.specs.View.{term}
use Rattle.tab_model.specs.Names.{terms_list}
use Rattle.tab_rows.specs.Joined.{joined, IsKept}
use Rattle.tab_rows.specs.Restored.{restored}
use Rattle.tab_rows.proofs.Cells.{order_insert}
use Rattle.tab_rows.proofs.RestoredLemmas.{put_back}
use Rattle.tab_rows.proofs.SizeLemmas.{counted_insert, count-list, at_within}
use Rattle.tab_rows.proofs.rows.Rows.put_back.Goals as goal

pub overflow_sub-self : goal.overflow_sub-self
overflow_sub-self c =
    let before = c.count_of.ensures ∙ ap length c.in_ok-former.ensures.former in
    omega (arith, before, at_within (joined c.self.inside.records) (term c.args.entry.0), c.in_ok-size.ensures, c.self.invariant.counted)

pub invariant_of-self-2 : goal.invariant_of-self-2
invariant_of-self-2 c =
    let es = c.self.inside.records in
    let entry = c.args.entry in
    let more = c.len.ensures ∙ ap (λ e. count e.1) c.pair.ensures ∙ count-list entry.1 in
    let before = c.count_of.ensures ∙ ap length c.in_ok-former.ensures.former in
    let within = at_within (joined es) (term entry.0) in
    let size : c.in_ok-size.size - c.count_of.result ≡ c.self.inside.size - c.count_of.result + length (terms_list entry.1) =
    omega (arith, more, c.in_ok-size.ensures, before, within, c.self.invariant.counted) in
    subst (λ es. IsKept es (c.in_ok-size.size - c.count_of.result)) (sym c.in_ok-former.ensures.ok) record {
      order = order_insert entry.0 entry.1 es c.self.invariant.order c.requires;
      counted = counted_insert es entry.0 entry.1 c.self.inside.size c.count_of.result _ c.self.invariant before size;
    }

pub returns-clause-ok : goal.returns-clause-ok
returns-clause-ok c =
    let es = c.self.inside.records in
    let entry = c.args.entry in
    ap (λ rows. (c.self.inside.kind, rows)) (ap joined c.in_ok-former.ensures.ok ∙ put_back entry.0 entry.1 es c.self.invariant.order.ascends c.self.invariant.order.keyed)
    ∙ ap (λ v. (v.0, restored v.1 (term entry.0) (terms_list entry.1))) c.self.view_is
