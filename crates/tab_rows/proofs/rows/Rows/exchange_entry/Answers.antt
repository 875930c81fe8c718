use Rattle.std.proofs.Common.{◌≡◌, ◌-◌, ◌+◌, length, ap, sym, ◌∙◌, subst, arith}
use Rattle.tab_term.specs.View.{term}
use Rattle.tab_model.specs.Names.{terms_list}
use Rattle.tab_model.specs.Tables.{at, put}
use Rattle.tab_rows.specs.Joined.{joined, IsKept}
use Rattle.tab_model.specs.OnlyRecords.{record_in}
use Rattle.tab_rows.proofs.Cells.{Writes, put_set}
use Rattle.tab_rows.proofs.SizeLemmas.{counted_insert, at_within}
use Rattle.tab_rows.proofs.rows.Rows.exchange_entry.Goals as goal

pub overflow_sub-self : goal.overflow_sub-self
overflow_sub-self c =
    let before = c.count_of.ensures ∙ ap length c.in_ok-former.ensures.former in
    omega (arith, before, at_within (joined c.self.inside.records) (term c.args.entry.0), c.in_ok-size.ensures, c.self.invariant.counted)

pub invariant_of-self-2 : goal.invariant_of-self-2
invariant_of-self-2 c =
    let entry = c.args.entry in
    let row = record_in entry in
    let only = c.requires.only.only in
    let written = put_set c.self.inside.records entry.0 row entry.1 c.requires.only.key c.self.invariant.order only in
    let one = ap length only in
    let before = c.count_of.ensures ∙ ap length c.in_ok-former.ensures.former in
    let within = at_within (joined c.self.inside.records) (term entry.0) in
    let size : c.in_ok-size.size - c.count_of.result ≡ c.self.inside.size - c.count_of.result + length (terms_list entry.1) =
    omega (arith, one, c.in_ok-size.ensures, before, within, c.self.invariant.counted) in
    subst (λ es. IsKept es (c.in_ok-size.size - c.count_of.result)) (sym (c.in_ok-former.ensures.ok)) record {
      order = Writes.order written;
      counted = counted_insert c.self.inside.records entry.0 entry.1 c.self.inside.size c.count_of.result _ c.self.invariant before size;
    }

pub returns-clause-ok : goal.returns-clause-ok
returns-clause-ok c =
    let entry = c.args.entry in
    let row = record_in entry in
    let written = put_set c.self.inside.records entry.0 row entry.1 c.requires.only.key c.self.invariant.order c.requires.only.only in
    ap (λ rows. (c.self.inside.kind, rows)) (ap joined (c.in_ok-former.ensures.ok) ∙ Writes.list written)
    ∙ ap (λ k. (c.self.inside.kind, put k (joined c.self.inside.records) (term row))) (sym (ap (λ v. v.0) c.self.view_is ∙ c.requires.kind))
    ∙ ap (λ v. (v.0, put v.0 v.1 (term row))) c.self.view_is

pub returns-clause-former : goal.returns-clause-former
returns-clause-former c = c.in_ok-former.ensures.former ∙ ap (λ v. at v.1 (term c.args.entry.0)) c.self.view_is
