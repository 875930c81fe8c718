use Rattle.std.proofs.Common.{length, ap, sym, ◌∙◌, subst, arith}
use Rattle.tab_term.specs.View.{term}
use Rattle.tab_model.specs.Tables.{at, key, put}
use Rattle.tab_rows.specs.Joined.{joined, IsKept}
use Rattle.tab_rows.proofs.Cells.{Writes, put_first}
use Rattle.tab_rows.proofs.SizeLemmas.{counted_insert}
use Rattle.tab_rows.proofs.rows.Rows.add_first.Goals as goal

pub invariant_of-self-2 : goal.invariant_of-self-2
invariant_of-self-2 c =
    let es = c.self.inside.records in
    let entry = c.in_ok-entry.entry in
    let only = c.in_ok-entry.ensures.only in
    let absent = ap (λ j. at (joined es) j) c.in_ok-entry.ensures.key ∙ ap (λ v. at v.1 (key (term c.args.row.now))) c.self.view_is ∙ c.requires.absent in
    let written = put_first es entry.0 c.args.row.now entry.1 c.in_ok-entry.ensures.key c.self.invariant.order absent only in
    subst (λ es. IsKept es c.in_ok-size.size) (sym (c.in_ok-insert_entry.ensures.ok)) record {
      order = Writes.order written;
      counted = counted_insert es entry.0 entry.1 c.self.inside.size 0 c.in_ok-size.size c.self.invariant (sym (ap length absent)) (omega (arith, ap length only, c.in_ok-size.ensures));
    }

pub returns-clause-ok : goal.returns-clause-ok
returns-clause-ok c =
    let es = c.self.inside.records in
    let entry = c.in_ok-entry.entry in
    let row = term c.args.row.now in
    let absent = ap (λ j. at (joined es) j) c.in_ok-entry.ensures.key ∙ ap (λ v. at v.1 (key row)) c.self.view_is ∙ c.requires.absent in
    let written = put_first es entry.0 c.args.row.now entry.1 c.in_ok-entry.ensures.key c.self.invariant.order absent c.in_ok-entry.ensures.only in
    ap (λ rows. (c.self.inside.kind, rows)) (ap joined (c.in_ok-insert_entry.ensures.ok) ∙ Writes.list written)
    ∙ ap (λ k. (c.self.inside.kind, put k (joined es) row)) (sym (ap (λ v. v.0) c.self.view_is ∙ c.requires.kind))
    ∙ ap (λ v. (v.0, put v.0 v.1 row)) c.self.view_is
