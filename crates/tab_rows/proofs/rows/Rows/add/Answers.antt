use Rattle.std.proofs.Common.{◌∷◌, [], length, length-append, ap, sym, ◌∙◌, subst, arith}
use Rattle.std.specs.Prelude.{if◌then◌else◌}
use Rattle.std.specs.Option.{option_copied}
use Rattle.tab_term.specs.Order.{term_cmp}
use Rattle.tab_term.specs.View.{term}
use Rattle.tab_map.specs.Entries.{insert_entry}
use Rattle.tab_map.specs.Revised.{revised_as}
use Rattle.tab_records.specs.Forms.{with_one}
use Rattle.tab_model.specs.Names.{terms_list}
use Rattle.tab_model.specs.Tables.{at, put}
use Rattle.tab_rows.specs.Joined.{joined, followed_by, IsKept}
use Rattle.tab_rows.proofs.Cells.{Writes, found_in, at-joined, at_found, put_there, put_new, followed}
use Rattle.tab_rows.proofs.SizeLemmas.{counted_insert, at_within}
use Rattle.tab_rows.proofs.rows.Rows.add.Goals as goal

pub add_first-requires-clause-absent : goal.add_first-requires-clause-absent
add_first-requires-clause-absent c =
    ap (at c.args.self.now.1) (sym c.in_ok-key.ensures)
    ∙ ap (λ v. at v.1 (term c.in_ok-key.key)) (sym c.self.view_is)
    ∙ at-joined c.self.inside.records c.in_ok-key.key c.self.invariant.order.ascends c.self.invariant.order.keyed
    ∙ ap found_in (sym c.in_default.ensures.value)

pub returns-then-contains-clause-ok : goal.returns-then-contains-clause-ok
returns-then-contains-clause-ok c =
    let es = c.self.inside.records in
    let before = at_found es c.in_ok-key.key c.in-Some.records.now c.self.invariant.order (ap option_copied (sym c.in-Some.is) ∙ c.get.ensures.value) in
    let there = sym c.if-contains.true ∙ c.contains.ensures in
    let stays = put_there es c.in_ok-key.key c.args.row.now c.in-Some.records.now c.in_ok-key.ensures c.self.invariant.order before there in
    sym c.self.view_is ∙ ap (λ rows. (c.self.inside.kind, rows)) stays
    ∙ ap (λ k. (c.self.inside.kind, put k (joined es) (term c.args.row.now))) (sym (ap (λ v. v.0) c.self.view_is ∙ c.requires.kind))
    ∙ ap (λ v. (v.0, put v.0 v.1 (term c.args.row.now))) c.self.view_is

pub invariant_of-self-2 : goal.invariant_of-self-2
invariant_of-self-2 c =
    let es = c.self.inside.records in
    let row = term c.args.row.now in
    let found = ap option_copied (sym c.in-Some.is) ∙ c.get.ensures.value in
    let before = at_found es c.in_ok-key.key c.in-Some.records.now c.self.invariant.order found in
    let keyed = c.in_ok-key.ensures in
    let absent = sym c.if-contains.false ∙ c.contains.ensures in
    let more = followed c.in-Some.records.now row in
    let inserted = ap (λ b. insert_entry term_cmp (c.in_ok-key.key, if b then c.in-Some.records.now else followed_by c.in-Some.records.now row) es) (sym absent) in
    let written = put_new es c.in_ok-key.key c.args.row.now c.in-Some.records.now (followed_by c.in-Some.records.now row) keyed c.self.invariant.order before absent more in
    let here = ap length (sym (ap found_in (sym found)) ∙ sym (at-joined es c.in_ok-key.key c.self.invariant.order.ascends c.self.invariant.order.keyed)) in
    let one_more = ap length more ∙ length-append (terms_list c.in-Some.records.now) (row ∷ []) in
    subst (λ es. IsKept es c.in_ok-size.size) (sym (c.in_ok-revise.ensures.ok ∙ ap (revised_as term_cmp (λ ts. with_one ts row) c.in_ok-key.key es) (sym found) ∙ inserted)) record {
      order = Writes.order written;
      counted = counted_insert es c.in_ok-key.key (followed_by c.in-Some.records.now row) c.self.inside.size (length (terms_list c.in-Some.records.now)) c.in_ok-size.size c.self.invariant here
          (omega (arith, one_more, here, at_within (joined es) (term c.in_ok-key.key), c.self.invariant.counted, c.in_ok-size.ensures));
    }

pub returns-clause-ok : goal.returns-clause-ok
returns-clause-ok c =
    let es = c.self.inside.records in
    let row = term c.args.row.now in
    let found = ap option_copied (sym c.in-Some.is) ∙ c.get.ensures.value in
    let before = at_found es c.in_ok-key.key c.in-Some.records.now c.self.invariant.order found in
    let keyed = c.in_ok-key.ensures in
    let absent = sym c.if-contains.false ∙ c.contains.ensures in
    let inserted = ap (λ b. insert_entry term_cmp (c.in_ok-key.key, if b then c.in-Some.records.now else followed_by c.in-Some.records.now row) es) (sym absent) in
    let written = put_new es c.in_ok-key.key c.args.row.now c.in-Some.records.now (followed_by c.in-Some.records.now row) keyed c.self.invariant.order before absent (followed c.in-Some.records.now row) in
    ap (λ rows. (c.self.inside.kind, rows)) (ap joined (c.in_ok-revise.ensures.ok ∙ ap (revised_as term_cmp (λ ts. with_one ts row) c.in_ok-key.key es) (sym found) ∙ inserted) ∙ Writes.list written)
    ∙ ap (λ k. (c.self.inside.kind, put k (joined es) (term c.args.row.now))) (sym (ap (λ v. v.0) c.self.view_is ∙ c.requires.kind))
    ∙ ap (λ v. (v.0, put v.0 v.1 (term c.args.row.now))) c.self.view_is
