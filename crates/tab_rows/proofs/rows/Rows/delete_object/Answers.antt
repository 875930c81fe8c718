use Rattle.std.proofs.Common.{◌≡◌, ◌+◌, ◌-◌, [], length, refl, ap, sym, ◌∙◌, subst, arith}
use Rattle.tab_term.specs.Data.{count}
use Rattle.tab_term.specs.View.{term}
use Rattle.tab_model.specs.Names.{plain_terms, terms_list}
use Rattle.tab_model.specs.Tables.{at, delete_object}
use Rattle.tab_records.proofs.NumbersLemmas.{list-plain, count-plain}
use Rattle.tab_rows.specs.Joined.{joined, IsKept}
use Rattle.tab_rows.proofs.Cells.{Leaves, object_taken, last_taken}
use Rattle.tab_rows.proofs.SizeLemmas.{left_within, counted_insert, counted_remove, none_counted, count-none, count-list}
use Rattle.tab_rows.proofs.rows.Rows.delete_object.Goals as goal

pub overflow_add-size : goal.overflow_add-size
overflow_add-size c =
    let shown = c.len.ensures ∙ ap count c.in_ok-left.ensures ∙ count-plain _ in
    let fewer = left_within (at c.args.self.now.1 (term c.in_ok-key.key)) (term c.args.row.now) in
    let size = c.self.invariant.counted ∙ ap (λ v. length v.1) c.self.view_is in
    omega (arith, shown, fewer, c.count_at.ensures.count, size, c.count_at.ensures.within, c.self.ranges)

pub invariant_of-self-then-len-eq0 : goal.invariant_of-self-then-len-eq0
invariant_of-self-then-len-eq0 c =
    let es = c.self.inside.records in
    let rows = at (joined es) (term c.in_ok-key.key) in
    let left = c.in_ok-left.ensures ∙ ap (λ v. plain_terms (delete_object (at v.1 (term c.in_ok-key.key)) (term c.args.row.now))) (sym c.self.view_is) in
    let is = ap terms_list left ∙ list-plain _ ∙ ap (λ xs. delete_object xs (term c.args.row.now)) (sym (list-plain rows)) in
    let none = none_counted c.in_ok-left.left (sym c.len-2.ensures ∙ c.if-len-eq0.true) in
    let taken = last_taken es c.in_ok-key.key c.args.row.now (plain_terms rows) c.in_ok-left.left c.in_ok-key.ensures c.self.invariant.order refl is none in
    let before = c.count_at.ensures.count ∙ ap (λ v. length (at v.1 (term c.in_ok-key.key))) (sym c.self.view_is) in
    let shown = c.len.ensures ∙ sym c.len-2.ensures ∙ c.if-len-eq0.true in
    subst (λ fs. IsKept fs (c.self.inside.size - c.count_at.result + c.len.result)) (sym c.in_ok-remove.ensures.ok) record {
      order = Leaves.order taken;
      counted = counted_remove es c.in_ok-key.key c.self.inside.size c.count_at.result _ c.self.invariant before (omega (arith, shown));
    }

pub returns-then-len-eq0-clause-ok : goal.returns-then-len-eq0-clause-ok
returns-then-len-eq0-clause-ok c =
    let es = c.self.inside.records in
    let rows = at (joined es) (term c.in_ok-key.key) in
    let left = c.in_ok-left.ensures ∙ ap (λ v. plain_terms (delete_object (at v.1 (term c.in_ok-key.key)) (term c.args.row.now))) (sym c.self.view_is) in
    let is = ap terms_list left ∙ list-plain _ ∙ ap (λ xs. delete_object xs (term c.args.row.now)) (sym (list-plain rows)) in
    let none = none_counted c.in_ok-left.left (sym c.len-2.ensures ∙ c.if-len-eq0.true) in
    let taken = last_taken es c.in_ok-key.key c.args.row.now (plain_terms rows) c.in_ok-left.left c.in_ok-key.ensures c.self.invariant.order refl is none in
    ap (λ rows. (c.self.inside.kind, rows)) (ap joined c.in_ok-remove.ensures.ok ∙ Leaves.list taken) ∙ ap (λ v. (v.0, delete_object v.1 (term c.args.row.now))) c.self.view_is

pub invariant_of-self-2 : goal.invariant_of-self-2
invariant_of-self-2 c =
    let es = c.self.inside.records in
    let rows = at (joined es) (term c.in_ok-key.key) in
    let left = c.in_ok-left.ensures ∙ ap (λ v. plain_terms (delete_object (at v.1 (term c.in_ok-key.key)) (term c.args.row.now))) (sym c.self.view_is) in
    let is = ap terms_list left ∙ list-plain _ ∙ ap (λ xs. delete_object xs (term c.args.row.now)) (sym (list-plain rows)) in
    let some : terms_list c.in_ok-left.left ≡ [] → ⊥ = λ none. c.if-len-eq0.false (c.len-2.ensures ∙ count-none c.in_ok-left.left none) in
    let taken = object_taken es c.in_ok-key.key c.args.row.now (plain_terms rows) c.in_ok-left.left c.in_ok-key.ensures c.self.invariant.order refl is some in
    let before = c.count_at.ensures.count ∙ ap (λ v. length (at v.1 (term c.in_ok-key.key))) (sym c.self.view_is) in
    subst (λ fs. IsKept fs (c.self.inside.size - c.count_at.result + c.len.result)) (sym c.in_ok-insert.ensures.ok) record {
      order = Leaves.order taken;
      counted = counted_insert es c.in_ok-key.key c.in_ok-left.left c.self.inside.size c.count_at.result _ c.self.invariant before
          (ap (λ n. c.self.inside.size - c.count_at.result + n) (c.len.ensures ∙ count-list c.in_ok-left.left));
    }

pub returns-clause-ok : goal.returns-clause-ok
returns-clause-ok c =
    let es = c.self.inside.records in
    let rows = at (joined es) (term c.in_ok-key.key) in
    let left = c.in_ok-left.ensures ∙ ap (λ v. plain_terms (delete_object (at v.1 (term c.in_ok-key.key)) (term c.args.row.now))) (sym c.self.view_is) in
    let is = ap terms_list left ∙ list-plain _ ∙ ap (λ xs. delete_object xs (term c.args.row.now)) (sym (list-plain rows)) in
    let some : terms_list c.in_ok-left.left ≡ [] → ⊥ = λ none. c.if-len-eq0.false (c.len-2.ensures ∙ count-none c.in_ok-left.left none) in
    let taken = object_taken es c.in_ok-key.key c.args.row.now (plain_terms rows) c.in_ok-left.left c.in_ok-key.ensures c.self.invariant.order refl is some in
    ap (λ rows. (c.self.inside.kind, rows)) (ap joined c.in_ok-insert.ensures.ok ∙ Leaves.list taken) ∙ ap (λ v. (v.0, delete_object v.1 (term c.args.row.now))) c.self.view_is
