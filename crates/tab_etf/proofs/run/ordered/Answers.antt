use Rattle.std.proofs.Common.{◌∙◌, ap, sym, subst, take_at, Ok, length}
use Rattle.tab_term.specs.View.{pairs}
use Rattle.tab_etf.specs.Keyed.{IsOrder, picked}
use Rattle.tab_etf.proofs.Settling.{is_order, twice, once, all_pairs}
use Rattle.tab_etf.proofs.run.ordered.Goals as goal

pub returns-in-Some : goal.returns-in-Some
returns-in-Some c = λ es holds.
    let perm = rw c.deref_mut.ensures.value at c.sort_and_find.ensures.permutation in
    let up = rw c.deref.ensures.value at c.sort_and_find.ensures.sorted in
    let first = rw c.deref.ensures.value at c.in-Some.ensures.first in
    rw c.stop.ensures (twice c.args.run.spelled.items c.args.run.keys.items es holds.0 c.sort_and_find.new.keys perm up (λ ps. Ok ps) c.in-Some.key first)

pub in_order-requires : goal.in_order-requires
in_order-requires c =
    let perm = rw c.deref_mut.ensures.value at c.sort_and_find.ensures.permutation in
    let order = is_order c.args.run.spelled.items c.args.run.keys.items c.requires.0 c.requires.1.0 c.sort_and_find.new.keys perm (length c.args.run.pairs.items) c.requires.1.1.len in
    let same = c.deref-2.ensures.value ∙ take_at c.sort_and_find.new.keys _ c.args.run.keys.len (c.sort_and_find.auto.keys ∙ c.deref_mut.ensures.len) in
    subst (λ ks. IsOrder ks (length c.args.run.pairs.items)) (sym same) order

pub returns : goal.returns
returns c = λ es holds.
    let perm = rw c.deref_mut.ensures.value at c.sort_and_find.ensures.permutation in
    let up = rw c.deref.ensures.value at c.sort_and_find.ensures.sorted in
    let none = rw c.deref.ensures.value at c.in_default.ensures.first in
    let same = c.deref-2.ensures.value ∙ take_at c.sort_and_find.new.keys _ c.args.run.keys.len (c.sort_and_find.auto.keys ∙ c.deref_mut.ensures.len) in
    once c.args.run.spelled.items c.args.run.keys.items es holds.0 c.sort_and_find.new.keys perm up (λ ps. Ok ps) none
    ∙ ap Ok (all_pairs c.args.run.spelled.items c.args.run.keys.items es holds.0 c.sort_and_find.new.keys perm up c.args.run.pairs.items holds.1)
    ∙ ap (λ ks. Ok (pairs (picked c.args.run.pairs.items ks))) (sym same) ∙ ap Ok (sym c.in_ok-in_order.ensures)
