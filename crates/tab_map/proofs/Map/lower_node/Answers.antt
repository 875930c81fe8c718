use Rattle.std.proofs.Common.{sym, ap, ◌∙◌, subst, arith, length}
use Rattle.tab_map.specs.Entries.{Ascends}
use Rattle.tab_map.specs.InOrder.{node_entries}
use Rattle.tab_map.proofs.AscendsLemmas.{ascends_front, last_two}
use Rattle.tab_map.proofs.SplitLemmas.{halves_of, spread_halves}
use Rattle.tab_map.proofs.Map.lower_node.Goals as goal

pub returns-clause-ok : goal.returns-clause-ok
returns-clause-ok g c =
    let p = halves_of _ _ _ c.take_last_fitting-middle.result _ _ c.in_ok-upper.ensures.items c.in_ok-upper.ensures.tail c.take_last_fitting-middle.ensures.items in
    rw (c.replace.ensures.value, c.replace.ensures.after) (ap (λ v. node_entries v) (sym c.in-Some-get_mut.ensures.value) ∙ spread_halves _ _ _ _ c.in-Some-get_mut.node.now.last p)

pub invariant_of-below : goal.invariant_of-below
invariant_of-below g c =
    let p = halves_of _ _ _ c.take_last_fitting-middle.result _ _ c.in_ok-upper.ensures.items c.in_ok-upper.ensures.tail c.take_last_fitting-middle.ensures.items in
    let q = ap (λ v. node_entries v) (sym c.in-Some-get_mut.ensures.value) ∙ spread_halves _ _ _ _ c.in-Some-get_mut.node.now.last p in
    (rw c.replace.ensures.value (ascends_front g.K.Ord.cmp _ _ (subst (Ascends g.K.Ord.cmp) q c.requires.sorted)), omega (arith, ap (λ v. length v.items) c.replace.ensures.value, c.take_last_fitting-middle.new.items.ok, c.take_last_fitting-middle.ensures.len, c.in_ok-upper.ensures.len, c.if-len-lt3.false, c.len-2.ensures, c.len.ensures))

pub returns-clause-sorted : goal.returns-clause-sorted
returns-clause-sorted g c =
    let p = halves_of _ _ _ c.take_last_fitting-middle.result _ _ c.in_ok-upper.ensures.items c.in_ok-upper.ensures.tail c.take_last_fitting-middle.ensures.items in
    let q = ap (λ v. node_entries v) (sym c.in-Some-get_mut.ensures.value) ∙ spread_halves _ _ _ _ c.in-Some-get_mut.node.now.last p in
    rw c.replace.ensures.after (last_two g.K.Ord.cmp _ _ _ (subst (Ascends g.K.Ord.cmp) q c.requires.sorted))
