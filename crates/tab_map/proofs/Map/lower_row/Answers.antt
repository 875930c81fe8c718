use Rattle.std.proofs.Common.{sym, ap, ◌∙◌, subst}
use Rattle.tab_map.specs.Entries.{Ascends}
use Rattle.tab_map.proofs.AscendsLemmas.{ascends_front, last_two}
use Rattle.tab_map.proofs.SplitLemmas.{halves_of}
use Rattle.tab_map.proofs.Map.lower_row.Goals as goal

pub returns-clause-ok : goal.returns-clause-ok
returns-clause-ok g c =
    let p = halves_of _ _ _ c.take_last-entry.result _ _ c.in_ok-upper.ensures.items c.in_ok-upper.ensures.tail c.take_last-entry.ensures.items in
    rw (c.replace.ensures.value, c.replace.ensures.after) (ap (λ v. v.items) (sym c.in-Some-get_mut.ensures.value) ∙ p)

pub invariant_of-below : goal.invariant_of-below
invariant_of-below g c =
    let p = halves_of _ _ _ c.take_last-entry.result _ _ c.in_ok-upper.ensures.items c.in_ok-upper.ensures.tail c.take_last-entry.ensures.items in
    let q = ap (λ v. v.items) (sym c.in-Some-get_mut.ensures.value) ∙ p in
    (rw c.replace.ensures.value (ascends_front g.K.Ord.cmp _ _ (subst (Ascends g.K.Ord.cmp) q c.requires)), tt)

pub returns-clause-sorted : goal.returns-clause-sorted
returns-clause-sorted g c =
    let p = halves_of _ _ _ c.take_last-entry.result _ _ c.in_ok-upper.ensures.items c.in_ok-upper.ensures.tail c.take_last-entry.ensures.items in
    let q = ap (λ v. v.items) (sym c.in-Some-get_mut.ensures.value) ∙ p in
    rw c.replace.ensures.after (last_two g.K.Ord.cmp _ _ _ (subst (Ascends g.K.Ord.cmp) q c.requires))
