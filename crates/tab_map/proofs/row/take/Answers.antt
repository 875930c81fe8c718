use Rattle.std.proofs.Common.{arith, subst, sym, ◌∙◌}
use Rattle.tab_map.specs.Entries.{Ascends}
use Rattle.tab_map.specs.Places.{HasAt, IsGap}
use Rattle.tab_map.proofs.PlacesLemmas.{has_remove, gap_remove}
use Rattle.tab_map.proofs.row.take.Goals as goal

pub returns-in-Ok : goal.returns-in-Ok
returns-in-Ok g c =
    c.remove.ensures.items ∙ has_remove g.met.K.Ord.total c.args.sought.now _ _ (subst (λ es. HasAt g.K.Ord.cmp c.args.sought.now es c.in-Ok.n) c.deref.ensures.value c.in-Ok.ensures.found) c.requires

pub returns-in-Err : goal.returns-in-Err
returns-in-Err g c =
    gap_remove g.K.Ord.cmp c.args.sought.now _ _ (subst (λ es. IsGap g.K.Ord.cmp c.args.sought.now es c.in-Err.field-0) c.deref.ensures.value c.in-Err.ensures.gap)

pub place-requires : goal.place-requires
place-requires g c = subst (Ascends g.K.Ord.cmp) (sym c.deref.ensures.value) c.requires

pub remove-requires : goal.remove-requires
remove-requires g c =
    let place = rw c.deref.ensures.value at c.in-Ok.ensures.found_in_row in
    omega (arith, place, c.args.items.now.ok)
