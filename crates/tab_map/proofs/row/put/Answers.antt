use Rattle.std.proofs.Common.{sym, ap, subst, slice_set, Some, ◌∙◌}
use Rattle.tab_map.specs.Places.{HasAt, IsGap}
use Rattle.tab_map.proofs.PlacesLemmas.{has_set, has_lookup, gap_insert, gap_lookup}
use Rattle.tab_map.proofs.row.put.Goals as goal

pub returns-in-Ok-clause-ok : goal.returns-in-Ok-clause-ok
returns-in-Ok-clause-ok g c =
    let f = subst (λ k. HasAt g.K.Ord.cmp k c.deref.result.now c.in-Ok.n) c.sought.ensures c.in-Ok.ensures.found in
    ap (slice_set c.args.items.now.items c.in-Ok.n) c.replace.ensures.after
    ∙ has_set g.met.K.Ord.total c.args.entry _ _ (subst (λ es. HasAt g.K.Ord.cmp c.args.entry.0 es c.in-Ok.n) c.deref.ensures.value f) c.requires

pub returns-in-Ok-clause-replaced : goal.returns-in-Ok-clause-replaced
returns-in-Ok-clause-replaced g c =
    let f = subst (λ k. HasAt g.K.Ord.cmp k c.deref.result.now c.in-Ok.n) c.sought.ensures c.in-Ok.ensures.found in
    ap (λ e. Some e.1) c.replace.ensures.value
    ∙ has_lookup g.met.K.Ord.total c.args.entry.0 _ _ _ (subst (λ es. HasAt g.K.Ord.cmp c.args.entry.0 es c.in-Ok.n) c.deref.ensures.value f) c.requires c.index_mut.ensures.value

pub returns-in_ok-insert-in-Err-clause-ok : goal.returns-in_ok-insert-in-Err-clause-ok
returns-in_ok-insert-in-Err-clause-ok g c =
    let f = subst (λ k. IsGap g.K.Ord.cmp k c.deref.result.now c.in-Err.n) c.sought.ensures c.in-Err.ensures.gap in
    c.in_ok-insert-in-Err.ensures.items ∙ gap_insert g.K.Ord.cmp c.args.entry _ _ (subst (λ es. IsGap g.K.Ord.cmp c.args.entry.0 es c.in-Err.n) c.deref.ensures.value f)

pub returns-in_ok-insert-in-Err-clause-replaced : goal.returns-in_ok-insert-in-Err-clause-replaced
returns-in_ok-insert-in-Err-clause-replaced g c =
    let f = subst (λ k. IsGap g.K.Ord.cmp k c.deref.result.now c.in-Err.n) c.sought.ensures c.in-Err.ensures.gap in
    sym (gap_lookup g.K.Ord.cmp c.args.entry.0 _ _ (subst (λ es. IsGap g.K.Ord.cmp c.args.entry.0 es c.in-Err.n) c.deref.ensures.value f))
