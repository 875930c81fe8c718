use Rattle.std.proofs.Common.{◌∙◌, ap, slice_set}
use Rattle.tab_map.proofs.RevisedLemmas.{has_revised, gap_revised}
use Rattle.tab_map.proofs.row.revise.Goals as goal

pub returns-in-Err-clause-ok : goal.returns-in-Err-clause-ok
returns-in-Err-clause-ok g c =
    let gap = rw (c.new.ensures, c.deref.ensures.value) at c.in-Err.ensures.gap in
    gap_revised g.met.K.Ord.total (g.R.Revise.becomes c.args.revision) c.args.key _ _ gap

pub returns-clause-ok : goal.returns-clause-ok
returns-clause-ok g c =
    let has = rw (c.new.ensures, c.deref.ensures.value) at c.in-Ok.ensures.found in
    ap (slice_set c.args.items.now.items c.in-Ok.n) c.in_ok-revise-in-Ok.ensures.ok
    ∙ has_revised g.met.K.Ord.total (g.R.Revise.becomes c.args.revision) c.args.key _ _ c.index_mut.result.now has c.requires c.index_mut.ensures.value
