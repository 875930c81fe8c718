use Rattle.std.proofs.Common.{sym, subst}
use Rattle.tab_index.specs.IndexOf.{IsIndexOf}
use Rattle.tab_index.specs.Pairs.{HasPairs, CountsPairs}
use Rattle.tab_index.proofs.FurtherPairs.{further_of_pairs}
use Rattle.tab_index.proofs.PairsLemmas.{index_of_pairs}
use Rattle.tab_index.proofs.building.entries_of.Goals as goal

pub returns-clause-index : goal.returns-clause-index
returns-clause-index c =
    let p = c.args.position in
    let rows = c.args.rows.now.1 in
    let es = c.in_ok-entries.entries.items in
    let has = subst (λ qs. HasPairs qs es) c.as_slice.ensures.value c.in_ok-entries.ensures.pairs in
    subst (IsIndexOf rows p) (sym c.in_ok-from_sorted.ensures) (index_of_pairs p rows c.in_ok-pairs.pairs.items c.sort_pairs.new.pairs.items es c.in_ok-pairs.ensures c.sort_pairs.ensures.permutation has)

pub returns-clause-further : goal.returns-clause-further
returns-clause-further c =
    let p = c.args.position in
    let rows = c.args.rows.now.1 in
    let ms = c.grouped.new.further.by_key in
    let has = subst (λ qs. CountsPairs qs ms) c.as_slice.ensures.value c.in_ok-entries.ensures.further in
    further_of_pairs p rows c.in_ok-pairs.pairs.items c.sort_pairs.new.pairs.items ms c.in_ok-pairs.ensures c.sort_pairs.ensures.permutation has
