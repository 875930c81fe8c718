use Rattle.std.proofs.Common.{sym, subst, take}
use Rattle.tab_term.specs.Order.{term_cmp}
use Rattle.tab_map.specs.Entries.{Ascends}
use Rattle.tab_index.specs.Pairs.{HasPairs}
use Rattle.tab_index.proofs.PairsLemmas.{EndsBefore, ends_up_to, no_pairs, one_more_pair, ends_nowhere, ends_past}
use Rattle.tab_index.proofs.FurtherPairs.{no_counts, one_more_counted}
use Rattle.tab_index.proofs.building.grouped.Goals as goal

pub loop-pair-init : goal.loop-pair-init
loop-pair-init c =
    let qs = c.args.pairs.now in
    let none = sym c.new-entries.ensures.items in
    record {
      has = subst (HasPairs (take 0 qs)) none (no_pairs qs);
      ascends = subst (Ascends term_cmp) none tt;
      ends = subst (EndsBefore qs 0) none (ends_nowhere qs 0);
      counts = no_counts qs c.args.further.now.by_key c.requires.none;
    }

pub add_pair-requires : goal.add_pair-requires
add_pair-requires c =
    let was = c.loop-pair.invariant in
    ends_up_to c.args.pairs.now c.loop-pair.pair-index c.pair-item.result c.loop-pair.entries.items c.requires.sorted c.loop-pair-test.true c.pair-item.is was.ascends was.ends

pub loop-pair-preserved : goal.loop-pair-preserved
loop-pair-preserved c =
    let qs = c.args.pairs.now in
    let i = c.loop-pair.pair-index in
    let q = c.pair-item.result in
    let es = c.loop-pair.entries.items in
    let fs = c.add_pair.new.entries.items in
    let next = c.in_ok-add_pair.ensures.next in
    record {
      has = one_more_pair qs i q es fs c.loop-pair-test.true c.pair-item.is c.loop-pair.invariant.has next.with_pair;
      ascends = next.ascends;
      ends = ends_past qs i q fs c.loop-pair-test.true c.pair-item.is next.last;
      counts = one_more_counted qs i q es c.loop-pair.further.by_key c.add_pair.new.further.by_key c.loop-pair-test.true c.pair-item.is c.loop-pair.invariant.has c.loop-pair.invariant.counts c.in_ok-add_pair.ensures.further;
    }
