use Rattle.std.proofs.Common.{◌∙◌, length, take_at, refl, subst, ap, sym}
use Rattle.tab_term.specs.View.{pairs}
use Rattle.tab_etf.specs.Keyed.{AreRanked, picked}
use Rattle.tab_etf.proofs.KeyedLemmas.{are_ranked, ranked_by, picked_length}
use Rattle.tab_etf.proofs.run.in_order.Goals as goal

pub arrange-requires-clause-ranks : goal.arrange-requires-clause-ranks
arrange-requires-clause-ranks c =
    subst AreRanked (sym c.deref_mut-2.ensures.value) (are_ranked c.args.keys.now (length c.args.pairs.items) c.requires c.in_ok-ranks.ranks.items c.in_ok-ranks.ensures)

pub returns : goal.returns
returns c =
    let n = length c.args.pairs.items in
    let ks = c.args.keys.now in
    let ps = c.args.pairs.items in
    let ranked = ranked_by ks n c.requires c.in_ok-ranks.ranks.items c.in_ok-ranks.ensures ps in
    let len = c.deref_mut.ensures.len in
    let same = c.deref_mut.ensures.value in
    let done = c.arrange.ensures (picked ps ks) (picked_length ps ks n c.requires ∙ ap length (sym same)) (λ k d h. rw (same, c.deref_mut-2.ensures.value) (ranked refl k d (rw (← same) h))) in
    c.from_vec.ensures ∙ ap pairs (take_at c.arrange.new.pairs _ c.args.pairs.len (c.arrange.auto.pairs ∙ len) ∙ done)
