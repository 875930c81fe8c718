use Rattle.std.proofs.Common.{get_or, refl, ◌∙◌, arith}
use Rattle.tab_etf.proofs.Exchanges.{ranked_swap, ranked_by_swap, still_placed, fewer, all_placed}
use Rattle.tab_etf.proofs.run.arrange.Goals as goal

pub loop-i-smaller : goal.loop-i-smaller
loop-i-smaller c =
    let rs = c.loop-i.ranks in
    let i = c.loop-i.i in
    let less = fewer rs c.swap-else-rank-i.new.self i (get_or rs i 0) c.swap-else-rank-i.ensures.after c.loop-i-test.true (c.loop-i.invariant.0.below i c.loop-i-test.true) c.loop-i.invariant.0 refl c.if-rank-i.false in
    let len = c.swap-else-rank-i.ensures.len in
    omega (arith, less, len)

pub loop-i-preserved : goal.loop-i-preserved
loop-i-preserved c =
    let rs = c.loop-i.ranks in
    let i = c.loop-i.i in
    let old = c.loop-i.invariant in
    let by = c.swap-else-rank-i.ensures.by_index in
    let len = c.swap-else-rank-i.ensures.len in
    let pairs_len = c.swap.ensures.len in
    let i_in = c.loop-i-test.true in
    let j_in = old.0.below i i_in in
    let ss = c.swap-else-rank-i.new.self in
    let j = get_or rs i 0 in (
      ranked_swap rs ss i j by len i_in j_in old.0,
      omega (arith, len, pairs_len, old.1),
      pairs_len ∙ old.2,
      still_placed rs ss i j by len i_in j_in old.0 refl c.if-rank-i.false old.3,
      λ sorted first. ranked_by_swap rs ss i j by len i_in j_in sorted c.loop-i.pairs c.swap.new.self c.swap.ensures.by_index pairs_len (omega (arith, old.1)) (old.4 sorted first),
    )

pub returns : goal.returns
returns c = λ sorted len ranked.
    let old = c.loop-i.invariant in
    all_placed sorted c.loop-i.pairs c.loop-i.ranks (omega (arith, len, old.2)) (λ k h. old.3 k (omega (arith, h, old.1))) (old.4 sorted ranked)
