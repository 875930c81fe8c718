use Rattle.std.proofs.Common.{◌∙◌, length-set}
use Rattle.tab_etf.proofs.KeyedLemmas.{no_key, ranks_more}
use Rattle.tab_etf.proofs.run.ranks_of.Goals as goal

pub loop-rank-preserved : goal.loop-rank-preserved
loop-rank-preserved c =
    let old = c.loop-rank.invariant in (
      length-set _ _ _ ∙ old.0,
      ranks_more c.args.keys.now c.loop-rank.ranks.items c.loop-rank.rank no_key c.requires.distinct old.0 c.loop-rank-test.true (c.requires.below c.loop-rank.rank no_key c.loop-rank-test.true) old.1,
    )
