use Rattle.std.proofs.Common.{sym, ◌∙◌}
use Rattle.tab_etf.proofs.KnownBytesLemmas.{Consumes-then, fill_more, fill_within}
use Rattle.tab_etf.proofs.receiving.fill.Goals as goal

pub loop-at-preserved : goal.loop-at-preserved
loop-at-preserved g c =
    let i = c.loop-at.at in (
      fill_within c.loop-at.buf c.get.new.buf _ i c.in_ok-came.came c.loop-at.invariant.0 c.in_ok-came.ensures.bound,
      c.in_ok-came.ensures.same ∙ c.loop-at.invariant.1,
      Consumes-then _ _ _ _ _ _ c.loop-at.invariant.2 c.in_ok-came.ensures.bytes.0 (sym (fill_more c.loop-at.buf c.get.new.buf _ i c.in_ok-came.came c.loop-at.invariant.0 c.in_ok-came.ensures.bound)),
    )
