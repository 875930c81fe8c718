use Rattle.std.proofs.Common.{arith, length, drop, ◌-◌, ◌∙◌}
use Rattle.std.proofs.lemmas.List.{length-take, length-drop}
use Rattle.tab_etf.proofs.KnownBytesLemmas.{Appends-then, take_further}
use Rattle.tab_etf.proofs.device.give_all.Goals as goal

pub loop-at-preserved : goal.loop-at-preserved
loop-at-preserved g c =
    let bs = c.args.bytes.now in
    let i = c.loop-at.at in (
      omega (arith, c.in_ok-at.ensures.bound, length-take (length bs - i) (drop i bs), length-drop i bs),
      c.in_ok-at.ensures.same ∙ c.loop-at.invariant.1,
      Appends-then _ _ _ _ _ _ c.loop-at.invariant.2 c.in_ok-at.ensures.bytes (take_further bs i c.in_ok-at.field-0),
    )
