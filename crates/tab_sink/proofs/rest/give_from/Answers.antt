use Rattle.std.proofs.Common.{arith, length, drop, ◌-◌, ◌∙◌}
use Rattle.std.proofs.lemmas.List.{length-take, length-drop}
use Rattle.tab_sink.proofs.RestsLemmas.{sends_then, sends_part}
use Rattle.tab_sink.proofs.rest.give_from.Goals as goal

pub loop-from-preserved : goal.loop-from-preserved
loop-from-preserved g c =
    let bs = c.args.bytes.now in
    let i = c.loop-from.from in (
      omega (arith, c.in_ok-from.ensures.bound, length-take (length bs - i) (drop i bs), length-drop i bs),
      c.in_ok-from.ensures.same ∙ c.loop-from.invariant.1,
      sends_then _ _ _ _ _ _ c.loop-from.invariant.2 (sends_part _ _ bs i c.in_ok-from.field-0 c.loop-from.invariant.0 c.in_ok-from.ensures.bytes),
    )
