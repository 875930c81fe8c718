use Rattle.std.proofs.Common.{◌≡◌, ◌+◌, ◌-◌, ◌∙◌, ap, arith, length, take, drop, length-drop}
use Rattle.std.proofs.lemmas.List.{take_all}
use Rattle.tab_etf.proofs.Cuts.{split_step, told_push}
use Rattle.tab_etf.proofs.splitting.split.Goals as goal

pub loop-count-preserved : goal.loop-count-preserved
loop-count-preserved c =
    let bs = c.args.bytes.now in
    let i = c.loop-count.used in
    let whole : take (length bs - i) (drop i bs) ≡ drop i bs = take_all (length bs - i) (drop i bs) (omega (arith, length-drop i bs)) in
    let here = rw whole at c.in-Whole.ensures in
    rw c.in_ok-push-in-Whole.ensures.items record {
      within = omega (arith, c.loop-count.invariant.within, here.0, length-drop i bs);
      goes = split_step bs c.loop-count.frames.items c.in_ok-of-in-Whole.field-0 i c.in-Whole.count c.loop-count.invariant.goes (c.in_ok-of-in-Whole.ensures.payload ∙ ap (λ k. take k (drop (i + 4) bs)) (omega arith)) here.1;
      told = told_push _ _ c.loop-count.invariant.told c.in_ok-of-in-Whole.ensures.told;
    }
