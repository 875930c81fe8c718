use Rattle.std.proofs.Common.{◌++◌, [], ◌∷◌, take, add-one, arith, sym, ap, ◌∙◌}
use Rattle.std.proofs.Math.Seq.{take-suc}
use Rattle.tab_base_tests.proofs.one_shots.copies.Goals as goal

pub loop-part-preserved : goal.loop-part-preserved
loop-part-preserved c =
    let xs = c.args.parts.now in
    let n = c.loop-part.part-index in
    let same = c.in_ok-copy.ensures ∙ c.part-item.is in
    c.in_ok-push.ensures.items
    ∙ ap (λ z. z ++ c.in_ok-copy.field-0 ∷ []) c.loop-part.invariant
    ∙ ap (λ x. take n xs ++ x ∷ []) same
    ∙ sym (take-suc xs n c.part-item.result (omega (arith, c.loop-part-test.true)))
    ∙ sym (ap (λ k. take k xs) (add-one n))
