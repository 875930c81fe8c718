use Rattle.std.proofs.Common.{◌++◌, [], ◌∷◌, take, add-one, arith, sym, ap, ◌∙◌}
use Rattle.std.proofs.Math.Seq.{take-suc}
use Rattle.tab_map.proofs.row.copied.Goals as goal

-- one item more is copied
pub loop-item-preserved : goal.loop-item-preserved
loop-item-preserved g c =
    let xs = c.args.items.now in
    let n = c.loop-item.item-index in
    let same = c.in_ok-try_clone.ensures ∙ c.item-item.is in
    c.in_ok-push.ensures.items
    ∙ ap (λ z. z ++ c.in_ok-try_clone.field-0 ∷ []) c.loop-item.invariant
    ∙ ap (λ x. take n xs ++ x ∷ []) same
    ∙ sym (take-suc xs n c.item-item.result (omega (arith, c.loop-item-test.true)))
    ∙ sym (ap (λ k. take k xs) (add-one n))
