use Rattle.std.proofs.Common.{◌++◌, [], ◌∷◌, take, add-one, arith, sym, ap, ◌∙◌}
use Rattle.std.proofs.Math.Seq.{take-suc}
use Rattle.tab_map.proofs.branches.copied.Goals as goal

-- one item more is copied
pub loop-branch-preserved : goal.loop-branch-preserved
loop-branch-preserved g c =
    let xs = c.args.branches.now in
    let n = c.loop-branch.branch-index in
    let same = c.in_ok-share.ensures ∙ c.branch-item.is in
    c.in_ok-push.ensures.items
    ∙ ap (λ z. z ++ c.in_ok-share.field-0 ∷ []) c.loop-branch.invariant
    ∙ ap (λ x. take n xs ++ x ∷ []) same
    ∙ sym (take-suc xs n c.branch-item.result (omega (arith, c.loop-branch-test.true)))
    ∙ sym (ap (λ k. take k xs) (add-one n))
