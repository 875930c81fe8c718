use Rattle.std.proofs.Common.{refl, ap, ◌∙◌, arith}
use Rattle.tab_map.specs.InOrder.{spread}
use Rattle.tab_map.proofs.SplitLemmas.{split_child, split_last}
use Rattle.tab_map.proofs.Node.try_split.Goals.{in-Some+in_ok-half-in-Some, in-None+in_ok-half-in-None}
use Rattle.tab_map.proofs.Node.try_split.Goals as goal

pub returns-clause-same : goal.returns-clause-same
returns-clause-same g c =
    ap (λ z. spread z c.match-get_mut.self.last) c.in-Ok.ensures.items ∙ elim c.match-get_mut.branch [
      | in-Some+in_ok-half-in-Some w ↦ rw (w.self-is, w.half-is) (split_child _ _ _ _ _ c.args.self.now.last (omega (arith, w.in-Some.ensures.variant.0 refl, c.reserve.new.self.ok)) w.in-Some.ensures.value w.in_ok-half-in-Some.ensures.ok ∙ ap (λ z. spread z c.args.self.now.last) c.reserve.ensures.items)
      | in-None+in_ok-half-in-None w ↦ rw (w.self-is, w.half-is) (split_last _ _ _ _ _ (omega (arith, c.requires, c.reserve.new.self.ok, c.reserve.ensures.len)) (λ h. cc (w.in-None.ensures.variant.1 (omega (arith, h, c.reserve.new.self.ok)))) w.in_ok-half-in-None.ensures.ok ∙ ap (λ z. spread z c.args.self.now.last) c.reserve.ensures.items)
    ]
