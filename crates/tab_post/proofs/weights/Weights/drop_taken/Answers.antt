use Rattle.std.proofs.Common.{ℕ, ◌+◌, List, drop, ap, ◌∙◌}
use Rattle.std.proofs.lemmas.List.{drop-drop}
use Rattle.tab_post.specs.Weights.{Weighing}
use Rattle.tab_post.proofs.weights.Weights.drop_taken.Goals as goal

pub returns-then-not-drop_oldest : goal.returns-then-not-drop_oldest
returns-then-not-drop_oldest c =
    let n = c.loop.invariant.0 in (
      n + 1,
      c.drop_oldest.ensures ∙ ap (λ (w : Weighing). record w { weights = drop 1 w.weights }) c.loop.invariant.1
          ∙ ap (λ (ws : List ℕ). record c.args.self.now { weights = ws }) (drop-drop 1 n c.args.self.now.weights),
    )

pub loop-preserved : goal.loop-preserved
loop-preserved c =
    let n = c.loop.invariant.0 in (
      n + 1,
      c.drop_oldest.ensures ∙ ap (λ (w : Weighing). record w { weights = drop 1 w.weights }) c.loop.invariant.1
          ∙ ap (λ (ws : List ℕ). record c.args.self.now { weights = ws }) (drop-drop 1 n c.args.self.now.weights),
    )
