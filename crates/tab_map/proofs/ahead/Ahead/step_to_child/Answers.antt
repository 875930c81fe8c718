use Rattle.std.proofs.Common.{◌≡◌, ◌∷◌, ◌++◌, length, ◌-◌, take, drop, sym, ap, ◌∙◌}
use Rattle.std.proofs.lemmas.List.{take_rest}
use Rattle.tab_map.specs.Ahead.{behind}
use Rattle.tab_map.specs.InOrder.{spread}
use Rattle.tab_map.proofs.AheadLemmas.{at_branch, last_ahead, child_ahead}
use Rattle.tab_map.proofs.ahead.Ahead.step_to_child.Goals.{in-empty, in-len1-up-branches}
use Rattle.tab_map.proofs.ahead.Ahead.step_to_child.Goals as goal

pub returns : goal.returns
returns g c es f =
    let node = c.in-Some.node in
    let bs = take (length node.branches.now - 1) (drop 1 node.branches.now) in
    let child = c.if-branches-lt1.child.now in
    let h = at_branch c.args.self.now.node c.args.self.now.row.now es node c.branch-item.result f.0 c.in-Some.is c.requires c.in-len1-up.len_at_least c.branch-item.is in
    let is : spread bs node.last.now ≡ child ++ behind bs node.last.now =
    elim c.if-branches-lt1.branch [
      | in-empty w ↦ last_ahead bs node.last.now child w.in-empty.len_below (ap (λ z. z.now) w.child-is)
      | in-len1-up-branches w ↦ child_ahead bs node.last.now child w.next-item.result w.in-len1-up-branches.len_at_least w.next-item.is (ap (λ z. z.now) w.child-is)
    ] in
    let rest = sym (take_rest node.branches.now 1) in
    let steps = h.1 ∙ ap (λ z. c.branch-item.result.entry ∷ (spread z node.last.now ++ h.0)) rest ∙ ap (λ z. c.branch-item.result.entry ∷ (z ++ h.0)) is in
    ((child ++ behind bs node.last.now) ++ h.0, (steps, c.then.ensures.more child h.0 c.start.ensures.ahead))
