use Rattle.std.proofs.Common.{◌≤◌, ◌∙◌, List, length, subst, ap, arith}
use mathlib.Core.List.{IsPrefix}
use Rattle.tab_post.proofs.Prefixes.{prefix_shorter}
use Rattle.tab_post.proofs.prefix.Prefix.follow.Goals as goal

pub returns : goal.returns
returns g c =
    let both = c.learn.new.self.log in
    let this : IsPrefix c.self.inside.seen.log both = subst (λ (l : List g.row.E.Denot). IsPrefix l both) (ap (λ s. s.log) c.again-both.ensures) c.learn.ensures.2 in
    let more : length c.self.inside.seen.log ≤ length c.other.inside.seen.log = omega (arith, c.self.invariant.0, c.other.invariant.0, c.if-other-self.false) in
    record {
      follows = (rw (← c.self.view_is, ← c.other.view_is) (prefix_shorter c.self.inside.seen.log c.other.inside.seen.log both this c.learn.ensures.3 more), c.drop.view_is ∙ c.again.ensures);
    }
