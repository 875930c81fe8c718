use Rattle.std.proofs.Common.{ap, ◌∙◌}
use Rattle.std.specs.List.{list_any}
use Rattle.tab_locks.specs.Questions.{fits}
use Rattle.tab_locks.proofs.FirstLocks.{any_holding}
use Rattle.tab_locks.proofs.first_locks.FirstLocks.any_key.Goals as goal

pub returns : goal.returns
returns c =
    let p = fits c.args.question.relation (c.args.question.age, c.args.question.write) in
    c.any.ensures ∙ any_holding p c.self.inside.locks ∙ ap (list_any (λ s. p s.1)) c.self.view_is
