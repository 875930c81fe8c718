use Rattle.std.proofs.Common.{ap, ◌∙◌}
use Rattle.std.specs.List.{list_any}
use Rattle.tab_locks.specs.Questions.{fits}
use Rattle.tab_locks.proofs.KeySpots.{any_held}
use Rattle.tab_locks.proofs.tied_keys.TiedKeys.any_key.Goals as goal

pub returns : goal.returns
returns c =
    let p = fits c.args.question.relation (c.args.question.age, c.args.question.write) in
    c.any_of.ensures ∙ any_held p c.self.inside.holders.entries ∙ ap (list_any (λ s. p s.1)) c.self.view_is
