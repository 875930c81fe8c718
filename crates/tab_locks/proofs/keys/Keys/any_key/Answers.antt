use Rattle.std.proofs.Common.{sym, ap, ◌∙◌, ◌||◌}
use Rattle.std.proofs.lemmas.List.Folds.{list_any-append}
use Rattle.std.specs.List.{list_any}
use Rattle.tab_locks.specs.Questions.{fits}
use Rattle.tab_locks.specs.Spots.{KeySpot}
use Rattle.tab_locks.proofs.keys.Keys.any_key.Goals as goal

pub returns-then-any_key : goal.returns-then-any_key
returns-then-any_key c =
    let p = fits c.args.question.relation (c.args.question.age, c.args.question.write) in
    let passes = (λ (s : KeySpot). p s.1) in
    c.if-any_key.true ∙ (λ i. (sym c.if-any_key.true ∙ c.any_key.ensures) i || list_any passes c.self.inside.tied)
    ∙ sym (list_any-append passes c.self.inside.first c.self.inside.tied)
    ∙ ap (list_any passes) c.self.view_is

pub returns-else-any_key : goal.returns-else-any_key
returns-else-any_key c =
    let p = fits c.args.question.relation (c.args.question.age, c.args.question.write) in
    let passes = (λ (s : KeySpot). p s.1) in
    (λ i. (sym c.if-any_key.false ∙ c.any_key.ensures) i || c.any_key-else-any_key.ensures i)
    ∙ sym (list_any-append passes c.self.inside.first c.self.inside.tied)
    ∙ ap (list_any passes) c.self.view_is
