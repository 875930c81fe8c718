use Rattle.std.proofs.Common.{sym, ap, ◌∙◌, ◌||◌, ◌&&◌}
use Rattle.std.proofs.lemmas.List.Folds.{list_any-append}
use Rattle.std.specs.List.{list_any}
use Rattle.tab_term.specs.Same.{same}
use Rattle.tab_term.specs.View.{term}
use Rattle.tab_locks.specs.Questions.{fits}
use Rattle.tab_locks.specs.Spots.{KeySpot}
use Rattle.tab_locks.proofs.keys.Keys.any_at.Goals as goal

pub returns-then-any_at : goal.returns-then-any_at
returns-then-any_at c =
    let p = fits c.args.question.relation (c.args.question.age, c.args.question.write) in
    let passes = (λ (s : KeySpot). same (term c.args.key.now) s.0 && p s.1) in
    c.if-any_at.true ∙ (λ i. (sym c.if-any_at.true ∙ c.any_at.ensures) i || list_any passes c.self.inside.tied)
    ∙ sym (list_any-append passes c.self.inside.first c.self.inside.tied)
    ∙ ap (list_any passes) c.self.view_is

pub returns-else-any_at : goal.returns-else-any_at
returns-else-any_at c =
    let p = fits c.args.question.relation (c.args.question.age, c.args.question.write) in
    let passes = (λ (s : KeySpot). same (term c.args.key.now) s.0 && p s.1) in
    (λ i. (sym c.if-any_at.false ∙ c.any_at.ensures) i || c.any_at-else-any_at.ensures i)
    ∙ sym (list_any-append passes c.self.inside.first c.self.inside.tied)
    ∙ ap (list_any passes) c.self.view_is
